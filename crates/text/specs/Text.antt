-- The text of atoms, values and lines (document 01, "The nightly program").
use Rattle.std.specs.Prelude.{ℕ, ◌-◌, cond, List, [], ◌∷◌, ◌++◌, get_or, drop, ltb}
use Rattle.ac.specs.Values.{Binding}
use Rattle.text.specs.Ascii.{ascii}
use Rattle.text.specs.Decimal.{decimal}

-- v0 to v63, c0 to c63, and n0 and so on
abbrev pub name : ℕ → List ℕ
name a =
    cond (ltb a 64) (ascii "v" ++ decimal a)
    (cond (ltb a 192) (ascii "c" ++ decimal (a - 64)) (ascii "n" ++ decimal (a - 192)))

-- a further atom of a value: the + that joins it, and its name
abbrev pub further : List ℕ → List ℕ
further [] = []
further (a ∷ atoms) = ascii "+" ++ name a ++ further atoms

-- the atoms of a value in order, joined by +
abbrev pub joined : List ℕ → List ℕ
joined [] = []
joined (a ∷ atoms) = name a ++ further atoms

-- the binding whose bytes in the layout of Values these are
abbrev pub binding_of : List ℕ → Binding
binding_of bytes = record { variable = get_or bytes 0 0; value = drop 2 bytes }

-- its name, = and the atoms of its value
abbrev pub bound : Binding → List ℕ
bound b = name b.variable ++ (ascii "=" ++ joined b.value)

-- a further variable: the space before it, and its binding
abbrev pub spaced : List Binding → List ℕ
spaced [] = []
spaced (b ∷ bs) = ascii " " ++ bound b ++ spaced bs

-- A substitution gives for each variable its binding, with one space between variables; one without variables
-- is -.
abbrev pub substitution : List Binding → List ℕ
substitution [] = ascii "-"
substitution (b ∷ bs) = bound b ++ spaced bs
