-- Document 01, "Pairs worked by hand": its lines 1 to 12, and the words in which it prints a pair.
use Rattle.std.specs.Prelude.{ℕ, zero, suc, ◌/◌, ◌%◌, true, false, cond, List, [], ◌∷◌, ◌++◌, map, eqb, ltb, length}
use Rattle.ac.specs.Values.{Binding}
use Rattle.ac.specs.Worked.{Pair, Printed, how_many, rows, balanced_rows, rows_of, the_keys, substitutions}
use Rattle.numbers.specs.Numbers.{number_of}
use Rattle.numbers.specs.declared.Refusal.TheVariants.{NoUnifier}
use Rattle.text.specs.Ascii.{ascii}
use Rattle.text.specs.Decimal.{digit, decimal}
use Rattle.text.specs.Text.{name, joined, substitution}

-- the lines, as they stand in the document
abbrev pub lines : List (List ℕ)
lines =
    ascii "v0 and v1+c0: one, v0=c0+n0 v1=n0."
    ∷ ascii "v0+v1 and v2+v3: rows 0101, 0110, 1001, 1010; keys 6, 7, 9, 11, 13, 14, 15."
    ∷ ascii "v0+v0 and v1+v2: rows 102, 111, 120; keys 2, 3, 5, 6, 7."
    ∷ ascii "v0+c0 and v1+c1: keys 0 and 1; v0=c1 v1=c0, then v0=c1+n0 v1=c0+n0."
    ∷ ascii "v0+v0 and v1+c0: v0=c0 v1=c0, then v0=c0+n0 v1=c0+n0+n0."
    ∷ ascii "v0+v0+v0 and v1+v1: one, v0=n0+n0 v1=n0+n0+n0."
    ∷ ascii "v0 and v0: one, key 1, v0=n0."
    ∷ ascii "c0 and c0: one, key 0, no variables."
    ∷ ascii "v0 and v0+v1: 13, though there is a balanced row."
    ∷ ascii "v0+v1 and c0: 13, though c0 has two rows."
    ∷ ascii "v0+v0 and c0: 13."
    ∷ ascii "v0+v1 and c0+c1: keys 16,777,216 and 268,435,456."
    ∷ []

-- further items, each with the same mark before it
abbrev behind : List ℕ → List (List ℕ) → List ℕ
behind mark [] = []
behind mark (item ∷ items) = mark ++ item ++ behind mark items

-- items with a mark between them
abbrev between : List ℕ → List (List ℕ) → List ℕ
between mark [] = []
between mark (item ∷ items) = item ++ behind mark items

-- two items are joined by a word, others by commas
abbrev in_a_row : List (List ℕ) → List ℕ
in_a_row items = between (cond (eqb (length items) 2) (ascii " and ") (ascii ", ")) items

-- a small number as a word
abbrev word : ℕ → List ℕ
word k = cond (eqb k 1) (ascii "one") (cond (eqb k 2) (ascii "two") (decimal k))

-- a comma and three digits, the last of a longer number
abbrev after_comma : ℕ → List ℕ
after_comma n = ascii "," ++ (digit (n / 100) ∷ digit (n / 10 % 10) ∷ digit (n % 10) ∷ [])

-- a number in decimal with its commas, of which there are fewer than `places`
abbrev grouped_within : ℕ → ℕ → List ℕ
grouped_within zero n = []
grouped_within (suc places) n =
    elim (ltb n 1000) [ true ↦ decimal n | false ↦ grouped_within places (n / 1000) ++ after_comma (n % 1000) ]

-- a number in decimal with a comma before every three digits
abbrev grouped : ℕ → List ℕ
grouped n = grouped_within (suc n) n

-- the numbers of a row, one behind the other
abbrev row_in_words : List ℕ → List ℕ
row_in_words [] = []
row_in_words (k ∷ row) = decimal k ++ row_in_words row

-- the keys; where there are none, the number that is given
abbrev keys_in_words : List ℕ → List ℕ
keys_in_words [] = decimal (number_of NoUnifier)
keys_in_words (key ∷ []) = ascii "key " ++ grouped key
keys_in_words (key ∷ next ∷ keys) = ascii "keys " ++ in_a_row (map grouped (key ∷ next ∷ keys))

-- a substitution
abbrev values_in_words : List Binding → List ℕ
values_in_words [] = ascii "no variables"
values_in_words (b ∷ bs) = substitution (b ∷ bs)

-- what is printed of a pair, in words
abbrev in_words : Printed → List ℕ
in_words (how_many k) = word k
in_words (rows rs) = ascii "rows " ++ in_a_row (map row_in_words rs)
in_words (balanced_rows k) =
    ascii "though there "
    ++ cond (eqb k 1) (ascii "is a balanced row") (ascii "are " ++ word k ++ ascii " balanced rows")
in_words (rows_of a k) =
    ascii "though " ++ name a ++ ascii " has " ++ word k ++ cond (eqb k 1) (ascii " row") (ascii " rows")
in_words (the_keys ks) = keys_in_words ks
in_words (substitutions vs) = between (ascii ", then ") (map values_in_words vs)

-- the mark after it: a semicolon after several rows or keys, else a comma
abbrev mark_after : Printed → List ℕ
mark_after (how_many k) = ascii ", "
mark_after (rows rs) = ascii "; "
mark_after (balanced_rows k) = ascii ", "
mark_after (rows_of a k) = ascii ", "
mark_after (the_keys ks) = cond (ltb 1 (length ks)) (ascii "; ") (ascii ", ")
mark_after (substitutions vs) = ascii ", "

-- all that is printed of a pair: the first, and then the others
abbrev all_in_words : Printed → List Printed → List ℕ
all_in_words what [] = in_words what
all_in_words what (next ∷ others) = in_words what ++ mark_after what ++ all_in_words next others

-- what stands after the colon
abbrev after_colon : List Printed → List ℕ
after_colon [] = []
after_colon (what ∷ others) = all_in_words what others

-- the line of a pair
abbrev pub line_of : Pair → List ℕ
line_of pair =
    joined pair.left
    ++ ascii " and "
    ++ joined pair.right
    ++ ascii ": "
    ++ after_colon pair.printed
    ++ ascii "."
