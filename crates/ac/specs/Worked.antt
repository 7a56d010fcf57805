-- Document 01, "Pairs worked by hand": pairs 1 to 12, with what the document prints of each.
use Rattle.std.specs.Prelude.{ℕ, ◌+◌, ◌≡◌, length}
use mathlib.Core.List.{List, [], ◌∷◌, map, Memᴰ}
use Rattle.ac.specs.Pair.{unifying, variables}
use Rattle.ac.specs.Rows.{Group, Groups, GroupsOf}
use Rattle.ac.specs.Selection.{value}
use Rattle.ac.specs.Keys.{layout, listed, keys}
use Rattle.ac.specs.Values.{Binding, bindings}

-- 0 to 63 are variables v0 to v63, 64 to 127 are constants c0 to c63; in answers 192 to 207 are new variables
-- n0 to n15.

-- the variable vi
abbrev v : ℕ → ℕ
v i = i

-- the constant ci
abbrev c : ℕ → ℕ
c i = 64 + i

-- the new variable ni
abbrev n : ℕ → ℕ
n i = 192 + i

-- a variable and its value
infix 60 ◌is◌
abbrev ◌is◌ : ℕ → List ℕ → Binding
x is atoms = record { variable = x; value = atoms }

-- What the document prints of a pair.
pub data Printed : Type 0 where
  how_many : ℕ → Printed  -- how many selections the list has
  rows : List (List ℕ) → Printed  -- the balanced rows
  balanced_rows : ℕ → Printed  -- how many balanced rows there are
  rows_of : ℕ → ℕ → Printed  -- a constant, and how many rows it has
  the_keys : List ℕ → Printed  -- the keys of the list
  substitutions : List (List Binding) → Printed  -- what the selections of the list give the variables

-- number 13: no selection is admissible
abbrev thirteen : Printed
thirteen = the_keys []

-- two sides, and what the document prints of them
pub record Pair : Type 0 where
  pub left : List ℕ
  pub right : List ℕ
  pub printed : List Printed

-- the table
abbrev pub pairs : List Pair
pairs =
    -- 1. v0 and v1+c0: one, v0=c0+n0 v1=n0.
    record {
      left = v 0 ∷ [];
      right = v 1 ∷ c 0 ∷ [];
      printed = how_many 1 ∷ substitutions (((v 0 is c 0 ∷ n 0 ∷ []) ∷ (v 1 is n 0 ∷ []) ∷ []) ∷ []) ∷ [];
    }
    -- 2. v0+v1 and v2+v3: rows 0101, 0110, 1001, 1010; keys 6, 7, 9, 11, 13, 14, 15.
    ∷ record {
      left = v 0 ∷ v 1 ∷ [];
      right = v 2 ∷ v 3 ∷ [];
      printed =
          rows ((0 ∷ 1 ∷ 0 ∷ 1 ∷ []) ∷ (0 ∷ 1 ∷ 1 ∷ 0 ∷ []) ∷ (1 ∷ 0 ∷ 0 ∷ 1 ∷ []) ∷ (1 ∷ 0 ∷ 1 ∷ 0 ∷ []) ∷ [])
          ∷ the_keys (6 ∷ 7 ∷ 9 ∷ 11 ∷ 13 ∷ 14 ∷ 15 ∷ []) ∷ [];
    }
    -- 3. v0+v0 and v1+v2: rows 102, 111, 120; keys 2, 3, 5, 6, 7.
    ∷ record {
      left = v 0 ∷ v 0 ∷ [];
      right = v 1 ∷ v 2 ∷ [];
      printed = rows ((1 ∷ 0 ∷ 2 ∷ []) ∷ (1 ∷ 1 ∷ 1 ∷ []) ∷ (1 ∷ 2 ∷ 0 ∷ []) ∷ [])
          ∷ the_keys (2 ∷ 3 ∷ 5 ∷ 6 ∷ 7 ∷ []) ∷ [];
    }
    -- 4. v0+c0 and v1+c1: keys 0 and 1; v0=c1 v1=c0, then v0=c1+n0 v1=c0+n0.
    ∷ record {
      left = v 0 ∷ c 0 ∷ [];
      right = v 1 ∷ c 1 ∷ [];
      printed =
          the_keys (0 ∷ 1 ∷ [])
          ∷ substitutions
          (((v 0 is c 1 ∷ []) ∷ (v 1 is c 0 ∷ []) ∷ [])
          ∷ ((v 0 is c 1 ∷ n 0 ∷ []) ∷ (v 1 is c 0 ∷ n 0 ∷ []) ∷ []) ∷ []) ∷ [];
    }
    -- 5. v0+v0 and v1+c0: v0=c0 v1=c0, then v0=c0+n0 v1=c0+n0+n0.
    ∷ record {
      left = v 0 ∷ v 0 ∷ [];
      right = v 1 ∷ c 0 ∷ [];
      printed =
          substitutions
          (((v 0 is c 0 ∷ []) ∷ (v 1 is c 0 ∷ []) ∷ [])
          ∷ ((v 0 is c 0 ∷ n 0 ∷ []) ∷ (v 1 is c 0 ∷ n 0 ∷ n 0 ∷ []) ∷ []) ∷ []) ∷ [];
    }
    -- 6. v0+v0+v0 and v1+v1: one, v0=n0+n0 v1=n0+n0+n0.
    ∷ record {
      left = v 0 ∷ v 0 ∷ v 0 ∷ [];
      right = v 1 ∷ v 1 ∷ [];
      printed =
          how_many 1
          ∷ substitutions (((v 0 is n 0 ∷ n 0 ∷ []) ∷ (v 1 is n 0 ∷ n 0 ∷ n 0 ∷ []) ∷ []) ∷ []) ∷ [];
    }
    -- 7. v0 and v0: one, key 1, v0=n0.
    ∷ record {
      left = v 0 ∷ [];
      right = v 0 ∷ [];
      printed = how_many 1 ∷ the_keys (1 ∷ []) ∷ substitutions (((v 0 is n 0 ∷ []) ∷ []) ∷ []) ∷ [];
    }
    -- 8. c0 and c0: one, key 0, no variables.
    ∷ record {
      left = c 0 ∷ [];
      right = c 0 ∷ [];
      printed = how_many 1 ∷ the_keys (0 ∷ []) ∷ substitutions ([] ∷ []) ∷ [];
    }
    -- 9. v0 and v0+v1: 13, though there is a balanced row.
    ∷ record { left = v 0 ∷ []; right = v 0 ∷ v 1 ∷ []; printed = thirteen ∷ balanced_rows 1 ∷ [] }
    -- 10. v0+v1 and c0: 13, though c0 has two rows.
    ∷ record { left = v 0 ∷ v 1 ∷ []; right = c 0 ∷ []; printed = thirteen ∷ rows_of (c 0) 2 ∷ [] }
    -- 11. v0+v0 and c0: 13.
    ∷ record { left = v 0 ∷ v 0 ∷ []; right = c 0 ∷ []; printed = thirteen ∷ [] }
    -- 12. v0+v1 and c0+c1: keys 16,777,216 and 268,435,456.
    ∷ record {
      left = v 0 ∷ v 1 ∷ [];
      right = c 0 ∷ c 1 ∷ [];
      printed = the_keys (16_777_216 ∷ 268_435_456 ∷ []) ∷ [];
    } ∷ []

-- what the selections of the list give the variables, ascending
abbrev pub values_of : List ℕ → List ℕ → Groups → List (List Binding)
values_of L R G = map (λ s. bindings (value unifying layout.new L R G s) (variables unifying L R))
    (listed unifying layout L R G)

-- What is printed holds of the sides and their groups.
abbrev pub Holds : List ℕ → List ℕ → Groups → Printed → Type 0
Holds L R G (how_many k) = length (keys unifying layout L R G) ≡ k
Holds L R G (rows rs) = G.balanced ≡ rs
Holds L R G (balanced_rows k) = length G.balanced ≡ k
Holds L R G (rows_of a k) = (g : Group) × Memᴰ g G.constants × (g.constant ≡ a) × (length g.rows ≡ k)
Holds L R G (the_keys ks) = keys unifying layout L R G ≡ ks
Holds L R G (substitutions vs) = values_of L R G ≡ vs

-- All that document 01 prints of a pair holds of it.
abbrev pub AsPrinted : Pair → Type 0
AsPrinted pair =
    (G : Groups) → GroupsOf unifying pair.left pair.right G → (what : Printed)
    → Memᴰ what pair.printed → Holds pair.left pair.right G what
