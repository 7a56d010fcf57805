-- Pairs 1 to 12 of document 01: one test, computed over the table, and the law that turns it into what the
-- document prints of each pair.
use Prim.Native.Nat.{ℕ, ◌<◌}
use mathlib.Core.Path.{◌≡◌, refl, subst}
use mathlib.Core.Bool.{Bool, true, false, ◌&&◌, ◌||◌, false≢true}
use mathlib.Core.List.{List, [], ◌∷◌, Memᴰ}
use borrow.Author.Tests.{eqb-true, ltb-true}
use lib.Dec.{eqb, ltb}
use lib.ListN.{length}
use Rattle.ac.specs.Lists.{every}
use Rattle.ac.specs.Pair.{unifying}
use Rattle.ac.specs.Rows.{Group, Groups}
use Rattle.ac.specs.Keys.{layout, keys}
use Rattle.ac.specs.Search.{groups}
use Rattle.ac.specs.Values.{Binding}
use Rattle.ac.proofs.Groups.{groups_exist, groups_unique}
use Rattle.ac.proofs.Tests.{both, every_member, Tests, equal_lists, lists_equal}
use Rattle.ac.specs.Worked.{Printed, how_many, rows, balanced_rows, rows_of, the_keys, substitutions, Pair, pairs, values_of, Holds, AsPrinted}

abbrev equal_bindings : Binding → Binding → Bool
equal_bindings a b = eqb a.variable b.variable && equal_lists eqb a.value b.value

bindings_equal : Tests equal_bindings
bindings_equal a b e = λ i. record {
  variable = eqb-true a.variable b.variable t.0 i;
  value =
      lists_equal eqb-true a.value b.value t.1 i;
}
  where
    t : (eqb a.variable b.variable ≡ true) × (equal_lists eqb a.value b.value ≡ true)
    t = both (eqb a.variable b.variable) (equal_lists eqb a.value b.value) e

-- some group belongs to the constant and has that many rows
abbrev has_rows : ℕ → ℕ → List Group → Bool
has_rows a k [] = false
has_rows a k (g ∷ gs) = (eqb g.constant a && eqb (length g.rows) k) || has_rows a k gs

-- the test of what is printed
abbrev test : List ℕ → List ℕ → Groups → Printed → Bool
test L R G (how_many k) = eqb (length (keys unifying layout L R G)) k
test L R G (rows rs) = equal_lists (equal_lists eqb) G.balanced rs
test L R G (balanced_rows k) = eqb (length G.balanced) k
test L R G (rows_of a k) = has_rows a k G.constants
test L R G (the_keys ks) = equal_lists eqb (keys unifying layout L R G) ks
test L R G (substitutions vs) = equal_lists (equal_lists equal_bindings) (values_of L R G) vs

abbrev test_pair : Pair → Bool
test_pair pair = every (test pair.left pair.right (groups unifying pair.left pair.right)) pair.printed

-- The test passes at every pair of the table.
all_pass : every test_pair pairs ≡ true
all_pass = refl

-- And of every pair something is printed.
all_print : every (λ (pair : Pair). ltb 0 (length pair.printed)) pairs ≡ true
all_print = refl

has_rows_lem : (a k : ℕ) (gs : List Group) → has_rows a k gs ≡ true
    → (g : Group) × Memᴰ g gs × (g.constant ≡ a) × (length g.rows ≡ k)
has_rows_lem a k [] e = absurd (false≢true e)
has_rows_lem a k (g ∷ gs) e =
    by_first (eqb g.constant a && eqb (length g.rows) k) refl e (λ later. has_rows_lem a k gs later)
  where
    by_first : (here : Bool) → eqb g.constant a && eqb (length g.rows) k ≡ here
        → here || has_rows a k gs ≡ true
        → (has_rows a k gs ≡ true → (h : Group) × Memᴰ h gs × (h.constant ≡ a) × (length h.rows ≡ k))
        → (h : Group) × Memᴰ h (g ∷ gs) × (h.constant ≡ a) × (length h.rows ≡ k)
    by_first true e e' later =
        let t = both (eqb g.constant a) (eqb (length g.rows) k) e in
        (g, Memᴰ.head refl, eqb-true g.constant a t.0, eqb-true (length g.rows) k t.1)
    by_first false e e' later = let t = later e' in (t.0, Memᴰ.tail t.1, t.2, t.3)

-- what passes the test holds
test_holds : (L R : List ℕ) (G : Groups) (what : Printed) → test L R G what ≡ true → Holds L R G what
test_holds L R G (how_many k) e = eqb-true (length (keys unifying layout L R G)) k e
test_holds L R G (rows rs) e = lists_equal (lists_equal eqb-true) G.balanced rs e
test_holds L R G (balanced_rows k) e = eqb-true (length G.balanced) k e
test_holds L R G (rows_of a k) e = has_rows_lem a k G.constants e
test_holds L R G (the_keys ks) e = lists_equal eqb-true (keys unifying layout L R G) ks e
test_holds L R G (substitutions vs) e = lists_equal (lists_equal bindings_equal) (values_of L R G) vs e

-- Pairs 1 to 12: document 01 prints something of each.
pub worked_print : (pair : Pair) → Memᴰ pair pairs → 0 < length pair.printed
worked_print pair member =
    ltb-true 0 (length pair.printed)
    (every_member (λ (p : Pair). ltb 0 (length p.printed)) all_print member)

-- And all that it prints of them holds.
pub worked_pairs : (pair : Pair) → Memᴰ pair pairs → AsPrinted pair
worked_pairs pair member G groups_of what printed =
    subst (λ (H : Groups). Holds pair.left pair.right H what)
    (groups_unique unifying pair.left pair.right (groups_exist unifying pair.left pair.right) groups_of)
    (test_holds pair.left pair.right (groups unifying pair.left pair.right) what
    (every_member (test pair.left pair.right (groups unifying pair.left pair.right))
    (every_member test_pair all_pass member) printed))
