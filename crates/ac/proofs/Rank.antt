-- The rank of a candidate: how many candidates there are up to it is worked out from its key (document 02, R-8).
--
-- `candidates_exactly`. The candidates as a list are the numbers that are candidates.
-- `rank_counts`. Up to a candidate and with it there are as many as its row indexes say, read as digits whose values
-- are the rows of each group, times the sets of balanced rows, and its own set, and itself.
-- `rank_tuples`. Where a variable may be empty, as many as its row indexes say, and itself.
use Prim.Native.Nat.{ℕ, zero, suc, ◌+◌, ◌*◌, ◌%◌, ◌^◌, ◌<◌, ◌≤◌}
use native.Mathlib.Omega.{arith}
use native.Mathlib.Nat.{le_refl, mul_assoc}
use mathlib.Core.Path.{◌≡◌, refl, sym, ap, subst, subst₂, ◌∙◌}
use mathlib.Core.Logic.{◌↔◌}
use mathlib.Core.Bool.{Bool, true, false}
use mathlib.Core.List.Memᴰ
use mathlib.Core.List.{List, [], ◌∷◌, ◌++◌, map, append_assoc, Memᴰ}
use borrow.Author.Tests.{le-leb, lt-leb}
use lib.Dec.{leb}
use lib.ListN.{length, get_or, drop, length-append, length-map}
use Rattle.ac.specs.Lists.{from, below, keep, filter, flat_map, Ascending, next}
use Rattle.ac.specs.Pair.{Mode}
use Rattle.ac.specs.Rows.{Group, Groups, rows_at}
use Rattle.ac.specs.Selection.{Selection, SelectionOf, Within, none, index, all_taken}
use Rattle.ac.specs.Keys.{Layout, Fits, Candidate, mask, bits, key_of, selection_at, tuples, selections, start}
use Rattle.ac.specs.Counting.{sizes_product, selection_count}
use Rattle.ac.specs.Weighed.{is_candidate, candidates, weighed}
use Rattle.ac.proofs.Order.{filter_ascending, member_filter}
use Rattle.ac.proofs.Members.{filter_all, map_append, flat_map_append, map_members, members_map, ascending_map}
use Rattle.ac.proofs.Keys.{length_from, mask-bits, mask_below, key_low, selection_candidate, candidate_selection, packed}
use Rattle.ac.proofs.Listed.{masked, all_masked, selections_are, selections_ascending}
use Rattle.ac.proofs.HowMany.{how_many_map}
use Rattle.ac.proofs.Counting.{selections-all, one_set}
use Rattle.ac.proofs.AllTaken.{candidate_in}
use Rattle.ac.proofs.Weighed.{length-filter}

-- ---- where a member stands in a list

-- so many stand before it
pub record StandsAt {A : Type 0} (xs : List A) (place : ℕ) (a : A) : Type 0 where
  pub before : List A
  pub behind : List A
  pub splits : xs ≡ before ++ a ∷ behind
  pub its_place : length before ≡ place

-- the numbers from one on stand in their order
from_stands : (k n i : ℕ) → i < n → StandsAt (from k n) i (k + i)
from_stands k zero i h = absurd (omega arith)
from_stands k (suc n) zero h =
    let e : k + 0 ≡ k = omega arith in
    record { before = []; behind = from (suc k) n; splits = ap (λ (m : ℕ). m ∷ from (suc k) n) (sym e); its_place = refl }
from_stands k (suc n) (suc i) h =
    let rest = from_stands (suc k) n i (omega arith) in
    let e : suc k + i ≡ k + suc i = omega arith in
    record {
      before = k ∷ rest.before;
      behind = rest.behind;
      splits = ap (λ (l : List ℕ). k ∷ l) (rest.splits ∙ ap (λ (m : ℕ). rest.before ++ m ∷ rest.behind) e);
      its_place = ap suc rest.its_place;
    }

module _ {A B : Type 0} where
  -- of a list that is made member by member
  map_stands : (f : A → B) {xs : List A} {i : ℕ} {a : A} → StandsAt xs i a → StandsAt (map f xs) i (f a)
  map_stands f {a = a} at =
      record {
        before = map f at.before;
        behind = map f at.behind;
        splits = ap (map f) at.splits ∙ map_append f at.before (a ∷ at.behind);
        its_place = length-map at.before f ∙ at.its_place;
      }

  -- lists of one length, one after the other
  length_flat_map : (f : A → List B) (n : ℕ) → ((a : A) → length (f a) ≡ n) → (xs : List A)
      → length (flat_map f xs) ≡ length xs * n
  length_flat_map f n each [] = omega arith
  length_flat_map f n each (x ∷ xs) =
      length-append (f x) (flat_map f xs) ∙ omega (arith, each x, length_flat_map f n each xs)

  flat_map_stands : (f : A → List B) (n : ℕ) → ((a : A) → length (f a) ≡ n) → {xs : List A} {i j : ℕ} {a : A} {b : B}
      → StandsAt xs i a → StandsAt (f a) j b → StandsAt (flat_map f xs) (i * n + j) b
  flat_map_stands f n each {xs} {i} {j} {a} {b} at within =
      record {
        before = flat_map f at.before ++ within.before;
        behind = within.behind ++ flat_map f at.behind;
        splits = ap (flat_map f) at.splits ∙ flat_map_append f at.before (a ∷ at.behind) ∙ inner;
        its_place = length-append (flat_map f at.before) within.before
            ∙ omega (
              arith,
              length_flat_map f n each at.before,
              ap (λ (m : ℕ). m * n) at.its_place,
              within.its_place,
            );
      }
    where
      inner : flat_map f at.before ++ (f a ++ flat_map f at.behind)
          ≡ (flat_map f at.before ++ within.before) ++ b ∷ (within.behind ++ flat_map f at.behind)
      inner =
          ap (λ (l : List B). flat_map f at.before ++ (l ++ flat_map f at.behind)) within.splits
          ∙ ap (λ (l : List B). flat_map f at.before ++ l)
          (append_assoc within.before (b ∷ within.behind) (flat_map f at.behind))
          ∙ sym (append_assoc (flat_map f at.before) within.before (b ∷ (within.behind ++ flat_map f at.behind)))

-- in an ascending list as many are up to a member as stand before it, and itself
upto_member : (before : List ℕ) (a : ℕ) (behind : List ℕ) → Ascending ◌<◌ (before ++ a ∷ behind)
    → length (filter (λ c. leb c a) (before ++ a ∷ behind)) ≡ suc (length before)
upto_member [] a behind (next first later) =
    ap (λ b. length (keep b a (filter (λ c. leb c a) behind))) (le-leb a a (le_refl a))
    ∙ ap suc (none_beyond behind (λ c m. first c m))
  where
    none_beyond : (xs : List ℕ) → ((c : ℕ) → Memᴰ c xs → a < c) → length (filter (λ c. leb c a) xs) ≡ 0
    none_beyond [] beyond = refl
    none_beyond (x ∷ xs) beyond =
        ap (λ b. length (keep b x (filter (λ c. leb c a) xs))) (lt-leb x a (beyond x (Memᴰ.head refl)))
        ∙ none_beyond xs (λ c m. beyond c (Memᴰ.tail m))
upto_member (b ∷ before) a behind (next first later) =
    ap (λ t. length (keep t b (filter (λ c. leb c a) (before ++ a ∷ behind))))
    (le-leb b a (omega (arith, first a (Memᴰ.append_right before (Memᴰ.head refl)))))
    ∙ ap suc (upto_member before a behind later)

upto_stands : {xs : List ℕ} {i a : ℕ} → Ascending ◌<◌ xs → StandsAt xs i a
    → length (filter (λ c. leb c a) xs) ≡ suc i
upto_stands {a = a} ascending at =
    ap (λ (l : List ℕ). length (filter (λ c. leb c a) l)) at.splits
    ∙ upto_member at.before a at.behind (subst (Ascending ◌<◌) at.splits ascending) ∙ ap suc at.its_place

-- ---- the tuples of row indexes

-- there are as many as the product of the group sizes
length-tuples : (gs : List Group) → length (tuples gs) ≡ sizes_product gs
length-tuples [] = refl
length-tuples (g ∷ gs) =
    length_flat_map (λ i. map (λ is. i ∷ is) (tuples gs)) (sizes_product gs)
    (λ i. length-map (tuples gs) (λ is. i ∷ is) ∙ length-tuples gs) (below (length g.rows))
    ∙ ap (λ (n : ℕ). n * sizes_product gs) (length_from 0 (length g.rows))

-- The row indexes as digits, that of the lowest constant first: each has as many values as its constant has rows,
-- and what was read before them stands above.
abbrev pub tuple_rank : ℕ → List Group → List ℕ → ℕ
tuple_rank above [] is = above
tuple_rank above (g ∷ gs) [] = above
tuple_rank above (g ∷ gs) (i ∷ is) = tuple_rank (above * length g.rows + i) gs is

-- the index at a place is read, and stands above those behind it
pub index_read : (gs : List Group) (is : List ℕ) (place above : ℕ) → length is ≡ length gs → place < length gs
    → tuple_rank above (drop place gs) (drop place is)
    ≡ tuple_rank (above * length (rows_at gs place) + get_or is place 0) (drop (suc place) gs) (drop (suc place) is)
index_read [] is place above e h = absurd (omega arith)
index_read (g ∷ gs) [] place above e h = absurd (omega arith)
index_read (g ∷ gs) (i ∷ is) zero above e h = refl
index_read (g ∷ gs) (i ∷ is) (suc place) above e h = index_read gs is place above (omega arith) (omega arith)

-- what stands above counts as often as there are tuples
above_counts : (above : ℕ) {gs : List Group} {is : List ℕ} → Within gs is
    → tuple_rank above gs is ≡ above * sizes_product gs + tuple_rank 0 gs is
above_counts above none = omega arith
above_counts above (index {g = g} {gs = gs} {i = i} {is = is} h within) =
    omega (
      arith,
      above_counts (above * length g.rows + i) within,
      above_counts (0 * length g.rows + i) within,
      mul_assoc above (length g.rows) (sizes_product gs),
    )

tuple_stands : {gs : List Group} {is : List ℕ} → Within gs is → StandsAt (tuples gs) (tuple_rank 0 gs is) is
tuple_stands none = record { before = []; behind = []; splits = refl; its_place = refl }
tuple_stands (index {g = g} {gs = gs} {i = i} {is = is} h within) =
    subst (λ (n : ℕ). StandsAt (tuples (g ∷ gs)) n (i ∷ is)) place
    (flat_map_stands (λ j. map (λ js. j ∷ js) (tuples gs)) (sizes_product gs)
    (λ j. length-map (tuples gs) (λ js. j ∷ js) ∙ length-tuples gs)
    (subst (StandsAt (below (length g.rows)) i) (let e : 0 + i ≡ i = omega arith in e) (from_stands 0 (length g.rows) i h))
    (map_stands (λ js. i ∷ js) (tuple_stands within)))
  where
    place : i * sizes_product gs + tuple_rank 0 gs is ≡ tuple_rank 0 (g ∷ gs) (i ∷ is)
    place = omega (arith, above_counts (0 * length g.rows + i) within)

-- ---- the selections

-- a tuple goes with two sets for each balanced row
length_sets : (G : Groups) (is : List ℕ) → length (all_masked G is) ≡ 2 ^ length G.balanced
length_sets G is = length-map (below (2 ^ length G.balanced)) (masked G is) ∙ length_from 0 (2 ^ length G.balanced)

-- a selection stands among those of its tuple
among_masks : {G : Groups} {s : Selection} → SelectionOf G s → StandsAt (all_masked G s.indexes) (mask s.takes) s
among_masks {G} {s} of =
    subst (StandsAt (all_masked G s.indexes) (mask s.takes)) itself
    (map_stands (masked G s.indexes)
    (from_stands 0 (2 ^ length G.balanced) (mask s.takes)
    (mask_below (length G.balanced) s.takes of.a_truth_each)))
  where
    its_mask : 0 + mask s.takes ≡ mask s.takes
    its_mask = omega arith

    itself : masked G s.indexes (0 + mask s.takes) ≡ s
    itself = λ i. record {
      indexes = s.indexes;
      takes = (ap (bits (length G.balanced)) its_mask
          ∙ mask-bits (length G.balanced) s.takes of.a_truth_each) i;
    }

selection_stands : {G : Groups} {s : Selection} → SelectionOf G s
    → StandsAt (selections G) (tuple_rank 0 G.constants s.indexes * 2 ^ length G.balanced + mask s.takes) s
selection_stands {G} {s} of =
    flat_map_stands (all_masked G) (2 ^ length G.balanced) (length_sets G) (tuple_stands of.a_row_each) (among_masks of)

-- ---- the selections that take all balanced rows

module _ {B : Type 0} (test : B → Bool) where
  -- what passes of lists one after the other
  filter-append : (xs ys : List B) → filter test (xs ++ ys) ≡ filter test xs ++ filter test ys
  filter-append [] ys = refl
  filter-append (x ∷ xs) ys = go (test x) (filter-append xs ys)
    where
      go : (b : Bool) → filter test (xs ++ ys) ≡ filter test xs ++ filter test ys
          → keep b x (filter test (xs ++ ys)) ≡ keep b x (filter test xs) ++ filter test ys
      go true e = ap {B = List B} (λ l. x ∷ l) e
      go false e = e

  filter_flat_map : {A : Type 0} (f : A → List B) (xs : List A) → filter test (flat_map f xs) ≡ flat_map (λ a. filter test (f a)) xs
  filter_flat_map f [] = refl
  filter_flat_map f (x ∷ xs) =
      filter-append (f x) (flat_map f xs) ∙ ap (λ (l : List B). filter test (f x) ++ l) (filter_flat_map f xs)

-- the only member of a list stands first
alone_stands : {A : Type 0} (xs : List A) {a : A} → length xs ≡ 1 → Memᴰ a xs → StandsAt xs 0 a
alone_stands [] e m = absurd (Memᴰ.not-nil m)
alone_stands (x ∷ []) e (Memᴰ.head same) =
    record { before = []; behind = []; splits = ap (λ y. y ∷ []) (sym same); its_place = refl }
alone_stands (x ∷ []) e (Memᴰ.tail m) = absurd (Memᴰ.not-nil m)
alone_stands (x ∷ y ∷ xs) e m = absurd (omega arith)

-- each tuple has one of them, so that they stand as their tuples do
full_stands : {G : Groups} {s : Selection} → SelectionOf G s → all_taken s.takes ≡ true
    → StandsAt (filter (λ (t : Selection). all_taken t.takes) (selections G)) (tuple_rank 0 G.constants s.indexes) s
full_stands {G} {s} of all =
    subst₂ (λ xs (n : ℕ). StandsAt xs n s) (sym (filter_flat_map full (all_masked G) (tuples G.constants))) place
    (flat_map_stands (λ is. filter full (all_masked G is)) 1 one_each (tuple_stands of.a_row_each)
    (alone_stands (filter full (all_masked G s.indexes)) (one_each s.indexes) itself))
  where
    full : Selection → Bool
    full t = all_taken t.takes

    one_each : (is : List ℕ) → length (filter full (all_masked G is)) ≡ 1
    one_each is = how_many_map full (masked G is) (below (2 ^ length G.balanced)) ∙ one_set G.balanced

    at : StandsAt (all_masked G s.indexes) (mask s.takes) s
    at = among_masks of

    itself : Memᴰ s (filter full (all_masked G s.indexes))
    itself =
        member_filter full (subst (Memᴰ s) (sym at.splits) (Memᴰ.append_right at.before (Memᴰ.head refl))) all

    place : tuple_rank 0 G.constants s.indexes * 1 + 0 ≡ tuple_rank 0 G.constants s.indexes
    place = omega arith

-- ---- the candidates

module _ (M : Mode) (lay : Layout) (G : Groups) where
  -- there are at most as many as selections
  pub length_candidates : length (candidates M lay G) ≤ selection_count G
  length_candidates =
      omega (
        arith,
        length-map (filter (is_candidate M) (selections G)) (key_of lay),
        length-filter (is_candidate M) (selections G),
        selections-all G,
      )

  -- where no variable may be empty every selection is one
  candidates_selections : M.empties ≡ false → candidates M lay G ≡ map (key_of lay) (selections G)
  candidates_selections full =
      ap (map (key_of lay)) (filter_all (is_candidate M) (selections G)
      (λ s m. ap (λ (b : Bool). elim b [ true ↦ all_taken s.takes | false ↦ true ]) full))

module _ (M : Mode) {lay : Layout} {G : Groups} (fits : Fits lay G) where
  -- they ascend
  pub candidates_ascending : Ascending ◌<◌ (candidates M lay G)
  candidates_ascending = ascending_map (key_of lay) (filter_ascending (is_candidate M) (selections_ascending fits))

  module _ (full : M.empties ≡ false) where
    -- The candidates as a list are the numbers that are candidates.
    pub candidates_exactly : {key : ℕ} → Memᴰ key (candidates M lay G) ↔ Candidate lay G key
    candidates_exactly {key} = (only, all)
      where
        only : Memᴰ key (candidates M lay G) → Candidate lay G key
        only m =
            let one = map_members (key_of lay) (selections G)
            (subst (Memᴰ key) (candidates_selections M lay G full) m) in
            subst (Candidate lay G) (sym one.2) (selection_candidate fits ((selections_are G).0 one.1))

        all : Candidate lay G key → Memᴰ key (candidates M lay G)
        all candidate =
            subst (Memᴰ key) (sym (candidates_selections M lay G full))
            (Memᴰ.cast (sym (packed fits candidate))
            (members_map (key_of lay) ((selections_are G).1 (candidate_selection fits candidate))))

    -- Up to a candidate and with it there are as many as its key says.
    pub rank_counts : {key : ℕ} → Candidate lay G key
        → weighed start (key ∷ []) (candidates M lay G)
        ≡ tuple_rank 0 G.constants (selection_at lay G key).indexes * 2 ^ length G.balanced + key % 2 ^ lay.rows + 1
    rank_counts {key} candidate =
        upto_stands candidates_ascending stands
        ∙ omega (arith, ap (λ (k : ℕ). k % 2 ^ lay.rows) (sym (packed fits candidate)), key_low fits of)
      where
        of : SelectionOf G (selection_at lay G key)
        of = candidate_selection fits candidate

        stands : StandsAt (candidates M lay G)
            (tuple_rank 0 G.constants (selection_at lay G key).indexes * 2 ^ length G.balanced
            + mask (selection_at lay G key).takes) key
        stands =
            subst₂ (λ ks k. StandsAt ks
            (tuple_rank 0 G.constants (selection_at lay G key).indexes * 2 ^ length G.balanced
            + mask (selection_at lay G key).takes) k)
            (sym (candidates_selections M lay G full)) (packed fits candidate) (map_stands (key_of lay) (selection_stands of))

  -- Where a variable may be empty, as many as the row indexes of one say, and itself.
  pub rank_tuples : M.empties ≡ true → {key : ℕ} → Memᴰ key (candidates M lay G)
      → weighed start (key ∷ []) (candidates M lay G)
      ≡ tuple_rank 0 G.constants (selection_at lay G key).indexes + 1
  rank_tuples empty {key} m = upto_stands candidates_ascending stands ∙ omega arith
    where
      one : Candidate lay G key × (is_candidate M (selection_at lay G key) ≡ true)
      one = candidate_in M lay G fits m

      by_mode : (b : Bool) → List ℕ
      by_mode b = map (key_of lay) (filter (λ s. elim b [ true ↦ all_taken s.takes | false ↦ true ]) (selections G))

      all : all_taken (selection_at lay G key).takes ≡ true
      all = sym (ap (λ (b : Bool). elim b [ true ↦ all_taken (selection_at lay G key).takes | false ↦ true ]) empty) ∙ one.1

      stands : StandsAt (candidates M lay G) (tuple_rank 0 G.constants (selection_at lay G key).indexes) key
      stands =
          subst₂ (λ ks k. StandsAt ks (tuple_rank 0 G.constants (selection_at lay G key).indexes) k)
          (sym (ap by_mode empty)) (packed fits one.0)
          (map_stands (key_of lay) (full_stands (candidate_selection fits one.0) all))
