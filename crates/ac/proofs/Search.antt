-- The search finds exactly the minimal solutions. They are up to Huet's bound, so they are candidates; and so
-- is every solution at or below a candidate, so that a candidate is minimal if no other one is at or below
-- it.
use Prim.Native.Nat.{ℕ, zero, suc, ◌+◌, ◌≤◌, ◌<◌}
use native.Mathlib.Omega.{arith}
use mathlib.Core.Path.{◌≡◌, refl, sym, ap, ap₂, subst, subst₂, ◌∙◌}
use mathlib.Core.Logic.{◌↔◌}
use mathlib.Core.Bool.{Bool, true, false, not, ◌&&◌, ◌||◌, false≢true, and-eq-true_iff}
use mathlib.Core.List.Memᴰ
use mathlib.Core.List.{List, [], ◌∷◌, map, Memᴰ}
use lib.ListN.{length, get_or}
use lib.Dec.{leb, ltb, eqb}
use borrow.Author.Tests.{leb-true, le-leb, ltb-true, lt-ltb, eqb-true, eq-eqb}
use Rattle.ac.specs.Lists.{below, sum, Ascending}
use Rattle.ac.specs.Rows.{Exactly, ◌≼◌, ◌≺◌, ◌≺◌.here, ◌≺◌.later}
use Rattle.ac.specs.Equation.{dot, Equation, Solves, Minimal}
use Rattle.ac.specs.Budgets.{Enough}
use Rattle.ac.specs.Search.{lower, least_among, box, solves, largest, search_bound, candidates, minimal_solutions}
use Rattle.ac.proofs.Vectors.{same_length, sum_mono, ≼_refl, ≼_equal, ≼_entry}
use Rattle.ac.proofs.Order.{ascending_single, filter_member, member_filter, filter_ascending}
use Rattle.ac.proofs.Places.{from_ascending}
use Rattle.ac.proofs.Members.{below_members, members_below, map_members, members_map, flat_map_members, members_flat_map}
use Rattle.ac.proofs.Members.{ascending_in, ascending_map, ascending_flat_map}
use Rattle.ac.proofs.Tests.{every_member, member_every}
use Rattle.ac.proofs.Bound.{huet_bound}

-- The tests decide what they say.

lower_true : (u v : List ℕ) → lower u v ≡ true → u ≼ v
lower_true [] [] e = ◌≼◌.none
lower_true [] (n ∷ v) e = absurd (false≢true e)
lower_true (m ∷ u) [] e = absurd (false≢true e)
lower_true (m ∷ u) (n ∷ v) e = let b =
    (and-eq-true_iff (leb m n) (lower u v)).0 e in ◌≼◌.place (leb-true m n b.0) (lower_true u v b.1)

true_lower : {u v : List ℕ} → u ≼ v → lower u v ≡ true
true_lower ◌≼◌.none = refl
true_lower (◌≼◌.place {m = m} {n = n} h below) = ap₂ (λ b c. b && c) (le-leb m n h) (true_lower below)

solves_true : (E : Equation) (v : List ℕ) → (solves E v ≡ true) ↔ Solves E v
solves_true E v = (to, back)
  where
    left_side : ℕ
    left_side = dot E.left v + E.left_offset

    right_side : ℕ
    right_side = dot E.right v + E.right_offset

    positive : (h : Bool) → (not h || ltb 0 (sum v)) ≡ true → h ≡ true → 0 < sum v
    positive true e t = ltb-true 0 (sum v) e
    positive false e t = absurd (false≢true t)

    tested : (h : Bool) → (h ≡ true → 0 < sum v) → (not h || ltb 0 (sum v)) ≡ true
    tested true h = lt-ltb 0 (sum v) (h refl)
    tested false h = refl

    to : solves E v ≡ true → Solves E v
    to e =
        let b = (and-eq-true_iff (eqb left_side right_side) (not E.homogeneous || ltb 0 (sum v))).0 e in
        record { equal = eqb-true left_side right_side b.0; not_all_zero = positive E.homogeneous b.1 }

    back : Solves E v → solves E v ≡ true
    back s =
        ap₂ (λ b c. b && c) (eq-eqb left_side right_side s.equal) (tested E.homogeneous s.not_all_zero)

-- where no other vector is at or below v, one that is at or below it is v
least_among_lem : {vectors : List (List ℕ)} {u v : List ℕ} → least_among vectors v ≡ true → Memᴰ u vectors
    → u ≼ v → u ≡ v
least_among_lem {vectors} {u} {v} least m below =
    ≼_equal below (sum_mono (lower_true v u
    (above (lower u v) (true_lower below) (every_member (λ w. not (lower w v) || lower v w) least m))))
  where
    above : (b : Bool) → b ≡ true → (not b || lower v u) ≡ true → lower v u ≡ true
    above true e t = t
    above false e t = absurd (false≢true e)

among_least : {vectors : List (List ℕ)} {v : List ℕ} → ((u : List ℕ) → Memᴰ u vectors → u ≼ v → u ≡ v)
    → least_among vectors v ≡ true
among_least {vectors} {v} only =
    member_every (λ u. not (lower u v) || lower v u) vectors (λ u m. tested u m (lower u v) refl)
  where
    tested : (u : List ℕ) → Memᴰ u vectors → (b : Bool) → lower u v ≡ b → (not b || lower v u) ≡ true
    tested u m true e = true_lower (subst (λ w. v ≼ w) (sym (only u m (lower_true u v e))) (≼_refl v))
    tested u m false e = refl

-- The box holds exactly the vectors of its length whose entries are up to the bound, in ascending order.

box_entries : (k b : ℕ) {v : List ℕ} → Memᴰ v (box k b) → (length v ≡ k) × ((i : ℕ) → get_or v i 0 ≤ b)
box_entries zero b (Memᴰ.head e) =
    (ap length e, λ i. subst (λ v. get_or v i 0 ≤ b) (sym e) (let h : 0 ≤ b = omega arith in h))
box_entries zero b (Memᴰ.tail m) = absurd (Memᴰ.not-nil m)
box_entries (suc k) b m =
    let first = flat_map_members (λ x. map (λ w. x ∷ w) (box k b)) (below (suc b)) m in
    let rest = map_members (λ w. first.0 ∷ w) (box k b) first.2 in
    subst (λ w. (length w ≡ suc k) × ((i : ℕ) → get_or w i 0 ≤ b)) (sym rest.2)
    (in_front first.0 rest.0 (below_members (suc b) first.1) (box_entries k b rest.1))
  where
    in_front : (x : ℕ) (w : List ℕ) → x < suc b → (length w ≡ k) × ((i : ℕ) → get_or w i 0 ≤ b)
        → (length (x ∷ w) ≡ suc k) × ((i : ℕ) → get_or (x ∷ w) i 0 ≤ b)
    in_front x w small r = (ap suc r.0, entry)
      where
        entry : (i : ℕ) → get_or (x ∷ w) i 0 ≤ b
        entry zero = omega arith
        entry (suc i) = r.1 i

box_member : (k b : ℕ) (v : List ℕ) → length v ≡ k → ((i : ℕ) → get_or v i 0 ≤ b) → Memᴰ v (box k b)
box_member zero b [] e small = Memᴰ.head refl
box_member zero b (x ∷ v) e small = absurd (omega arith)
box_member (suc k) b [] e small = absurd (omega arith)
box_member (suc k) b (x ∷ v) e small =
    members_flat_map (λ y. map (λ w. y ∷ w) (box k b))
    (members_below (let h : x < suc b = omega (arith, small 0) in h))
    (members_map (λ w. x ∷ w) (box_member k b v (omega arith) (λ i. small (suc i))))

box_ascending : (k b : ℕ) → Ascending ◌≺◌ (box k b)
box_ascending zero b = ascending_single []
box_ascending (suc k) b =
    ascending_flat_map (λ x. map (λ w. x ∷ w) (box k b))
    (λ x m. ascending_map (λ w. x ∷ w) (ascending_in (λ u w m₁ m₂ before. later before) (box_ascending k b)))
    (ascending_in (λ x y m₁ m₂ less. first_decides x y less) (from_ascending 0 (suc b)))
  where
    first_decides : (x y : ℕ) → x < y → (u w : List ℕ) → Memᴰ u (map (λ v. x ∷ v) (box k b))
        → Memᴰ w (map (λ v. y ∷ v) (box k b)) → u ≺ w
    first_decides x y less u w m₁ m₂ =
        let a = map_members (λ v. x ∷ v) (box k b) m₁ in
        let c = map_members (λ v. y ∷ v) (box k b) m₂ in
        subst₂ ◌≺◌ (sym a.2) (sym c.2) (here less)

-- The bound is enough.

within_largest : (ns : List ℕ) (i : ℕ) → get_or ns i 0 ≤ largest ns
within_largest [] i = omega arith
within_largest (n ∷ ns) zero = omega arith
within_largest (n ∷ ns) (suc i) = omega (arith, within_largest ns i)

bound_enough : (E : Equation) → Enough E (search_bound E) (search_bound E)
bound_enough E =
    record {
      some = omega arith;
      places = λ i. (omega (arith, within_largest E.left i), omega (arith, within_largest E.right i));
      offsets = (omega arith, omega arith);
    }

module _ (E : Equation) where
  -- the candidates are exactly the solutions up to the bound
  candidate_solves : {v : List ℕ} → Memᴰ v (candidates E) → Solves E v
  candidate_solves {v} m = (solves_true E v).0 (filter_member (solves E) (box (length E.left) (search_bound E)) m).1

  candidate_entries : {v : List ℕ} → Memᴰ v (candidates E)
      → (length v ≡ length E.left) × ((i : ℕ) → get_or v i 0 ≤ search_bound E)
  candidate_entries m = box_entries (length E.left) (search_bound E)
      (filter_member (solves E) (box (length E.left) (search_bound E)) m).0

  is_candidate : {v : List ℕ} → length v ≡ length E.left → ((i : ℕ) → get_or v i 0 ≤ search_bound E) → Solves E v
      → Memᴰ v (candidates E)
  is_candidate {v} vector small s =
      member_filter (solves E) (box_member (length E.left) (search_bound E) v vector small) ((solves_true E v).1 s)

  -- The search finds exactly the minimal solutions, in ascending order.
  pub minimal_solutions_exact : Exactly (Minimal E) (minimal_solutions E)
  minimal_solutions_exact =
      record {
        ascending = filter_ascending (least_among (candidates E))
            (filter_ascending (solves E) (box_ascending (length E.left) (search_bound E)));
        only = λ v m. let both =
            filter_member (least_among (candidates E)) (candidates E) m in only v both.0 both.1;
        all = λ v m.
            member_filter (least_among (candidates E))
            (is_candidate m.vector (huet_bound E m (bound_enough E)) m.least.has)
            (among_least (λ u candidate below. m.least.no_other u below (candidate_solves candidate)));
      }
    where
      only : (v : List ℕ) → Memᴰ v (candidates E) → least_among (candidates E) v ≡ true → Minimal E v
      only v m least = record {
        vector = (candidate_entries m).0;
        least = record
            { has = candidate_solves m; no_other = no_other };
      }
        where
          no_other : (u : List ℕ) → u ≼ v → Solves E u → u ≡ v
          no_other u below s =
              let entries = candidate_entries m in
              least_among_lem least
              (is_candidate (same_length below ∙ entries.0) (λ i. omega (arith, ≼_entry below i, entries.1 i)) s)
              below
