-- A walk up to a smallest solution that meets no difference twice: the reason for Huet's and Lambert's bounds.
--
-- p and n are the coefficients of the two sides. A unit at a place is up if n ≤ p there, else down. A
-- smallest solution v of weighted p v = weighted n v is built up from 0, one unit at a time: an up unit while
-- the difference of the two sums is at most 0, a down unit while it is above. The difference then stays
-- within the largest coefficients, and no difference is met twice: between two meetings a smaller solution
-- would have been taken.
use Prim.Native.Nat.{ℕ, zero, suc, ◌+◌, ◌-◌, ◌≤◌, ◌<◌}
use native.Mathlib.Omega.{arith}
use native.Mathlib.Nat.{le_refl}
use native.Mathlib.Decide.{dec_le}
use mathlib.Core.Path.{◌≡◌, refl, sym, ap, subst}
use mathlib.Core.Logic.{◌⊎◌, inl, inr}
use mathlib.Core.Bool.{Bool, false, not, cond}
use mathlib.Core.List.Memᴰ
use mathlib.Core.List.{List, [], ◌∷◌, Memᴰ}
use lib.ListN.{length}
use borrow.Author.Tests.{leb-true, leb-false, not-true, not-false}
use Rattle.ac.specs.Lists.{sum}
use Rattle.ac.specs.Rows.{◌≼◌, ◌≼◌.none}
use Rattle.ac.specs.Equation.{weighted}
use Rattle.ac.specs.Budgets.{is_up, up, down}
use Rattle.ac.proofs.Vectors.{≼_trans, ≼_equal, sum_mono, Rest, rest_of}
use Rattle.ac.proofs.Units.{weighted_suc, weighted_zero, Zero, zero_below, UnitLeft, longer, NoneLeft, unit_or_none}
use Rattle.ac.proofs.Pigeonhole.{Distinct, Distinct.none, Distinct.also, pigeonhole}

-- The starts of the steps of one kind: the differences, from `first` on, of q over r at vectors passed on the
-- way to u, no two equal.
module _ (q r : ℕ → ℕ) (first limit : ℕ) where
  record Met (u : List ℕ) (s : ℕ) : Type 0 where
    vector : List ℕ
    below : vector ≼ u
    earlier : sum vector < sum u
    there : weighted q vector ≡ weighted r vector + (first + s)

  record Starts (u : List ℕ) (many : ℕ) : Type 0 where
    starts : List ℕ
    as_many : length starts ≡ many
    distinct : Distinct starts
    within : (s : ℕ) → Memᴰ s starts → s < limit
    met : (s : ℕ) → Memᴰ s starts → Met u s

  no_starts : (u : List ℕ) → Starts u 0
  no_starts u =
      record {
        starts = [];
        as_many = refl;
        distinct = none;
        within = λ s m. absurd (Memᴰ.not-nil m);
        met = λ s m. absurd (Memᴰ.not-nil m);
      }

  met_later : {u u' : List ℕ} {s : ℕ} → u ≼ u' → Met u s → Met u' s
  met_later le m =
      record {
        vector = m.vector;
        below = ≼_trans m.below le;
        earlier = omega (arith, m.earlier, sum_mono le);
        there = m.there;
      }

  starts_later : {u u' : List ℕ} {many : ℕ} → u ≼ u' → Starts u many → Starts u' many
  starts_later le st =
      record {
        starts = st.starts;
        as_many = st.as_many;
        distinct = st.distinct;
        within = st.within;
        met = λ s m.
            met_later le (st.met s m);
      }

  -- the same starts, with their number told another way
  recounted : {u : List ℕ} {many many' : ℕ} → many ≡ many' → Starts u many → Starts u many'
  recounted {u} e = subst (λ k. Starts u k) e

  at_most : {u : List ℕ} {many : ℕ} → Starts u many → many ≤ limit
  at_most st = omega (arith, st.as_many, pigeonhole limit st.distinct st.within)

  module _ {v : List ℕ} (no_smaller : (d : List ℕ) → d ≼ v → weighted q d ≡ weighted r d → 0 < sum d
      → sum v ≤ sum d) where
    -- a difference that was met is not met again before the end
    not_again : {u : List ℕ} {s : ℕ} → u ≼ v → sum u < sum v → weighted q u ≡ weighted r u + (first + s)
        → Met u s → ⊥
    not_again {u} below unfinished here m =
        let d : Rest m.vector u = rest_of m.below in
        let equal : weighted q d.rest ≡ weighted r d.rest =
        omega (arith, here, m.there, d.products q, d.products r) in
        let positive : 0 < sum d.rest = omega (arith, d.sums, m.earlier) in
        omega (arith, no_smaller d.rest (≼_trans d.below below) equal positive, sum_mono d.below)

    -- a unit is taken at a difference that is within the limits, and not met before
    one_start_more : {wanted : ℕ → Bool} {u : List ℕ} {many : ℕ} (unit : UnitLeft wanted u v) → u ≼ v
        → weighted r u + first ≤ weighted q u → weighted q u < weighted r u + (first + limit) → Starts u many
        → Starts unit.next (suc many)
    one_start_more {wanted} {u} {many} unit below low high st =
        record {
          starts = s ∷ st.starts;
          as_many = omega (arith, st.as_many);
          distinct = also (λ m. not_again below (omega (arith, longer unit, sum_mono unit.below)) there
              (st.met s m)) st.distinct;
          within = within_more;
          met = met_more;
        }
      where
        s : ℕ
        s = weighted q u - (weighted r u + first)

        there : weighted q u ≡ weighted r u + (first + s)
        there = omega arith

        within_more : (t : ℕ) → Memᴰ t (s ∷ st.starts) → t < limit
        within_more t (Memᴰ.head e) = omega arith
        within_more t (Memᴰ.tail m) = st.within t m

        met_more : (t : ℕ) → Memᴰ t (s ∷ st.starts) → Met unit.next t
        met_more t (Memᴰ.head e) = record
            { vector = u; below = unit.above; earlier = omega (arith, longer unit); there = omega (arith, there) }
        met_more t (Memᴰ.tail m) = met_later unit.above (st.met t m)

-- v solves weighted p v = weighted n v, and nothing that does, below it and not all zero, is smaller
pub record Smallest (p n : ℕ → ℕ) (v : List ℕ) : Type 0 where
  pub equal : weighted p v ≡ weighted n v
  pub no_smaller : (d : List ℕ) → d ≼ v → weighted p d ≡ weighted n d → 0 < sum d → sum v ≤ sum d

module _ (p n : ℕ → ℕ) (v : List ℕ) (smallest : Smallest p n v) (B C : ℕ) (some : 1 ≤ C)
    (bounded : (i : ℕ) → (p i ≤ n i + B) × (n i ≤ p i + C)) where
  -- the walk after k units
  record Walked (k : ℕ) : Type 0 where
    vector : List ℕ
    below : vector ≼ v
    size : sum vector ≡ k
    low : weighted n vector < weighted p vector + C
    high : weighted p vector ≤ weighted n vector + B
    ups : Starts n p 0 C vector (weighted (up p n) vector)
    downs : Starts p n 1 B vector (weighted (down p n) vector)

  begin : Walked 0
  begin =
      let z : Zero v = zero_below v in
      let zero_by : (f : ℕ → ℕ) → 0 ≡ weighted f z.zeros =
      λ f. sym (weighted_zero f z.zeros (let h : sum z.zeros ≤ 0 = omega (arith, z.empty) in h)) in
      record {
        vector = z.zeros;
        below = z.below;
        size = z.empty;
        low = omega (arith, zero_by p, zero_by n);
        high = omega (arith, zero_by p, zero_by n);
        ups = recounted n p 0 C (zero_by (up p n)) (no_starts n p 0 C z.zeros);
        downs = recounted p n 1 B (zero_by (down p n)) (no_starts p n 1 B z.zeros);
      }

  module _ {k : ℕ} (unfinished : k < sum v) (w : Walked k) where
    abbrev here : List ℕ
    here = w.vector

    step_up : weighted p here ≤ weighted n here → UnitLeft (is_up p n) here v → Walked (suc k)
    step_up low unit =
        record {
          vector = unit.next;
          below = unit.below;
          size = omega (arith, longer unit, w.size);
          low = omega (
            arith,
            unit.adds p,
            unit.adds n,
            leb-true (n unit.at) (p unit.at) unit.is_wanted,
            w.low,
          );
          high = omega (arith, unit.adds p, unit.adds n, (bounded unit.at).0);
          ups = recounted n p 0 C one_more (one_start_more n p 0 C reversed unit w.below (omega arith)
              (omega (arith, w.low)) w.ups);
          downs = recounted p n 1 B as_many (starts_later p n 1 B unit.above w.downs);
        }
      where
        one_more : suc (weighted (up p n) here) ≡ weighted (up p n) unit.next
        one_more = omega (arith, unit.adds (up p n), ap (λ b. cond {A = ℕ} b 1 0) unit.is_wanted)

        as_many : weighted (down p n) here ≡ weighted (down p n) unit.next
        as_many = omega (arith, unit.adds (down p n), ap (λ b. cond {A = ℕ} b 0 1) unit.is_wanted)

        reversed : (d : List ℕ) → d ≼ v → weighted n d ≡ weighted p d → 0 < sum d → sum v ≤ sum d
        reversed d le e positive = smallest.no_smaller d le (sym e) positive

    step_down : weighted n here < weighted p here → UnitLeft (λ i. not (is_up p n i)) here v → Walked (suc k)
    step_down high unit =
        record {
          vector = unit.next;
          below = unit.below;
          size = omega (arith, longer unit, w.size);
          low = omega (arith, unit.adds p, unit.adds n, (bounded unit.at).1);
          high = omega (
            arith,
            unit.adds p,
            unit.adds n,
            leb-false (n unit.at) (p unit.at) is_down,
            w.high,
          );
          ups = recounted n p 0 C as_many (starts_later n p 0 C unit.above w.ups);
          downs =
              recounted p n 1 B one_more
              (one_start_more p n 1 B smallest.no_smaller unit w.below (omega arith)
              (omega (arith, w.high)) w.downs);
        }
      where
        is_down : is_up p n unit.at ≡ false
        is_down = not-true (is_up p n unit.at) unit.is_wanted

        one_more : suc (weighted (down p n) here) ≡ weighted (down p n) unit.next
        one_more = omega (arith, unit.adds (down p n), ap (λ b. cond {A = ℕ} b 0 1) is_down)

        as_many : weighted (up p n) here ≡ weighted (up p n) unit.next
        as_many = omega (arith, unit.adds (up p n), ap (λ b. cond {A = ℕ} b 1 0) is_down)

    -- while the difference is at most 0, an up unit is left: otherwise nothing is
    take_up : weighted p here ≤ weighted n here → UnitLeft (is_up p n) here v ⊎ NoneLeft (is_up p n) here v
        → Walked (suc k)
    take_up low (inl unit) = step_up low unit
    take_up low (inr nothing) =
        absurd
        (let h : weighted n here + weighted (λ i. suc (p i)) v ≤ weighted (λ i. suc (p i)) here + weighted n v =
        nothing (λ i. suc (p i)) n (λ i is_down. leb-false (n i) (p i) is_down) in
        omega (arith, weighted_suc p here, weighted_suc p v, smallest.equal, w.size))

    -- while it is above 0, a down unit is left: otherwise it would stay above
    take_down : weighted n here < weighted p here
        → UnitLeft (λ i. not (is_up p n i)) here v ⊎ NoneLeft (λ i. not (is_up p n i)) here v → Walked (suc k)
    take_down high (inl unit) = step_down high unit
    take_down high (inr nothing) =
        absurd
        (let h : weighted p here + weighted n v ≤ weighted n here + weighted p v =
        nothing n p (λ i is_up_here. leb-true (n i) (p i) (not-false (is_up p n i) is_up_here)) in
        omega (arith, smallest.equal))

    step : Walked (suc k)
    step = by_difference (dec_le (weighted p here) (weighted n here))
      where
        by_difference : Dec (weighted p here ≤ weighted n here) → Walked (suc k)
        by_difference (yes low) = take_up low (unit_or_none (is_up p n) w.below)
        by_difference (no high) = take_down (omega arith) (unit_or_none (λ i. not (is_up p n i)) w.below)

  walk : (k : ℕ) → k ≤ sum v → Walked k
  walk zero h = begin
  walk (suc k) h = step h (walk k (omega arith))

  -- Lambert: the entries at up places sum to at most C, those at down places to at most B.
  pub lambert : (weighted (up p n) v ≤ C) × (weighted (down p n) v ≤ B)
  lambert =
      let w : Walked (sum v) = walk (sum v) (le_refl (sum v)) in
      let all : w.vector ≡ v =
      ≼_equal w.below (let h : sum v ≤ sum w.vector = omega (arith, w.size) in h) in
      subst (λ x. (weighted (up p n) x ≤ C) × (weighted (down p n) x ≤ B)) all
      (at_most n p 0 C w.ups, at_most p n 1 B w.downs)
