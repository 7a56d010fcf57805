-- Every solution is a sum of rows: a balanced vector is a sum of balanced rows, a constant's vector is one of
-- its rows and a sum of balanced rows.
use Prim.Native.Nat.{ℕ, zero, suc, ◌+◌, ◌≤◌, ◌<◌}
use native.Mathlib.Omega.{arith}
use native.Mathlib.Decide.{dec_le}
use mathlib.Core.Path.{◌≡◌, refl, sym, ap, ◌∙◌}
use mathlib.Core.Bool.{Bool, true, false, false≢true}
use mathlib.Core.List.{List, [], ◌∷◌, Memᴰ}
use lib.ListN.{length, length-map, get_or, replicate, length-replicate}
use lib.IntN.{pos, neg_ℤ}
use Rattle.ac.specs.Lists.{sum}
use Rattle.ac.specs.Pair.{Mode, count, net, variables}
use Rattle.ac.specs.Rows.{IsVector, weight, Exactly, Group, Groups, GroupsOf}
use Rattle.ac.specs.Equation.{dot, coefficient, Solves, Minimal, equation, on_left, on_right, balanced_equation, combined, SumOf, RowAndSum}
use Rattle.ac.proofs.Vectors.{same_length, dot-weighted, Rest, rest_of, exactly_same}
use Rattle.ac.proofs.Places.{get_or_member}
use Rattle.ac.proofs.RowBelow.{RowBelow, minimal_below}
use Rattle.ac.proofs.Bridge.{weight_zero, weight_of_constant, balanced_row_is_minimal, row_of_constant_is_minimal}

-- One more of a row.

abbrev one_more : ℕ → List ℕ → List ℕ
one_more i [] = []
one_more zero (t ∷ ts) = suc t ∷ ts
one_more (suc i) (t ∷ ts) = t ∷ one_more i ts

length-one_more : (i : ℕ) (ts : List ℕ) → length (one_more i ts) ≡ length ts
length-one_more i [] = refl
length-one_more zero (t ∷ ts) = refl
length-one_more (suc i) (t ∷ ts) = ap suc (length-one_more i ts)

combined-one_more : (j : ℕ) (ts : List ℕ) (rows : List (List ℕ)) → j < length rows → length ts ≡ length rows
    → (i : ℕ)
    → combined (one_more j ts) rows i ≡ get_or (get_or rows j []) i 0 + combined ts rows i
combined-one_more j [] [] h e i = absurd (omega arith)
combined-one_more j [] (r ∷ rows) h e i = absurd (omega arith)
combined-one_more j (t ∷ ts) [] h e i = absurd (omega arith)
combined-one_more zero (t ∷ ts) (r ∷ rows) h e i = omega arith
combined-one_more (suc j) (t ∷ ts) (r ∷ rows) h e i =
    omega (arith, combined-one_more j ts rows (omega arith) (omega arith) i)

combined_none : (k : ℕ) (rows : List (List ℕ)) (i : ℕ) → combined (replicate k 0) rows i ≡ 0
combined_none zero rows i = refl
combined_none (suc k) [] i = refl
combined_none (suc k) (r ∷ rows) i = omega (arith, combined_none k rows i)

entry_within_sum : (v : List ℕ) (i : ℕ) → get_or v i 0 ≤ sum v
entry_within_sum [] i = omega arith
entry_within_sum (n ∷ v) zero = omega arith
entry_within_sum (n ∷ v) (suc i) = omega (arith, entry_within_sum v i)

module _ (left right : List ℕ) {balanced : List (List ℕ)}
    (exact : Exactly (Minimal (equation left right 0 0 true)) balanced) where
  dot_rest : (l : List ℕ) {u v : List ℕ} (r : Rest u v) → dot l v ≡ dot l u + dot l r.rest
  dot_rest l {u} {v} r =
      omega (arith, dot-weighted l v, dot-weighted l u, dot-weighted l r.rest, r.products (coefficient l))

  -- no balanced row is all zero, and both sums of a row agree
  row_positive : (b : ℕ) → b < length balanced → 0 < sum (get_or balanced b [])
  row_positive b h = (exact.only (get_or balanced b []) (get_or_member balanced b [] h)).least.has.not_all_zero refl

  row_equal : (b : ℕ) → b < length balanced → dot left (get_or balanced b []) ≡ dot right (get_or balanced b [])
  row_equal b h = omega (arith, (exact.only (get_or balanced b []) (get_or_member balanced b [] h)).least.has.equal)

  no_rows : {v : List ℕ} → sum v ≤ 0 → SumOf balanced v
  no_rows {v} small =
      record {
        times = replicate (length balanced) 0;
        a_number_each = length-replicate (length balanced) 0;
        adds_up = λ i. omega (arith, entry_within_sum v i, combined_none (length balanced) balanced i);
      }

  one_row_more : {v : List ℕ} (b : RowBelow balanced v) (r : Rest (get_or balanced b.index []) v)
      → SumOf balanced r.rest → SumOf balanced v
  one_row_more b r s =
      record {
        times = one_more b.index s.times;
        a_number_each = length-one_more b.index s.times ∙ s.a_number_each;
        adds_up = λ i. omega (
          arith,
          r.entries i,
          s.adds_up i,
          combined-one_more b.index s.times balanced b.within s.a_number_each i,
        );
      }

  sum_of_rows : (n : ℕ) (v : List ℕ) → sum v < n → length v ≡ length left → dot left v ≡ dot right v
      → SumOf balanced v
  sum_of_rows zero v small vector equal = absurd (omega arith)
  sum_of_rows (suc n) v small vector equal =
      by_size (dec_le (sum v) 0) (λ u less. sum_of_rows n u (let h : sum u < n = omega arith in h))
    where
      by_size : Dec (sum v ≤ 0)
          → ((u : List ℕ) → sum u < sum v → length u ≡ length left → dot left u ≡ dot right u
          → SumOf balanced u) → SumOf balanced v
      by_size (yes none) smaller = no_rows none
      by_size (no some) smaller = with_row (minimal_below (equation left right 0 0 true) exact v vector solves)
        where
          solves : Solves (equation left right 0 0 true) v
          solves = record {
            equal = let e : dot left v + 0 ≡ dot right v + 0 = omega arith in e;
            not_all_zero = λ t. omega arith;
          }

          with_row : RowBelow balanced v → SumOf balanced v
          with_row b = let r : Rest (get_or balanced b.index []) v = rest_of b.below in
              one_row_more b r
              (smaller r.rest
              (let h : sum r.rest < sum v = omega (arith, r.sums, row_positive b.index b.within) in h)
              (same_length r.below ∙ vector)
              (let h : dot left r.rest ≡ dot right r.rest = omega
              (arith, dot_rest left r, dot_rest right r, row_equal b.index b.within) in h))

  -- A balanced vector is a sum of the balanced rows.
  pub homogeneous_sum : (v : List ℕ) → length v ≡ length left → dot left v ≡ dot right v → SumOf balanced v
  homogeneous_sum v = sum_of_rows (suc (sum v)) v (omega arith)

  -- A solution of an equation with the same coefficients is one of its minimal solutions and a sum of
  -- balanced rows.
  pub constant_sum : (a b : ℕ) (h : Bool) {rows : List (List ℕ)}
      → Exactly (Minimal (equation left right a b h)) rows
      → (v : List ℕ) → length v ≡ length left → Solves (equation left right a b h) v → RowAndSum rows balanced v
  constant_sum a b h {rows} exact_rows v vector solves =
      with_row (minimal_below (equation left right a b h) exact_rows v vector solves)
    where
      with_row : RowBelow rows v → RowAndSum rows balanced v
      with_row row =
          let r : Rest (get_or rows row.index []) v = rest_of row.below in
          let equal : dot left (get_or rows row.index []) + a ≡ dot right (get_or rows row.index []) + b =
          (exact_rows.only (get_or rows row.index []) (get_or_member rows row.index [] row.within)).least.has.equal in
          let s : SumOf balanced r.rest =
          homogeneous_sum r.rest (same_length r.below ∙ vector)
          (let e : dot left r.rest ≡ dot right r.rest = omega
          (arith, dot_rest left r, dot_rest right r, equal, solves.equal) in e) in
          record {
            index = row.index;
            within = row.within;
            times = s.times;
            a_number_each = s.a_number_each;
            adds_up = λ i. omega (arith, r.entries i, s.adds_up i);
          }

module _ (M : Mode) (L R : List ℕ) {G : Groups} (groups : GroupsOf M L R G) where
  vector_of_coefficients : (v : List ℕ) → IsVector (variables M L R) v → length v ≡ length (on_left M L R)
  vector_of_coefficients v vector = vector ∙ sym (length-map (variables M L R) (λ x. count x L))

  balanced_exactly : Exactly (Minimal (balanced_equation M L R)) G.balanced
  balanced_exactly = exactly_same (balanced_row_is_minimal M L R) groups.balanced_rows

  -- A vector of weight 0 is a sum of the balanced rows.
  pub balanced_sum : (v : List ℕ) → IsVector (variables M L R) v → weight M L R v ≡ pos 0 → SumOf G.balanced v
  balanced_sum v vector zero_weight =
      homogeneous_sum
      (on_left M L R)
      (on_right M L R)
      balanced_exactly
      v
      (vector_of_coefficients v vector)
      ((weight_zero M L R v).0 zero_weight)

  -- A vector of a constant's weight is one of the constant's rows and a sum of balanced rows.
  pub unbalanced_sum : {g : Group} → Memᴰ g G.constants → (v : List ℕ) → IsVector (variables M L R) v
      → weight M L R v ≡ neg_ℤ (net L R g.constant) → RowAndSum g.rows G.balanced v
  unbalanced_sum {g} member v vector its_weight =
      constant_sum
      (on_left M L R)
      (on_right M L R)
      balanced_exactly
      (count g.constant L)
      (count g.constant R)
      false
      (exactly_same (row_of_constant_is_minimal M L R g.constant) (groups.constant_rows g member))
      v
      (vector_of_coefficients v vector)
      (record {
        equal = (weight_of_constant M L R g.constant v).0 its_weight;
        not_all_zero = λ t. absurd (false≢true t);
      })
