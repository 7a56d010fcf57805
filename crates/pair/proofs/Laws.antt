-- Laws of a pair that was taken apart, for the crates above: what its places hold, and the limits that it keeps.
use mathlib.Core.Path.{◌≡◌, refl, sym, ◌∙◌}
use mathlib.Core.Bool.{false}
use mathlib.Core.List.{List, map, Memᴰ}
use Prim.Native.Nat.{ℕ, ◌≤◌, ◌<◌}
use native.Mathlib.Omega.{arith}
use lib.ListN.{length, get_or, take, length-map, get_or-append}
use lib.Seq.{take_at}
use lib.IntN.{nat_abs}
use Rattle.ac.specs.Pair.{Mode, count, net, variables, unbalanced}
use Rattle.ac.proofs.Longest.{Near}
use Rattle.ac.proofs.Places.{get_or-map}
use Rattle.numbers.specs.First.{NoneOf}
use Rattle.numbers.proofs.Carried.{elsewhere, none_given, its_member}
use Rattle.ac.specs.Limits.{Limits}
use Rattle.pair.specs.Given.{PairGiven, side_length, no_atom, on_both_sides, many_variables, far_net_count, many_constants, many_rows}
use Rattle.pair.specs.Gathered.{excess, padded, Held}
use Rattle.numbers.specs.Order.{parting_numbers, sides_numbers}
use Rattle.pair.specs.declared.Gathered.{Gathered}
use Rattle.pair.proofs.Telling.{at_most}
use Rattle.pair.proofs.NetCounts.{nat_abs_difference}

-- the front of the places is the list
take-padded : (list : List ℕ) {n : ℕ} → n ≡ length list → take n (padded list) ≡ list
take-padded list {n} how_many = take_at list _ n (sym how_many)

-- each place in use has what was made of the atom there
get_or-padded : (f : ℕ → ℕ) (list : List ℕ) {i : ℕ} → i < length list
    → get_or (padded (map f list)) i 0 ≡ f (get_or list i 0)
get_or-padded f list {i} used = get_or-append (map f list) _ 0 i (rw length-map used) ∙ get_or-map f list i 0 0 used

module _ {L R found : List ℕ} {gathered : Gathered} (held : Held L R found gathered) where
  -- the places in use hold the atoms found and the two parts of their net counts
  pub take_atoms : take gathered.count gathered.atoms ≡ found
  take_atoms = rw held.the_atoms (take-padded found held.how_many)

  pub take_left : take gathered.count gathered.left ≡ map (excess L R) found
  take_left = rw held.left_parts (take-padded (map (excess L R) found)
      (held.how_many ∙ sym (length-map found (excess L R))))

  pub take_right : take gathered.count gathered.right ≡ map (excess R L) found
  take_right = rw held.right_parts (take-padded (map (excess R L) found)
      (held.how_many ∙ sym (length-map found (excess R L))))

  -- and one by one
  pub left_at : (i : ℕ) → i < length found → get_or gathered.left i 0 ≡ excess L R (get_or found i 0)
  left_at i used = rw held.left_parts (get_or-padded (excess L R) found used)

  pub right_at : (i : ℕ) → i < length found → get_or gathered.right i 0 ≡ excess R L (get_or found i 0)
  right_at i used = rw held.right_parts (get_or-padded (excess R L) found used)

-- A pair that no number refuses keeps the limits on what it holds.
pub record KeepsLimits (limits : Limits) (M : Mode) (L R : List ℕ) : Type 0 where
  pub few_variables : length (variables M L R) ≤ limits.variables
  pub few_constants : length (unbalanced M L R) ≤ limits.constants
  pub near_left : (atom : ℕ) → excess L R atom ≤ limits.net_count
  pub near_right : (atom : ℕ) → excess R L atom ≤ limits.net_count

-- where 7 to 11 are not given
pub within_limits : {limits : Limits} {M : Mode} {L R : List ℕ}
    → NoneOf (PairGiven limits M L R) parting_numbers → KeepsLimits limits M L R
within_limits {limits} {M} {L} {R} none =
    record {
      few_variables = at_most (length (variables M L R)) limits.variables (λ many. not_given 9 refl (many_variables many));
      few_constants = at_most (length (unbalanced M L R)) limits.constants (λ many. not_given 11 refl (many_constants many));
      near_left = λ atom. omega (arith, near atom, nat_abs_difference (count atom L) (count atom R));
      near_right = λ atom. omega (arith, near atom, nat_abs_difference (count atom L) (count atom R));
    }
  where
    not_given : (n : ℕ) → elsewhere n parting_numbers ≡ false → PairGiven limits M L R n → ⊥
    not_given n its = none_given none (its_member parting_numbers its)

    near : (atom : ℕ) → nat_abs (net L R atom) ≤ limits.net_count
    near atom = at_most (nat_abs (net L R atom)) limits.net_count (λ far. not_given 10 refl (far_net_count atom far))

-- so how often an atom stands on the left and how often on the right are near
pub counts_near : {limits : Limits} {M : Mode} {L R : List ℕ} → KeepsLimits limits M L R → (x : ℕ)
    → Near limits.net_count (count x L) (count x R)
counts_near within x = omega (arith, within.near_left x, within.near_right x)

-- The numbers that speak of the two sides are theirs.
pub sides_number : {limits : Limits} {M : Mode} {L R : List ℕ} {n : ℕ} → PairGiven limits M L R n
    → Memᴰ n sides_numbers
sides_number (side_length side wrong) = its_member sides_numbers refl
sides_number (no_atom side wrong) = its_member sides_numbers refl
sides_number (on_both_sides asked shared) = its_member sides_numbers refl
sides_number (many_variables many) = its_member sides_numbers refl
sides_number (far_net_count atom far) = its_member sides_numbers refl
sides_number (many_constants many) = its_member sides_numbers refl
sides_number (many_rows groups many) = its_member sides_numbers refl
