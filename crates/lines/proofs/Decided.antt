-- Each number of document 01's table is given or not, of any block and of any two sides; so a question's list has a
-- first one, or none of it is given.
use Rattle.std.proofs.Common.{ℕ, ◌+◌, ◌-◌, ◌<◌, arith, ◌≡◌, refl, ap, subst, true, ◌⊎◌, inl, inr, ⊎_elim, List, [], ◌∷◌, ◌++◌, length, nat_abs}
use native.Mathlib.Decide.{dec_lt, ℕ_discrete}
use mathlib.Core.List.Memᴰ
use Rattle.ac.specs.Pair.{Mode, net, count, variables, unbalanced}
use Rattle.ac.specs.Rows.{Group, Groups, GroupsOf}
use Rattle.ac.specs.Keys.{start}
use Rattle.ac.proofs.Counts.{count_member}
use Rattle.ac.proofs.Groups.{groups_unique}
use Rattle.block.specs.Block.{block_number as number_of_block, left_length, right_length, left_term, right_term, filler, check, check_of_bytes}
use Rattle.block.specs.Table.{NoLength, NoTerm, ReadGiven, block_length, check_differs, block_number, term_length, no_term, filler_byte, short_buffer}
use Rattle.numbers.specs.Order.{read_numbers, sides_numbers, beginning_numbers}
use Rattle.block.proofs.Faults.{term_or_fault, fault_is_no_term}
use Rattle.list.specs.Given.{ListGiven, none_admissible, not_listed, last_listed}
use Rattle.list.proofs.Given.{start_not_after}
use Rattle.numbers.proofs.Decided.{none, next, Settled, settle, same_dec, not_dec, either_dec, both_dec, Some, some_dec}
use Rattle.ac.specs.Limits.{limits}
use Rattle.pair.proofs.Decided.{wrong_length_dec, wrong_byte_dec, true_dec, shared_dec}
use Rattle.pair.proofs.NetCounts.{nat_abs_difference}
use Rattle.pair.specs.Given.{left, right, least_atoms, WrongLength, WrongByte, OnBothSides, Far, ManyRows, balanced, of_a_constant, PairGiven, side_length, no_atom, on_both_sides, many_variables, far_net_count, many_constants, many_rows}

-- The numbers of Read, of buffers that are long enough.
module _ (block : List ℕ) (number : ℕ) (left right : List ℕ) (long : (length left < 64) ⊎ (length right < 64) → ⊥) where
  no_length_dec : (n : ℕ) → Dec (NoLength n)
  no_length_dec n = either_dec (ℕ_discrete n 0) (dec_lt 127 n)

  no_term_dec : (bytes : List ℕ) → Dec (NoTerm bytes)
  no_term_dec bytes =
      ⊎_elim (λ term. no (λ no_term. no_term term.0 term.1)) (λ fault. yes (fault_is_no_term fault))
      (term_or_fault bytes)

  -- what each number says
  given_16 : ReadGiven block number left right 16 → ⊥
  given_16 (short_buffer h) = long h

  given_1 : ReadGiven block number left right 1 → length block ≡ 512 → ⊥
  given_1 (block_length h) = h

  given_2 : ReadGiven block number left right 2 → check block ≡ check_of_bytes block → ⊥
  given_2 (check_differs h) = h

  given_3 : ReadGiven block number left right 3 → number_of_block block ≡ number → ⊥
  given_3 (block_number h) = h

  given_4 : ReadGiven block number left right 4 → NoLength (left_length block) ⊎ NoLength (right_length block)
  given_4 (term_length h) = h

  given_5 : ReadGiven block number left right 5 → NoTerm (left_term block) ⊎ NoTerm (right_term block)
  given_5 (no_term h) = h

  given_6 : ReadGiven block number left right 6 → Some (λ (b : ℕ). b ≡ 0 → ⊥) (filler block)
  given_6 (filler_byte b m h) = record { member = b; on_list = m; so = h }

  pub read_settled : Settled (ReadGiven block number left right) read_numbers
  read_settled = settle
      (next (no given_16)
      (next (same_dec block_length given_1 (not_dec (ℕ_discrete (length block) 512)))
      (next (same_dec check_differs given_2 (not_dec (ℕ_discrete (check block) (check_of_bytes block))))
      (next (same_dec block_number given_3 (not_dec (ℕ_discrete (number_of_block block) number)))
      (next (same_dec term_length given_4
      (either_dec (no_length_dec (left_length block)) (no_length_dec (right_length block))))
      (next (same_dec no_term given_5 (either_dec (no_term_dec (left_term block)) (no_term_dec (right_term block))))
      (next (same_dec (λ s. filler_byte s.member s.on_list s.so) given_6
      (some_dec (λ b. not_dec (ℕ_discrete b 0)) (filler block)))
      none)))))))

-- The numbers 7 to 12, and 19.
module _ (M : Mode) (L R : List ℕ) {G : Groups} (of : GroupsOf M L R G) where
  -- of one of the sides
  side_dec : {P : List ℕ → Type 0} → ((side : List ℕ) → Dec (P side)) → Dec (P L ⊎ P R)
  side_dec dec = either_dec (dec L) (dec R)

  given_7 : PairGiven limits M L R 7
      → WrongLength limits (least_atoms limits M) L ⊎ WrongLength limits (least_atoms limits M) R
  given_7 (side_length left h) = inl h
  given_7 (side_length right h) = inr h

  given_8 : PairGiven limits M L R 8 → WrongByte limits L ⊎ WrongByte limits R
  given_8 (no_atom left h) = inl h
  given_8 (no_atom right h) = inr h

  given_19 : PairGiven limits M L R 19 → (M.separate ≡ true) × OnBothSides L R
  given_19 (on_both_sides asked shared) = (asked, shared)

  given_9 : PairGiven limits M L R 9 → 6 < length (variables M L R)
  given_9 (many_variables h) = h

  -- an atom with a net count stands on one of the sides
  given_10 : PairGiven limits M L R 10 → Some (Far limits L R) (L ++ R)
  given_10 (far_net_count atom h) = by_count (dec_lt 0 (count atom L))
    where
      far : 8 < (count atom L - count atom R) + (count atom R - count atom L)
      far = omega (arith, h, nat_abs_difference (count atom L) (count atom R))

      by_count : Dec (0 < count atom L) → Some (Far limits L R) (L ++ R)
      by_count (yes on_left) =
          record { member = atom; on_list = Memᴰ.append_left R (count_member atom L on_left); so = h }
      by_count (no not_left) =
          let on_right : 0 < count atom R = omega (arith, far) in
          record { member = atom; on_list = Memᴰ.append_right L (count_member atom R on_right); so = h }

  given_11 : PairGiven limits M L R 11 → 4 < length (unbalanced M L R)
  given_11 (many_constants h) = h

  given_12 : PairGiven limits M L R 12
      → (16 < length G.balanced) ⊎ Some (λ (g : Group). 16 < length g.rows) G.constants
  given_12 (many_rows {G = H} other h) = by_rows (subst (ManyRows limits) (groups_unique M L R other of) h)
    where
      by_rows : ManyRows limits G → (16 < length G.balanced) ⊎ Some (λ (g : Group). 16 < length g.rows) G.constants
      by_rows (balanced h) = inl h
      by_rows (of_a_constant {g = g} m h) = inr (record { member = g; on_list = m; so = h })

  pub pair_settled : Settled (PairGiven limits M L R) sides_numbers
  pair_settled = settle
      (next (same_dec (⊎_elim (side_length left) (side_length right)) given_7
      (side_dec (wrong_length_dec limits (least_atoms limits M))))
      (next (same_dec (⊎_elim (no_atom left) (no_atom right)) given_8 (side_dec (wrong_byte_dec limits)))
      (next (same_dec (λ both. on_both_sides both.0 both.1) given_19
      (both_dec (true_dec M.separate) (shared_dec L R)))
      (next (same_dec many_variables given_9 (dec_lt 6 (length (variables M L R))))
      (next (same_dec (λ s. far_net_count s.member s.so) given_10
      (some_dec (λ atom. dec_lt 8 (nat_abs (net L R atom))) (L ++ R)))
      (next (same_dec many_constants given_11 (dec_lt 4 (length (unbalanced M L R))))
      (next (same_dec
      (λ many. many_rows of (⊎_elim balanced (λ s. of_a_constant s.on_list s.so) many)) given_12
      (either_dec (dec_lt 16 (length G.balanced)) (some_dec (λ g. dec_lt 16 (length g.rows)) G.constants)))
      none)))))))

-- The numbers 13 to 15, from the start on.
pub list_settled : (listed : List ℕ) → Settled (ListGiven listed start) beginning_numbers
list_settled listed = settle (next (empty_dec listed) (next (no given_14) (next (no given_15) none)))
  where
    empty_dec : (l : List ℕ) → Dec (ListGiven l start 13)
    empty_dec [] = yes (none_admissible refl)
    empty_dec (key ∷ l) = no never
      where
        never : ListGiven (key ∷ l) start 13 → ⊥
        never (none_admissible e) = omega (arith, ap length e)

    given_14 : ListGiven listed start 14 → ⊥
    given_14 (not_listed e h) = start_not_after e

    given_15 : ListGiven listed start 15 → ⊥
    given_15 (last_listed e m h) = start_not_after e
