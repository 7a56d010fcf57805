-- Reading the row indexes of a key one after the other, and the rank that they come to.
use Prim.Native.Nat.{ℕ, suc, ◌+◌, ◌*◌, ◌/◌, ◌%◌, ◌^◌, ◌<◌, ◌≤◌}
use native.Mathlib.Omega.{arith}
use native.Mathlib.Nat.{mul-le-mul_left, pow-suc, pow-le-pow_right}
use native.Mathlib.Numerals.{add-one}
use mathlib.Core.Path.{◌≡◌, refl, sym, ap, ap₂, ◌∙◌}
use mathlib.Core.Bool.{Bool, true, false}
use mathlib.Core.List.{List, [], ◌∷◌}
use lib.Bits.{bit_and, and_mask, mask_lt}
use lib.ListN.{length, get_or, drop, drop_of_length-le}
use lib.Pow.{pow_pos, pow_mono, shl_lt, shl_exact}
use Rattle.ac.specs.Rows.{Groups, rows_at}
use Rattle.ac.specs.Keys.{layout, field_at, selection_at, start, Candidate, Fits}
use Rattle.ac.specs.Weighed.{candidates, weighed}
use Rattle.ac.proofs.Fields.{length_fields_of, index_at}
use Rattle.ac.proofs.Rank.{tuple_rank, index_read, rank_counts, rank_tuples}
use Rattle.ac.proofs.AllTaken.{candidate_in}
use Rattle.table.specs.Table.{most_rows}
use Rattle.table.specs.Masks.{Sized, rows_to_take}
use Rattle.list.specs.Ranks.{RankIn}

-- so many indexes are read: what they come to, with the others read behind it, is what all come to
pub record Read (sizes : List ℕ) (unbalanced key g tuple : ℕ) : Type 0 where
  pub not_too_many : g ≤ unbalanced
  pub small : tuple < 16 ^ g
  pub the_rest : (G : Groups) → Sized sizes unbalanced G → Fits layout G
      → tuple_rank tuple (drop g G.constants) (drop g (selection_at layout G key).indexes)
      ≡ tuple_rank 0 G.constants (selection_at layout G key).indexes

module _ {sizes : List ℕ} {unbalanced key g tuple : ℕ} (read : Read sizes unbalanced key g tuple) where
  -- one more
  pub read_next : {index : ℕ} → g < unbalanced → ((h : ℕ) → get_or sizes h 0 ≤ most_rows h) → index ≡ field_at layout key g
      → Read sizes unbalanced key (g + 1) (tuple * get_or sizes (g + 1) 0 + index)
  read_next {index} less few its_field =
      record {
        not_too_many = omega arith;
        small = omega (
          arith,
          read.small,
          mul-le-mul_left tuple (few (suc g)),
          ap (λ (n : ℕ). tuple * get_or sizes n 0) (add-one g),
          pow-suc 16 g,
          ap (λ (n : ℕ). 16 ^ n) (add-one g),
          its_field,
        );
        the_rest = λ G sized fits. sym (step G sized fits) ∙ read.the_rest G sized fits;
      }
    where
      step : (G : Groups) → Sized sizes unbalanced G → Fits layout G
          → tuple_rank tuple (drop g G.constants) (drop g (selection_at layout G key).indexes)
          ≡ tuple_rank (tuple * get_or sizes (g + 1) 0 + index) (drop (g + 1) G.constants)
          (drop (g + 1) (selection_at layout G key).indexes)
      step G sized fits =
          index_read G.constants (selection_at layout G key).indexes g tuple
          (length_fields_of layout 4 G.constants (key / 65536) fits.few_constants)
          (omega (arith, sized.how_many_constants))
          ∙ ap₂ (λ (above place : ℕ). tuple_rank above (drop place G.constants)
          (drop place (selection_at layout G key).indexes)) digits (sym (add-one g))
        where
          digits : tuple * length (rows_at G.constants g) + get_or (selection_at layout G key).indexes g 0
              ≡ tuple * get_or sizes (g + 1) 0 + index
          digits =
              ap₂ (λ (size digit : ℕ). tuple * size + digit)
              (sized.a_size_each (suc g) less ∙ ap (λ (n : ℕ). get_or sizes n 0) (sym (add-one g)))
              (index_at fits key g (omega (arith, sized.how_many_constants)) ∙ sym its_field)

  -- they come to a tuple of a key
  pub read_small : unbalanced ≤ 4 → tuple < 2 ^ 16
  read_small few =
      let fewer : g ≤ 4 = omega (arith, read.not_too_many) in
      let most : 16 ^ g ≤ 16 ^ 4 = pow-le-pow_right (omega arith) fewer in
      omega (arith, read.small)

  -- which leaves room for the sets of balanced rows
  pub room_for_sets : unbalanced ≤ 4 → get_or sizes 0 0 ≤ 16
      → tuple * 2 ^ get_or sizes 0 0 % 2 ^ 64 + bit_and key 65535 < 2 ^ 33
  room_for_sets few few_balanced =
      let within : 16 + get_or sizes 0 0 ≤ 32 = omega arith in
      omega (
        arith,
        shl_exact 16 (get_or sizes 0 0) 64 (read_small few) (omega arith),
        shl_lt 16 (get_or sizes 0 0) (read_small few),
        pow_mono within,
        mask_lt key 16,
      )

  -- all are read: they come to the rank of the tuple
  whole : unbalanced ≤ g → {G : Groups} → Sized sizes unbalanced G → Fits layout G
      → tuple ≡ tuple_rank 0 G.constants (selection_at layout G key).indexes
  whole end {G} sized fits =
      ap (λ gs. tuple_rank tuple gs (drop g (selection_at layout G key).indexes))
      (sym (drop_of_length-le G.constants {i = g} (omega (arith, sized.how_many_constants))))
      ∙ read.the_rest G sized fits

  -- With every set of balanced rows for each tuple before, the key's own set and itself it is the rank. Where all balanced
  -- rows must be taken but there are none, each tuple has one set.
  pub read_all : {must : ℕ} → must ≤ 0 → unbalanced ≤ g → unbalanced ≤ 4 → get_or sizes 0 0 ≤ 16
      → RankIn sizes unbalanced must key (tuple * 2 ^ get_or sizes 0 0 % 2 ^ 64 + bit_and key 65535 + 1)
  read_all none end few few_balanced M G its sized fits m = by_mode M.empties refl
    where
      one : Candidate layout G key
      one = (candidate_in M layout G fits m).0

      exact : tuple * 2 ^ get_or sizes 0 0 % 2 ^ 64
          ≡ tuple_rank 0 G.constants (selection_at layout G key).indexes * 2 ^ length G.balanced
      exact =
          shl_exact 16 (get_or sizes 0 0) 64 (read_small few) (omega arith)
          ∙ ap₂ (λ (m n : ℕ). m * 2 ^ n) (whole end sized fits) (sym (sized.a_size_each 0 (omega arith)))

      by_mode : (b : Bool) → M.empties ≡ b
          → tuple * 2 ^ get_or sizes 0 0 % 2 ^ 64 + bit_and key 65535 + 1 ≡ weighed start (key ∷ []) (candidates M layout G)
      by_mode false full = omega (arith, exact, and_mask key 16, rank_counts M fits full one)
      by_mode true empty =
          let no_row : 2 ^ length G.balanced ≡ 1 =
          omega (arith, none, its, ap (λ b. rows_to_take b (length G.balanced)) empty, pow_pos (length G.balanced)) in
          omega (
            arith,
            exact,
            ap (λ (n : ℕ). tuple_rank 0 G.constants (selection_at layout G key).indexes * n) no_row,
            and_mask key 16,
            one.no_bit_beyond,
            rank_tuples M fits empty m,
          )

  -- where some balanced row must be taken, all are, and it is the tuple's rank and itself
  pub read_tuple : {must : ℕ} → 0 < must → unbalanced ≤ g → RankIn sizes unbalanced must key (tuple + 1)
  read_tuple some end M G its sized fits m = by_mode M.empties refl
    where
      by_mode : (b : Bool) → M.empties ≡ b → tuple + 1 ≡ weighed start (key ∷ []) (candidates M layout G)
      by_mode true empty = omega (arith, whole end sized fits, rank_tuples M fits empty m)
      by_mode false full = absurd (omega (arith, some, its, ap (λ b. rows_to_take b (length G.balanced)) full))
