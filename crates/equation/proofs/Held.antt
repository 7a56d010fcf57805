-- Which rows are found, from one prefix to the next.
use Prim.Native.Nat.{ℕ, suc, ◌+◌, ◌*◌, ◌≤◌, ◌<◌}
use native.Mathlib.Omega.{arith}
use native.Mathlib.Numerals.{add-one}
use mathlib.Core.Path.{◌≡◌, refl, sym, ap, subst, ◌∙◌}
use mathlib.Core.Logic.{◌⊎◌, inl, inr}
use mathlib.Core.List.Memᴰ
use mathlib.Core.List.{List, [], ◌∷◌, ◌++◌, Memᴰ}
use lib.ListN.{length, length-append, get_or, take, drop}
use Rattle.ac.specs.Rows.{Exactly, ◌≺◌, ◌≼◌}
use Rattle.ac.specs.Equation.{Equation, Solves, Minimal}
use Rattle.ac.specs.Search.{minimal_solutions}
use Rattle.ac.proofs.Vectors.{same_length, ≼_trans, ≼_equal, sum_mono, exactly_same}
use Rattle.ac.proofs.Order.{≺_asymmetric, ascending_single, ascending_append}
use Rattle.ac.proofs.Places.{get_or_member}
use Rattle.ac.proofs.Search.{minimal_solutions_exact}
use Rattle.ac.proofs.RowBelow.{RowBelow, minimal_below}
use Rattle.std.specs.Prelude.{Some, None}
use Rattle.equation.specs.Flat.{rows_of}
use Rattle.equation.specs.Kept.{MoreThan, Upto, RowBefore, RowUpto, Lower, Keeps, Advances}
use Rattle.equation.proofs.Flat.{length_rows, rows_put}
use Rattle.equation.proofs.Prefix.{Begins, Smaller, upto_cases, before_upto, before_longer, before_number_cases, upto_before_next, before_next_upto, upto_shorter, smaller_before, begins_upto, begins_whole, ≼_before}

-- The next vector, which solves the equation: the rows before it are found.
module _ (E : Equation) {v : List ℕ} (vector : length v ≡ length E.left) (solves : Solves E v)
    {rows : List (List ℕ)} (found : Exactly (RowBefore E v) rows) where
  -- where one of them is lower, it is no row, and the rows up to it are those before it
  not_minimal : Lower rows v → Minimal E v → ⊥
  not_minimal lower minimal =
      let row = found.only lower.row lower.found in
      let itself : v ≺ v = subst (λ w. w ≺ v)
      (minimal.least.no_other lower.row lower.below row.0.least.has) row.1 in
      ≺_asymmetric itself itself

  -- a lower row says that the vector is none
  upto_lower : Lower rows v → Exactly (RowUpto E v) rows
  upto_lower lower = exactly_same (λ w.
      (λ b. (b.0, before_upto b.1), λ u. (u.0, before u.0 (upto_cases u.1)))) found
    where
      before : {w : List ℕ} → Minimal E w → (w ≺ v) ⊎ Begins v w → w ≺ v
      before minimal (inl h) = h
      before minimal (inr b) =
          absurd (not_minimal lower (subst (Minimal E) (begins_whole v (minimal.vector ∙ sym vector) b) minimal))

  -- where none is, it is a row: below every solution stands a minimal one
  minimal_unless : (Lower rows v → ⊥) → Minimal E v
  minimal_unless none_lower = record { vector = vector; least = record { has = solves; no_other = no_other } }
    where
      exact : Exactly (Minimal E) (minimal_solutions E)
      exact = minimal_solutions_exact E

      no_other : (u : List ℕ) → u ≼ v → Solves E u → u ≡ v
      no_other u below solves_u = by_order (≼_before (≼_trans b.below below))
        where
          b : RowBelow (minimal_solutions E) u
          b = minimal_below E exact u (same_length below ∙ vector) solves_u

          g : List ℕ
          g = get_or (minimal_solutions E) b.index []

          minimal_g : Minimal E g
          minimal_g = exact.only g (get_or_member (minimal_solutions E) b.index [] b.within)

          by_order : (g ≺ v) ⊎ (g ≡ v) → u ≡ v
          by_order (inl before) =
              absurd (none_lower (record {
                row = g;
                found = found.all g (minimal_g, before);
                below = ≼_trans b.below below;
              }))
          by_order (inr same) = ≼_equal below (sum_mono (subst (λ w. w ≼ u) same b.below))

  -- so the rows up to it are those before it and the vector itself
  upto_more : (Lower rows v → ⊥) → Exactly (RowUpto E v) (rows ++ (v ∷ []))
  upto_more none_lower =
      record {
        ascending = ascending_append found.ascending (ascending_single v)
            (λ g w m m'. subst (λ x. g ≺ x) (sym (Memᴰ.eq_of_singleton m')) (found.only g m).1);
        only = λ w m. only w (Memᴰ.append_cases rows m);
        all = λ w u. all w u.0 (upto_cases u.1);
      }
    where
      only : (w : List ℕ) → Memᴰ w rows ⊎ Memᴰ w (v ∷ []) → RowUpto E v w
      only w (inl m) = ((found.only w m).0, before_upto (found.only w m).1)
      only w (inr m) =
          subst (RowUpto E v) (sym (Memᴰ.eq_of_singleton m)) (minimal_unless none_lower, begins_upto v)

      all : (w : List ℕ) → Minimal E w → (w ≺ v) ⊎ Begins v w → Memᴰ w (rows ++ (v ∷ []))
      all w minimal (inl before) = Memᴰ.append_left (v ∷ []) (found.all w (minimal, before))
      all w minimal (inr b) =
          Memᴰ.append_right rows (Memᴰ.head (begins_whole v (minimal.vector ∙ sym vector) b))

-- The vector has been compared with the rows found: the three ways on.
module _ {limit n : ℕ} {v : List ℕ} (bytes : List ℕ) (fits : n ≤ limit) where
  rows_of_vector : (E : Equation) → length v ≡ length E.left
      → Exactly (RowBefore E v) (rows_of (length E.left) n bytes)
      → Exactly (RowBefore E v) (rows_of (length v) n bytes)
  rows_of_vector E vector held = subst (λ k. Exactly (RowBefore E v) (rows_of k n bytes)) (sym vector) held

  -- a row found is lower: nothing changes
  pub keeps_lower : Lower (rows_of (length v) n bytes) v → Keeps limit v bytes n bytes (Some n)
  keeps_lower lower =
      record {
        counted = fits;
        found = λ E vector solves held. (
          fits,
          subst (λ k. Exactly (RowUpto E v) (rows_of k n bytes)) vector
              (upto_lower E vector solves (rows_of_vector E vector held) lower),
        );
      }

  module _ (none_lower : Lower (rows_of (length v) n bytes) v → ⊥) where
    next : (E : Equation) → length v ≡ length E.left → Solves E v
        → Exactly (RowBefore E v) (rows_of (length E.left) n bytes)
        → Exactly (RowUpto E v) (rows_of (length v) n bytes ++ (v ∷ []))
    next E vector solves held = upto_more E vector solves (rows_of_vector E vector held) none_lower

    -- none is, and there is no room: there are more than the limit
    pub keeps_full : n ≡ limit → Keeps limit v bytes n bytes None
    keeps_full full = record { counted = tt; found = found }
      where
        long : limit < length (rows_of (length v) n bytes ++ (v ∷ []))
        long = omega (arith, length-append (rows_of (length v) n bytes) (v ∷ []), length_rows (length v) n bytes)

        found : (E : Equation) → length v ≡ length E.left → Solves E v → Advances E v limit bytes n bytes None
        found E vector solves held =
            let rows = next E vector solves held in
            record {
              rows = rows_of (length v) n bytes ++ (v ∷ []);
              ascending = rows.ascending;
              only = rows.only;
              many = long;
            }

    -- none is, and it is put behind them
    pub keeps_put : (n ≡ limit → ⊥) → n * length v ≤ length bytes → {bytes' : List ℕ}
        → bytes' ≡ take (n * length v) bytes ++ v ++ drop (n * length v + length v) bytes
        → Keeps limit v bytes n bytes' (Some (n + 1))
    keeps_put room_left room {bytes'} put = record { counted = omega arith; found = found }
      where
        rows' : rows_of (length v) (suc n) bytes' ≡ rows_of (length v) n bytes ++ (v ∷ [])
        rows' = ap (rows_of (length v) (suc n)) put ∙ rows_put (length v) n bytes v room refl

        found : (E : Equation) → length v ≡ length E.left → Solves E v
            → Advances E v limit bytes n bytes' (Some (n + 1))
        found E vector solves held = (
          omega arith,
          rw (add-one n)
              (subst (λ k. Exactly (RowUpto E v) (rows_of k (suc n) bytes')) vector
              (rw rows' (next E vector solves held))),
        )

-- From one prefix to the next.

module _ {E : Equation} (p : List ℕ) {rows : List (List ℕ)} where
  -- no row begins with the prefix
  pub skip : ((rest : List ℕ) → Minimal E (p ++ rest) → ⊥) → Exactly (RowBefore E p) rows → Exactly (RowUpto E p) rows
  skip none = exactly_same (λ v. (λ b. (b.0, before_upto b.1), λ u. (u.0, before u.0 (upto_cases u.1))))
    where
      before : {v : List ℕ} → Minimal E v → (v ≺ p) ⊎ Begins p v → v ≺ p
      before minimal (inl h) = h
      before minimal (inr b) = absurd (none b.rest (subst (Minimal E) b.whole minimal))

  -- no row has a number below the first after the prefix
  pub from_first : (first : ℕ) → ((m : ℕ) (rest : List ℕ) → Minimal E (p ++ m ∷ rest) → first ≤ m)
      → Exactly (RowBefore E p) rows → Exactly (RowBefore E (p ++ first ∷ [])) rows
  from_first first none =
      exactly_same (λ v. (
        λ b. (b.0, before_longer (first ∷ []) b.1),
        λ b.
            (b.0, before b.0 (before_number_cases p first b.1)),
      ))
    where
      before : {v : List ℕ} → Minimal E v → (v ≺ p) ⊎ Smaller p first v → v ≺ p
      before minimal (inl h) = h
      before minimal (inr s) =
          absurd (omega (arith, none s.number s.rest (subst (Minimal E) s.whole minimal), s.smaller))

  -- the rows up to a number after the prefix are those before the next number
  pub to_next : (m : ℕ) → Exactly (RowUpto E (p ++ m ∷ [])) rows → Exactly (RowBefore E (p ++ (m + 1) ∷ [])) rows
  to_next m =
      rw add-one (exactly_same (λ v. (
        λ u. (u.0, upto_before_next p m u.1),
        λ b.
            (b.0, before_next_upto p m b.1),
      )))

  -- every row has a number below the last after the prefix
  pub to_last : length p < length E.left → (last : ℕ)
      → ((m : ℕ) (rest : List ℕ) → Minimal E (p ++ m ∷ rest) → m < last)
      → Exactly (RowBefore E (p ++ last ∷ [])) rows → Exactly (RowUpto E p) rows
  to_last short last small =
      exactly_same (λ v. (
        λ b. (b.0, upto b.0 (before_number_cases p last b.1)),
        λ u.
            (u.0, before u.0 (upto_cases u.1)),
      ))
    where
      at_number : (rest : List ℕ) → Minimal E (p ++ rest) → (p ++ rest) ≺ (p ++ last ∷ [])
      at_number [] minimal = absurd (omega (arith, minimal.vector, length-append p []))
      at_number (m ∷ rest) minimal = smaller_before p rest (small m rest minimal)

      upto : {v : List ℕ} → Minimal E v → (v ≺ p) ⊎ Smaller p last v → Upto p v
      upto minimal (inl h) = before_upto h
      upto {v} minimal (inr s) = upto_shorter p (s.number ∷ s.rest) (subst (λ w. Upto w v) s.whole (begins_upto v))

      before : {v : List ℕ} → Minimal E v → (v ≺ p) ⊎ Begins p v → v ≺ (p ++ last ∷ [])
      before minimal (inl h) = before_longer (last ∷ []) h
      before minimal (inr b) =
          subst (λ w. w ≺ (p ++ last ∷ [])) (sym b.whole) (at_number b.rest (subst (Minimal E) b.whole minimal))

-- more rows up to a longer prefix are more up to a shorter one
pub more_shorter : {E : Equation} {limit : ℕ} (p q : List ℕ) → MoreThan limit (RowUpto E (p ++ q))
    → MoreThan limit (RowUpto E p)
more_shorter p q more =
    record {
      rows = more.rows;
      ascending = more.ascending;
      only = λ v m. ((more.only v m).0, upto_shorter p q (more.only v m).1);
      many = more.many;
    }
