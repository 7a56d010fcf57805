-- The places that a key reaches by the masks are those that the taken rows of its selection reach.
use Prim.Native.Nat.{ℕ, zero, suc, ◌+◌, ◌-◌, ◌*◌, ◌<◌, ◌≤◌}
use native.Mathlib.Omega.{arith}
use native.Mathlib.Numerals.{add-one}
use mathlib.Core.Path.{◌≡◌, refl, sym, ◌∙◌, ap, ap₂}
use mathlib.Core.Bool.{Bool, true, false, ◌||◌, ◌&&◌, or_assoc, and-false}
use mathlib.Core.List.{List, [], ◌∷◌, ◌++◌, map}
use lib.Dec.{ltb}
use lib.ListN.{length, get_or, get_or-eq_default}
use Rattle.ac.specs.Lists.{from}
use Rattle.ac.specs.Rows.{Group, Groups, rows_at}
use Rattle.ac.specs.Selection.{Taken, taken_rows, taken_balanced, taken, reached}
use Rattle.ac.specs.Keys.{layout, bit, field_at, selection_at, Fits}
use Rattle.ac.proofs.Fields.{length_fields_of, index_at}
use Rattle.table.specs.Masks.{Marked}
use Rattle.list.specs.Reach.{any, all, takes_any, reaches}
use Rattle.list.specs.Candidates.{fills}
use Rattle.list.proofs.Any.{any_same, any-front, any-further}

-- rows taken one after the other reach what one of the two reaches
reached-append : (ts us : List Taken) (p : ℕ) → reached (ts ++ us) p ≡ (reached ts p || reached us p)
reached-append [] us p = refl
reached-append (t ∷ ts) us p =
    ap (λ b. ltb 0 (get_or t.row p 0) || b) (reached-append ts us p)
    ∙ sym (or_assoc (ltb 0 (get_or t.row p 0)) (reached ts p) (reached us p))

-- the constants' rows, counted by the constants
reached_constants : (gs : List Group) (is : List ℕ) (p : ℕ) → length is ≡ length gs
    → reached (taken_rows gs is) p
    ≡ any (length gs) (λ g. ltb 0 (get_or (get_or (rows_at gs g) (get_or is g 0) []) p 0))
reached_constants [] is p e = refl
reached_constants (g ∷ gs) [] p e = absurd (omega arith)
reached_constants (g ∷ gs) (i ∷ is) p e =
    ap (λ b. ltb 0 (get_or (get_or g.rows i []) p 0) || b) (reached_constants gs is p (omega arith))
    ∙ sym (any-front (length gs) (λ h. ltb 0 (get_or (get_or (rows_at (g ∷ gs) h) (get_or (i ∷ is) h 0) []) p 0)))

-- a balanced row reaches a place if it is taken
reached-taken : (new : ℕ) (r : List ℕ) (rs : List (List ℕ)) (t : Bool) (ts : List Bool) (p : ℕ)
    → reached (taken_balanced new (r ∷ rs) (t ∷ ts)) p
    ≡ (t && ltb 0 (get_or r p 0) || reached (taken_balanced (suc new) rs ts) p)
reached-taken new r rs true ts p = refl
reached-taken new r rs false ts p = refl

-- the balanced rows, counted by the rows, where bit a of the key is that of the first
reached_balanced : (new : ℕ) (rs : List (List ℕ)) (key a p : ℕ)
    → reached (taken_balanced new rs (map (bit key) (from a (length rs)))) p
    ≡ any (length rs) (λ i. bit key (a + i) && ltb 0 (get_or (get_or rs i []) p 0))
reached_balanced new [] key a p = refl
reached_balanced new (r ∷ rs) key a p =
    reached-taken new r rs (bit key a) (map (bit key) (from (suc a) (length rs))) p
    ∙ ap₂ (λ b c. b || c)
    (ap (λ (n : ℕ). bit key n && ltb 0 (get_or r p 0)) (let e : a ≡ a + 0 = omega arith in e))
    (reached_balanced (suc new) rs key (suc a) p
    ∙ any_same (length rs) (λ i. bit key (suc a + i) && ltb 0 (get_or (get_or rs i []) p 0))
    (λ i. bit key (a + suc i) && ltb 0 (get_or (get_or rs i []) p 0))
    (λ i h. ap (λ (n : ℕ). bit key n && ltb 0 (get_or (get_or rs i []) p 0)) (omega arith)))
    ∙ sym (any-front (length rs) (λ i. bit key (a + i) && ltb 0 (get_or (get_or (r ∷ rs) i []) p 0)))

module _ {reaching : List ℕ} {unbalanced places : ℕ} {G : Groups} (marked : Marked reaching unbalanced places G)
    (fits : Fits layout G) (key : ℕ) where
  constants_reach : (p : ℕ) → p < places
      → reached (taken_rows G.constants (selection_at layout G key).indexes) p
      ≡ any unbalanced (λ g. bit (get_or reaching (6 * (g + 1) + p) 0) (field_at layout key g))
  constants_reach p h =
      reached_constants G.constants (selection_at layout G key).indexes p
      (length_fields_of layout 4 G.constants _ fits.few_constants)
      ∙ any_same (length G.constants) _
      (λ g. bit (get_or reaching (6 * (g + 1) + p) 0) (field_at layout key g)) entry
      ∙ ap (λ n. any n (λ g. bit (get_or reaching (6 * (g + 1) + p) 0) (field_at layout key g)))
      marked.how_many_constants
    where
      entry : (g : ℕ) → g < length G.constants
          → ltb 0 (get_or (get_or (rows_at G.constants g) (get_or (selection_at layout G key).indexes g 0) []) p 0)
          ≡ bit (get_or reaching (6 * (g + 1) + p) 0) (field_at layout key g)
      entry g below =
          ap (λ i. ltb 0 (get_or (get_or (rows_at G.constants g) i []) p 0)) (index_at fits key g below)
          ∙ sym (marked.marks (suc g) p (omega (arith, marked.how_many_constants)) h (field_at layout key g))
          ∙ ap (λ (n : ℕ). bit (get_or reaching (6 * n + p) 0) (field_at layout key g)) (sym (add-one g))

  balanced_reach : (p : ℕ) → p < places
      → reached (taken_balanced layout.new G.balanced (selection_at layout G key).takes) p
      ≡ takes_any (get_or reaching p 0) key
  unfolding takes_any
  balanced_reach p h =
      reached_balanced layout.new G.balanced key 0 p
      ∙ any_same (length G.balanced) _ taken_row entry
      ∙ sym (any-further (length G.balanced) (16 - length G.balanced) taken_row beyond)
      ∙ ap (λ (n : ℕ). any n taken_row)
      (let e : length G.balanced + (16 - length G.balanced) ≡ 16 = omega (arith, fits.few_balanced) in e)
    where
      taken_row : ℕ → Bool
      taken_row i = bit key i && bit (get_or reaching p 0) i

      marks : (i : ℕ) → bit (get_or reaching p 0) i ≡ ltb 0 (get_or (get_or G.balanced i []) p 0)
      marks i =
          ap (λ (n : ℕ). bit (get_or reaching n 0) i) (let e : p ≡ 6 * 0 + p = omega arith in e)
          ∙ marked.marks 0 p (omega arith) h i

      entry : (i : ℕ) → i < length G.balanced
          → (bit key (0 + i) && ltb 0 (get_or (get_or G.balanced i []) p 0)) ≡ taken_row i
      entry i below = ap₂ (λ a b. a && b) (ap (bit key) (omega arith)) (sym (marks i))

      beyond : (i : ℕ) → length G.balanced ≤ i → taken_row i ≡ false
      beyond i past =
          ap (λ b. bit key i && b)
          (marks i ∙ ap (λ (r : List ℕ). ltb 0 (get_or r p 0)) (get_or-eq_default G.balanced [] past))
          ∙ and-false (bit key i)

  place_reached : (p : ℕ) → p < places
      → reached (taken layout.new G (selection_at layout G key)) p ≡ reaches reaching unbalanced p key
  place_reached p h =
      reached-append (taken_rows G.constants (selection_at layout G key).indexes)
      (taken_balanced layout.new G.balanced (selection_at layout G key).takes) p
      ∙ ap₂ (λ a b. a || b) (constants_reach p h) (balanced_reach p h)

  reached_before : (n : ℕ) → n ≤ places
      → fills G n key ≡ all n (λ p. reaches reaching unbalanced p key)
  reached_before zero h = refl
  reached_before (suc n) h = ap₂ (λ a b. a && b) (reached_before n (omega arith)) (place_reached n h)

  -- every place is reached by the taken rows where the masks say so
  pub fills_reaches : fills G places key ≡ all places (λ p. reaches reaching unbalanced p key)
  fills_reaches = reached_before places (omega arith)
