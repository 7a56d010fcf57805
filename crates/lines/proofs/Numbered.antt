-- Laws of a block's lines by their numbers: 0 is the block's own, then one follows for each substitution of its
-- page, and the last is what stands after the page.
use Rattle.std.proofs.Common.{ℕ, zero, suc, ◌+◌, ◌-◌, ◌<◌, ◌≤◌, arith, ◌≡◌, refl, ap, sym, ◌∙◌, List, [], ◌∷◌, map, length, get_or, length-append}
use lib.ListN.{length-map, get_or-append}
use lib.Seq.{get_or-append_seam}
use Rattle.ac.specs.Values.{Binding}
use Rattle.ac.proofs.Places.{get_or-map}
use Rattle.tally.specs.declared.Line.{Line}
use Rattle.lines.specs.Lines.{block_line, substitution_line, end_line, block_lines}

module _ (P : ℕ) (line : Line) (page : List (List Binding)) where
  abbrev substitutions : List (List ℕ)
  substitutions = map substitution_line page

  -- how many lines there are
  pub lines_length : length (block_lines P line page) ≡ length page + 2
  lines_length =
      omega (arith, length-append substitutions (end_line line ∷ []), length-map page substitution_line)

  -- the first
  pub own_line : (number : ℕ) → number ≡ 0 → block_line P line ≡ get_or (block_lines P line page) number []
  own_line number e = ap (λ (i : ℕ). get_or (block_lines P line page) i []) (sym e)

  -- the line of a substitution
  pub substitution_line_lem : (number : ℕ) → (number ≡ 0 → ⊥) → number ≤ length page
      → substitution_line (get_or page (number - 1) []) ≡ get_or (block_lines P line page) number []
  substitution_line_lem zero some within = absurd (some refl)
  substitution_line_lem (suc i) some within =
      let before : i < length page = omega arith in
      let within_lines : i < length substitutions = omega (arith, length-map page substitution_line) in
      ap (λ (k : ℕ). substitution_line (get_or page k [])) (let e : suc i - 1 ≡ i = omega arith in e)
      ∙ sym (get_or-map substitution_line page i [] [] before)
      ∙ sym (get_or-append substitutions (end_line line ∷ []) [] i within_lines)

  -- and what stands after the page
  pub last_line : (number : ℕ) → number ≡ length page + 1 → end_line line ≡ get_or (block_lines P line page) number []
  last_line number e =
      sym (get_or-append_seam substitutions (end_line line) [] [])
      ∙ ap (λ (i : ℕ). get_or (block_lines P line page) i [])
      (let place : suc (length substitutions) ≡ number = omega (arith, length-map page substitution_line) in place)
