-- Laws of the lines that are printed of a block, by their numbers.
use Prim.Native.Nat.{ℕ, ◌+◌, ◌-◌, ◌<◌, ◌≤◌}
use native.Mathlib.Omega.{arith}
use mathlib.Core.Path.{◌≡◌, ap, sym, subst, ◌∙◌}
use mathlib.Core.List.{List, [], Memᴰ}
use lib.ListN.{length, get_or, take, length-map}
use lib.Seq.{get_or-take, length-take-le}
use Rattle.std.specs.Prelude.{Some, IsSomeAnd}
use Rattle.ac.specs.Rows.{Groups}
use Rattle.ac.specs.Keys.{layout, keys}
use Rattle.ac.specs.Values.{Binding}
use Rattle.ac.proofs.Places.{get_or-map, get_or_member}
use Rattle.buffer.specs.Filled.{Puts}
use Rattle.buffer.specs.declared.filled.Filled.{Filled}
use Rattle.buffer.proofs.Puts.{puts_as}
use Rattle.pair.specs.Ways.{mode_of}
use Rattle.pair.specs.declared.ways.Way.{Way}
use Rattle.lines.specs.Lines.{substitution_line, end_line as line_at_end}
use Rattle.lines.specs.Library.{bindings_of}
use Rattle.lines.proofs.Numbered.{lines_length, substitution_line_lem, last_line}
use Rattle.table.specs.declared.Table.{Table}
use Rattle.printing.specs.Asked.{SolvedPair}
use Rattle.printing.specs.Printed.{groups_of, key_count, line_count, page_of, lines_of, Prints, KeyPut}
use Rattle.printing.specs.declared.print.Listing.{Listing}

module _ {way : Way} {L R : List ℕ} {l : Listing} (prints : Prints way L R l) where
  abbrev count : ℕ
  count = key_count l.line

  abbrev printed : List ℕ
  printed = take count l.keys

  abbrev substitution : ℕ → List Binding
  substitution = bindings_of way L R (groups_of l.table)

  -- there is one for each key
  printed_length : length printed ≡ count
  printed_length = length-take-le count l.keys prints.enough

  page-length : length (page_of way L R l) ≡ count
  page-length = length-map printed substitution ∙ printed_length

  -- how many lines there are
  pub count_lines : length (lines_of way L R l) ≡ line_count l
  count_lines = omega (arith, lines_length l.place l.line (page_of way L R l), page-length)

  module _ (number : ℕ) (some : number ≡ 0 → ⊥) (within : number ≤ count) where
    before : number - 1 < count
    before = omega (arith, some)

    -- the key of a line
    same_key : get_or printed (number - 1) 0 ≡ get_or l.keys (number - 1) 0
    same_key = get_or-take count l.keys (number - 1) 0 before

    -- it is on the list
    key_listed : Memᴰ (get_or l.keys (number - 1) 0) (keys (mode_of way L R) layout L R (groups_of l.table))
    key_listed = prints.listed _ (subst (λ (key : ℕ). Memᴰ key printed) same_key
        (get_or_member printed (number - 1) 0 (omega (arith, before, printed_length))))

    -- and this is the line
    key_line : substitution_line (substitution (get_or l.keys (number - 1) 0)) ≡ get_or (lines_of way L R l) number []
    key_line =
        let here : number - 1 < length printed = omega (arith, before, printed_length) in
        ap (λ (key : ℕ). substitution_line (substitution key)) (sym same_key)
        ∙ ap substitution_line (sym (get_or-map substitution printed (number - 1) 0 [] here))
        ∙ substitution_line_lem l.place l.line (page_of way L R l) number some (omega (arith, page-length))

    -- so that is what a key's line is, put from the table
    pub line_put : {table : Table} {filled after : Filled} → l.table ≡ Some table
        → KeyPut table (get_or l.keys (number - 1) 0) filled after
        → Puts filled (get_or (lines_of way L R l) number []) after
    line_put there put =
        let key = get_or l.keys (number - 1) 0 in
        let same = ap groups_of there in
        puts_as (ap (λ (G : Groups). substitution_line (bindings_of way L R G key)) (sym same) ∙ key_line)
        (put way L R (subst (λ t. IsSomeAnd t (SolvedPair way L R)) there (prints.solved (omega (arith, some))))
        (subst (λ (G : Groups). Memᴰ key (keys (mode_of way L R) layout L R G)) same key_listed))

  -- what stands after the page
  pub end_line : (number : ℕ) → number ≡ count + 1 → line_at_end l.line ≡ get_or (lines_of way L R l) number []
  end_line number e = last_line l.place l.line (page_of way L R l) number (omega (arith, page-length))
