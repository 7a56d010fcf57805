-- The walk to the least listed key: what was passed holds no listed key.
use Prim.Native.Nat.{ℕ, ◌+◌, ◌-◌, ◌*◌, ◌/◌, ◌%◌, ◌^◌, ◌<◌, ◌≤◌}
use native.Mathlib.Omega.{arith}
use native.Mathlib.Decide.{dec_lt}
use mathlib.Core.Path.{◌≡◌, refl, sym, ◌∙◌, ap, ap₂, subst}
use mathlib.Core.Bool.{Bool, true, false, false≢true, ◌&&◌, and-true, and-eq-true_iff}
use mathlib.Core.List.{List, Memᴰ}
use borrow.Author.Tests.{le-leb}
use lib.ListN.{length, get_or}
use lib.Pow.{pow_pos}
use Rattle.ac.specs.Pair.{Mode}
use Rattle.ac.specs.Rows.{Groups}
use Rattle.ac.specs.Selection.{Selection, Within as IndexesWithin, all_reached, taken, admissible}
use Rattle.ac.specs.Keys.{layout, bit, keys, fields_of, selection_at, Candidate, Fits}
use Rattle.ac.specs.Pages.{LeastFrom, NoneFrom}
use Rattle.ac.proofs.Taken.{admissible_reaches, admissible_takes}
use Rattle.ac.proofs.AllTaken.{candidate_full}
use Rattle.ac.proofs.Listed.{listed_candidates, keys_below}
use Rattle.table.specs.Table.{groups_in, TableOf}
use Rattle.table.specs.Masks.{places_to_reach, rows_to_take, MasksOf}
use Rattle.table.specs.declared.Table.{Table}
use Rattle.table.specs.declared.masks.Masks.{Masks}
use Rattle.std.specs.Prelude.{Option, Some, None, is_some}
use Rattle.list.specs.Candidates.{StandsAmong, on_candidate, between, fills, admits, NoneInBlock, LeastWithin, OfMarkedGroups, OfTheirGroups}
use Rattle.list.specs.Candidates as within
use Rattle.list.specs.Reach.{takes_all}
use Rattle.list.specs.List.{OfTheirList, NextFrom, found, nothing}
use Rattle.list.proofs.Any.{and_right_false}
use Rattle.list.proofs.Candidates.{block_end, below_block_end, same_block}
use Rattle.list.proofs.Leaving.{missing_all, left_none}
use Rattle.list.proofs.Tuples.{mask_fits, all_balanced}
use Rattle.list.proofs.Table.{table_fits}

-- no listed key stands from the one number to before the other
abbrev pub Passed : Masks → ℕ → ℕ → Type 0
Passed m start at = OfTheirList m (λ keys. (other : ℕ) → Memᴰ other keys → start ≤ other → at ≤ other)

-- the walk from the one number has come to the other
pub record Walked (m : Masks) (start at : ℕ) : Type 0 where
  pub above : start ≤ at
  pub passed : Passed m start at

module _ {m : Masks} {t : Table} (its : MasksOf t m) {M : Mode} {L R : List ℕ} (of : TableOf M L R t) where
  -- what the masks ask, by the mode
  asked : {b : Bool} → M.empties ≡ b → (key : ℕ)
      → admits (groups_in t) m.places m.must key
      ≡ admits (groups_in t) (places_to_reach b t.places) (rows_to_take b (length (groups_in t).balanced)) key
  asked e key =
      let same = sym of.whether_empty ∙ e in
      ap₂ (λ (places must : ℕ). admits (groups_in t) places must key)
      (its.the_places ∙ ap (λ b. places_to_reach b t.places) same)
      (its.the_must ∙ ap (λ b. rows_to_take b (length (groups_in t).balanced)) same)

  -- of a candidate that is to be admissible: to take all balanced rows, or to reach as many places as there are
  admissible_admits : {key : ℕ} → Candidate layout (groups_in t) key
      → admissible M layout.new L R (groups_in t) (selection_at layout (groups_in t) key)
      ≡ admits (groups_in t) m.places m.must key
  admissible_admits {key} candidate = by_mode M.empties refl
    where
      s : Selection
      s = selection_at layout (groups_in t) key

      by_mode : (b : Bool) → M.empties ≡ b
          → admissible M layout.new L R (groups_in t) s ≡ admits (groups_in t) m.places m.must key
      by_mode true e =
          admissible_takes M layout.new L R (groups_in t) s e ∙ candidate_full (table_fits of.within) candidate
          ∙ sym (and-true (takes_all (2 ^ length (groups_in t).balanced - 1) key)) ∙ sym (asked e key)
      by_mode false e =
          admissible_reaches M layout.new L R (groups_in t) s e
          ∙ ap (all_reached (taken layout.new (groups_in t) s)) (sym of.the_places)
          ∙ sym (ap (λ b. b && fills (groups_in t) t.places key) (le-leb 0 (key % 65536) (omega arith)))
          ∙ sym (asked e key)

  -- a listed key is a candidate that takes and reaches what it has to, and the other way round
  listed_reached : {key : ℕ} → Memᴰ key (keys M layout L R (groups_in t))
      → Candidate layout (groups_in t) key × (admits (groups_in t) m.places m.must key ≡ true)
  listed_reached mem =
      let h = (listed_candidates (table_fits of.within) M L R).0 mem in
      (h.0, sym (admissible_admits h.0) ∙ h.1)

  reached_listed : {key : ℕ} → Candidate layout (groups_in t) key
      → admits (groups_in t) m.places m.must key ≡ true → Memᴰ key (keys M layout L R (groups_in t))
  reached_listed candidate e =
      (listed_candidates (table_fits of.within) M L R).1 (candidate, admissible_admits candidate ∙ e)

-- it is so of the groups of the table
of_the_table : {m : Masks} {t : Table} {So : Groups → Type 0} → MasksOf t m → {M : Mode} {L R : List ℕ}
    → TableOf M L R t → OfTheirGroups m So → So (groups_in t)
of_the_table {t = t} its of so = so (groups_in t) its.sized its.marked (table_fits of.within)

module _ {m : Masks} {start at : ℕ} (passed : Passed m start at) where
  -- where no candidate before a later number is admissible, the walk goes on there
  pub passed_over : {later : ℕ} → OfTheirGroups m (λ G. (other : ℕ) → at ≤ other → other < later
      → Candidate layout G other → admits G m.places m.must other ≡ false) → Passed m start later
  passed_over {later} missed t its M L R of other mem h = go (dec_lt other later)
    where
      go : Dec (other < later) → later ≤ other
      go (yes before) =
          let reached = listed_reached its of mem in
          absurd (false≢true (sym (of_the_table its of missed other (passed t its M L R of other mem h) before
          reached.0) ∙ reached.1))
      go (no beyond) = omega arith

  -- past the highest key there is none
  pub passed_all : 2 ^ 32 ≤ at → OfTheirList m (λ keys. NoneFrom keys start)
  passed_all end t its M L R of other mem = go (dec_lt other start)
    where
      go : Dec (other < start) → other < start
      go (yes before) = before
      go (no above) = absurd (omega (
        arith,
        passed t its M L R of other mem (omega arith),
        keys_below (table_fits of.within) M L R mem,
      ))

between_none : (m : Masks) {key later : ℕ} → StandsAmong m.sizes m.unbalanced key (Some later)
    → (key < later) × OfTheirGroups m (λ G. (other : ℕ) → key ≤ other → other < later → Candidate layout G other → ⊥)
between_none m (between less none) = (less, λ G sized marked fits. none G sized fits)

stands_candidate : (m : Masks) {key : ℕ} → StandsAmong m.sizes m.unbalanced key None
    → OfTheirGroups m (λ G. Candidate layout G key)
stands_candidate m (on_candidate candidate) G sized marked fits = candidate G sized fits

-- a candidate's tuple of row indexes makes a candidate with every set of balanced rows
same_tuple : {G : Groups} {key : ℕ} → Fits layout G → Candidate layout G key → (mask : ℕ)
    → mask < 2 ^ length G.balanced → Candidate layout G (key / 65536 * 65536 + mask)
same_tuple {G} {key} fits candidate mask low =
    let small : mask < 65536 = mask_fits fits.few_balanced low in
    let same : (key / 65536 * 65536 + mask) / 65536 ≡ key / 65536 = omega arith in
    record {
      indexes_within = subst (λ (n : ℕ). IndexesWithin G.constants (fields_of layout 4 G.constants n))
          (sym same) candidate.indexes_within;
      unused_zero =
          subst (λ (n : ℕ). n % 2 ^ (4 * (4 - length G.constants)) ≡ 0) (sym same) candidate.unused_zero;
      no_bit_beyond = let low_part : (key / 65536 * 65536 + mask) % 65536 ≡ mask =
          omega arith in subst (λ (n : ℕ). n < 2 ^ length G.balanced) (sym low_part) low;
      no_bit_above = let high : key < 4294967296 =
          candidate.no_bit_above in let z : key / 65536 * 65536 + mask < 4294967296 = omega arith in z;
    }

-- where nothing was found, none passes
none_within : {passes : ℕ → Bool} {from end : ℕ} {next : Option ℕ} → LeastWithin passes from end next
    → is_some next ≡ false → (other : ℕ) → from ≤ other → other < end → passes other ≡ false
none_within (within.nothing missed) e = missed
none_within (within.found low high passed before) e = cc e

-- One step of the walk, from what was told of the number that it has come to.
module _ {m : Masks} {start at : ℕ} (walked : Walked m start at) {gap : Option ℕ}
    (stood : StandsAmong m.sizes m.unbalanced at gap) where
  pub step_between : {later : ℕ} → gap ≡ Some later → (at < later) × Walked m start later
  step_between {later} e =
      let h = between_none m (subst (StandsAmong m.sizes m.unbalanced at) e stood) in (
        h.0,
        record {
          above = omega (arith, walked.above, h.0);
          passed = passed_over walked.passed
              (λ G sized marked fits other low high candidate. absurd (h.1 G sized marked fits other low high candidate));
        },
      )

  -- A candidate's tuple was tried from its mask on.
  module _ (e : gap ≡ None) {next : Option ℕ}
      (tried : OfMarkedGroups m (λ G. LeastWithin (admits G m.places m.must) at
      (at / 65536 * 65536 + 2 ^ get_or m.sizes 0 0) next)) where
    -- Its masks all lack a row or miss a place: the walk goes on with the next tuple, since a larger mask has a bit beyond
    -- the balanced rows; or after a wider block that has none either.
    pub step_over : {bits : ℕ} → is_some next ≡ false → 16 ≤ bits
        → (16 < bits → OfTheirGroups m (λ G. NoneInBlock G m.places at bits)) → Walked m start (block_end at bits)
    step_over {bits} none whole left =
        record {
          above = omega (arith, walked.above, below_block_end at bits);
          passed = passed_over walked.passed
              (λ G sized marked fits other low high candidate. missed G sized marked fits other low high candidate
              (dec_lt 16 bits));
        }
      where
        missed : OfTheirGroups m (λ G. (other : ℕ) → at ≤ other → other < block_end at bits
            → Candidate layout G other → Dec (16 < bits) → admits G m.places m.must other ≡ false)
        missed G sized marked fits other low high candidate (yes wide) =
            and_right_false (takes_all m.must other)
            (left wide G sized marked fits other (same_block bits low high) candidate)
        missed G sized marked fits other low high candidate (no narrow) =
            let tuple_only : bits ≡ 16 = omega arith in
            let same = same_block {key = at} {other = other} 16 low
            (subst (λ (n : ℕ). other < block_end at n) tuple_only high) in
            none_within (tried G marked fits) none other low (omega (arith, same, candidate.no_bit_beyond, all_balanced sized))

    -- The first that is admitted is the least listed key.
    pub step_found : is_some next ≡ true → OfTheirList m (λ keys. NextFrom keys start next)
    step_found some t its M L R of = first (tried (groups_in t) its.marked (table_fits of.within)) some
      where
        G : Groups
        G = groups_in t

        candidate : {key : ℕ} → at ≤ key → key < at / 65536 * 65536 + 2 ^ get_or m.sizes 0 0 → Candidate layout G key
        candidate {key} low high =
            let place : at / 65536 * 65536 + (key - at / 65536 * 65536) ≡ key = omega arith in
            let one = stands_candidate m (subst (StandsAmong m.sizes m.unbalanced at) e stood) in
            subst (Candidate layout G) place
            (same_tuple (table_fits of.within) (of_the_table its of one)
            (key - at / 65536 * 65536) (omega (arith, pow_pos (length G.balanced), all_balanced its.sized)))

        from_it : {key : ℕ} → ((other : ℕ) → at ≤ other → other < key → admits G m.places m.must other ≡ false)
            → (other : ℕ) → Memᴰ other (keys M layout L R G) → at ≤ other → key ≤ other
        from_it {key} before other mem low = go (dec_lt other key)
          where
            go : Dec (other < key) → key ≤ other
            go (yes less) = absurd (false≢true (sym (before other low less) ∙ (listed_reached its of mem).1))
            go (no more) = omega arith

        first : {next : Option ℕ}
            → LeastWithin (admits G m.places m.must) at (at / 65536 * 65536 + 2 ^ get_or m.sizes 0 0) next
            → is_some next ≡ true → NextFrom (keys M layout L R G) start next
        first (within.nothing missed) e = cc e
        first (within.found low high passed before) e =
            found (record {
              on_list = reached_listed its of (candidate low high) passed;
              at_or_above = omega (arith, walked.above, low);
              least = λ other mem above. from_it before other mem (walked.passed t its M L R of other mem above);
            })

pub step_end : {m : Masks} {start at : ℕ} → Walked m start at → 2 ^ 32 ≤ at
    → OfTheirList m (λ keys. NextFrom keys start None)
step_end walked end t its M L R of = nothing (passed_all walked.passed end t its M L R of)

-- Where rows of all constants cannot reach together what balanced rows do not, nothing is listed.
pub step_nothing : (m : Masks) {start : ℕ} → bit (get_or m.choices 0 0) m.unreached ≡ false
    → OfTheirList m (λ keys. NextFrom keys start None)
step_nothing m cannot t its M L R of = nothing (λ other mem.
    let listed = listed_reached its of mem in
    absurd (false≢true (sym (left_none m.reaching m.places m.unreached 0 m.constants_fit
    m.sets (omega arith) (missing_all m.reaching m.places m.unreached 0) cannot its.sized its.marked
    (table_fits of.within) other (no_block listed.0.no_bit_above) listed.0)
    ∙ ((and-eq-true_iff (takes_all m.must other) (fills (groups_in t) m.places other)).0 listed.1).1)))
  where
    no_block : {other : ℕ} → other < 2 ^ 32 → other / 2 ^ 32 ≡ 0 / 2 ^ 32
    no_block small = omega arith

-- What a next key tells.
pub next_key : {keys : List ℕ} {bound key : ℕ} {next : Option ℕ} → NextFrom keys bound next → next ≡ Some key
    → LeastFrom keys bound key
next_key {keys} {bound} told e = of_key (subst (NextFrom keys bound) e told)
  where
    of_key : {key : ℕ} → NextFrom keys bound (Some key) → LeastFrom keys bound key
    of_key (found least) = least

pub next_none : {keys : List ℕ} {bound : ℕ} {next : Option ℕ} → NextFrom keys bound next → next ≡ None
    → NoneFrom keys bound
next_none {keys} {bound} told e = of_none (subst (NextFrom keys bound) e told)
  where
    of_none : NextFrom keys bound None → NoneFrom keys bound
    of_none (nothing none) = none
