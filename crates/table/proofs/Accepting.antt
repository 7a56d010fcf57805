-- The groups of a pair put at their places one after the other, and the table that then is that of the pair.
use Prim.Native.Nat.{ℕ, zero, suc, ◌+◌, ◌≤◌, ◌<◌}
use native.Mathlib.Omega.{arith}
use native.Mathlib.Decide.{ℕ_discrete}
use mathlib.Core.Path.{◌≡◌, refl, sym, ap, ap₂, subst, ◌∙◌}
use mathlib.Core.List.{List, Memᴰ}
use lib.ListN.{length, get_or, take, set, length-take}
use lib.Seq.{take-take, get_or-set_same, get_or-set_other}
use Rattle.ac.specs.Lists.{NoneAbove}
use Rattle.ac.specs.Pair.{Mode, unbalanced}
use Rattle.ac.specs.Rows.{Exactly, Group, RowOf}
use Rattle.ac.specs.Limits.{limits}
use Rattle.ac.proofs.Longest.{balanced_entry, constant_entry}
use Rattle.std.specs.Prelude.{Ok}
use Rattle.numbers.specs.First.{NoneOf, also, end}
use Rattle.numbers.specs.Order.{parting_numbers, sides_numbers}
use Rattle.numbers.specs.Verdict.{Decides}
use Rattle.numbers.proofs.Verdicts.{decides_accepted, decides_after}
use Rattle.pair.specs.Given.{LowestFar, PairGiven}
use Rattle.pair.specs.Parted.{PairOf}
use Rattle.pair.specs.declared.Pair.{Pair}
use Rattle.equation.specs.Flat.{rows_of}
use Rattle.table.specs.Table.{most_rows, room_of_rows, group_in, group_at, groups_in, TableOf}
use Rattle.table.specs.declared.Table.{Table}
use Rattle.table.proofs.Counting.{twelve_not_given}
use Rattle.table.proofs.TableGroups.{in_room, constants_groups_from, groups_from_stands, Stands}
use Rattle.table.specs.Groups.{RowIn, Spreads, GroupsUpto, Roomy}
use Rattle.pair.proofs.Laws.{take_atoms, within_limits, counts_near}

-- before the first group
pub groups_none : {Row : ℕ → List ℕ → Type 0} {places : ℕ} {rows sizes : List ℕ} → ((g : ℕ) → get_or sizes g 0 ≡ 0)
    → ((i : ℕ) → get_or rows i 0 ≡ 0) → GroupsUpto Row places rows sizes 0
groups_none empty zeros =
    record {
      sizes_fit = λ g. omega (arith, empty g);
      the_rows = λ g h. absurd (omega arith);
      none_above = λ most small i. omega (arith, zeros i);
    }

-- one group more
pub groups_next : {Row : ℕ → List ℕ → Type 0} {places count group : ℕ} {bytes before after sizes : List ℕ}
    → group < length sizes → count ≤ most_rows group
    → Exactly (Row group) (rows_of places count bytes) → Spreads places group count bytes before after
    → GroupsUpto Row places before sizes group
    → GroupsUpto Row places after (set sizes group count) (group + 1)
groups_next {Row} {places} {count} {group} {bytes} {before} {after} {sizes} there few exactly spread known =
    record {
      sizes_fit = λ g. fits g (ℕ_discrete g group);
      the_rows = λ g h. exact g h (ℕ_discrete g group);
      none_above = λ most small.
          spread.none_above most (λ v m. small group v (exactly.only v m)) (known.none_above most small);
    }
  where
    its_size : (g : ℕ) → g ≡ group → get_or (set sizes group count) g 0 ≡ count
    its_size g e = ap (λ k. get_or (set sizes group count) k 0) e ∙ get_or-set_same sizes group count 0 there

    other_size : (g : ℕ) → (g ≡ group → ⊥) → get_or (set sizes group count) g 0 ≡ get_or sizes g 0
    other_size g differs = get_or-set_other sizes group g count 0 differs

    fits : (g : ℕ) → Dec (g ≡ group) → get_or (set sizes group count) g 0 ≤ most_rows g
    fits g (yes e) = omega (arith, its_size g e, few, ap most_rows e)
    fits g (no differs) = omega (arith, other_size g differs, known.sizes_fit g)

    exact : (g : ℕ) → g < group + 1 → Dec (g ≡ group)
        → Exactly (Row g) (group_in places after g (get_or (set sizes group count) g 0))
    exact g h (yes e) =
        subst (λ k. Exactly (Row k) (group_in places after k (get_or (set sizes group count) k 0))) (sym e)
        (subst (λ n. Exactly (Row group) (group_in places after group n)) (sym (its_size group refl))
        (subst (Exactly (Row group)) (sym spread.stored) exactly))
    exact g h (no differs) =
        subst (Exactly (Row g))
        (sym (ap (group_in places after g) (other_size g differs)
        ∙ spread.others g (get_or sizes g 0) differs (known.sizes_fit g)))
        (known.the_rows g (omega (arith, differs)))

-- what is known before the turn of a group
pub record PutUpto (pair : Pair) (rows sizes : List ℕ) (group : ℕ) : Type 0 where
  pub rows_size : length rows ≡ room_of_rows
  pub sizes_size : length sizes ≡ suc limits.constants
  pub groups : (M : Mode) (L R : List ℕ) → PairOf M L R pair
      → GroupsUpto (RowIn M L R) pair.variables.count rows sizes group

-- All groups of a pair of which no number before 12 is given are within the room of a table.
module _ {M : Mode} {L R : List ℕ} (none : NoneOf (PairGiven limits M L R) parting_numbers) {pair : Pair}
    (of : PairOf M L R pair) (roomy : Roomy pair) where
  -- its constants are the unbalanced ones
  the_constants : {four : List ℕ} → four ≡ take limits.constants pair.constants.atoms
      → take pair.constants.count four ≡ unbalanced M L R
  the_constants first_four =
      ap (take pair.constants.count) first_four
      ∙ take-take pair.constants.count limits.constants pair.constants.atoms roomy.constants_fit
      ∙ take_atoms of.the_constants

  -- there are as many of them as the pair says
  pub constants_held : {four : List ℕ} → four ≡ take limits.constants pair.constants.atoms
      → pair.constants.count ≤ length four
  constants_held {four} first_four =
      omega (
        arith,
        ap length (the_constants first_four),
        length-take pair.constants.count four,
        of.the_constants.how_many,
      )

  -- no entry of a row is above the limit of net counts
  row_entry : (g : ℕ) (v : List ℕ) → RowIn M L R g v → NoneAbove limits.net_count v
  row_entry zero v = balanced_entry M L R (omega arith) (counts_near (within_limits none))
  row_entry (suc g) v = constant_entry M L R (omega arith) (counts_near (within_limits none))

  pub entries_fit : {rows sizes : List ℕ}
      → GroupsUpto (RowIn M L R) pair.variables.count rows sizes (suc (length (unbalanced M L R)))
      → NoneAbove limits.net_count rows
  entries_fit known = known.none_above limits.net_count row_entry

  -- a table of the pair's atoms and all its groups is that of the pair
  module _ (t : Table) (variables_are : t.variables ≡ pair.variables.atoms) (places_are : t.places ≡ pair.variables.count)
      (constants_are : t.constants ≡ take limits.constants pair.constants.atoms)
      (unbalanced_are : t.unbalanced ≡ pair.constants.count) (whether : M.empties ≡ t.empties)
      (known : GroupsUpto (RowIn M L R) t.places t.rows t.sizes (suc (length (unbalanced M L R)))) where
    table_constants : take t.unbalanced t.constants ≡ unbalanced M L R
    table_constants = ap (λ (n : ℕ). take n t.constants) unbalanced_are ∙ the_constants constants_are

    -- each of them has its own rows
    rows_of_constant : (h : Group) → Memᴰ h (groups_in t).constants → Exactly (RowOf M L R h.constant) h.rows
    rows_of_constant h member =
        subst (λ c. Exactly (RowOf M L R c) h.rows)
        (sym (s.its_constant ∙ ap (λ cs. get_or cs s.place 0) table_constants))
        (subst (Exactly (RowIn M L R (suc s.place)))
        (sym (s.its_rows ∙ ap (group_at t) (let e : 1 + s.place ≡ suc s.place = omega arith in e)))
        (known.the_rows (suc s.place) (omega (arith, s.within, ap length table_constants))))
      where
        s : Stands t 1 (take t.unbalanced t.constants) h
        s = groups_from_stands t 1 (take t.unbalanced t.constants) member

    table_of : TableOf M L R t
    table_of =
        record {
          within = in_room t;
          the_variables = ap₂ take places_are variables_are ∙ take_atoms of.the_variables;
          the_places = places_are ∙ of.the_variables.how_many;
          the_groups =
              record {
                balanced_rows = known.the_rows 0 (omega arith);
                the_constants = constants_groups_from t 1 (take t.unbalanced t.constants) ∙ table_constants;
                constant_rows = rows_of_constant;
              };
          whether_empty = whether;
        }

    -- so it is found, and number 12 is not given
    pub table_found : Decides (PairGiven limits M L R) (LowestFar limits L R) sides_numbers (TableOf M L R) (Ok t)
    table_found =
        decides_after none (decides_accepted refl (also (twelve_not_given (in_room t) table_of.the_groups) end) table_of)
