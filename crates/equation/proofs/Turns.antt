-- The turns of the walk's loop, over plain lists and numbers: the numbers that a place may have, one after
-- the other.
use Prim.Native.Nat.{ℕ, suc, ◌+◌, ◌≤◌, ◌<◌}
use native.Mathlib.Omega.{arith}
use native.Mathlib.Nat.{le_trans}
use native.Mathlib.Numerals.{add-one}
use mathlib.Core.Path.{◌≡◌, refl, sym, ap, ◌∙◌}
use mathlib.Core.List.{List, [], ◌∷◌, ◌++◌}
use lib.ListN.{length, get_or, take, drop, set, length-drop, length-set}
use lib.Seq.{take-suc-set, take-set-le, take-take, drop-cons}
use lib.Dec.{eqb}
use borrow.Author.Tests.{eqb-true}
use Rattle.ac.specs.Equation.{Equation, Minimal}
use Rattle.std.specs.declared.ops.RangeInclusive.{RangeInclusive}
use Rattle.std.specs.Range.{range_inclusive_start, range_inclusive_end, range_inclusive_steps}
use Rattle.std.specs.Prelude.{Option, Some, None}
use Rattle.ac.specs.Rows.{Exactly}
use Rattle.equation.specs.declared.searched.Searched.{Searched}
use Rattle.equation.specs.declared.standing.Standing.{Standing}
use Rattle.equation.specs.Flat.{rows_of}
use Rattle.equation.specs.Kept.{RowBefore, RowUpto}
use Rattle.equation.specs.Places.{Stands, budget_of, after_choice, Possible, Ranges}
use Rattle.equation.specs.Walk.{Ready, Walks}
use Rattle.equation.proofs.Held.{from_first, to_next, to_last, more_shorter}
use Rattle.equation.proofs.Places.{after_choice_lem, possible}
use Rattle.equation.proofs.Ranges.{room_after}
use Rattle.equation.proofs.Numbers.{gap, Follows, Rest, rest_fresh, rest_more}

-- the walk stands before a place, and knows which numbers the place may have
pub record Choice (searched : Searched) (vector bytes : List ℕ) (place n : ℕ) (at : Standing) (first most : ℕ) : Type 0 where
  pub ready : Ready searched vector bytes place n at
  pub within : place < length searched.left.now
  pub small : most ≤ budget_of at (get_or searched.left.now place 0) (get_or searched.right.now place 0)
  pub covers : (m : ℕ) → Possible at (get_or searched.left.now place 0) (get_or searched.right.now place 0)
      (eqb (place + 1) (length searched.left.now)) m → (first ≤ m) × (m ≤ most)

-- so it does before a place that is not the end
pub choice_here : {searched : Searched} {vector bytes : List ℕ} {place n : ℕ} {at : Standing} {range : RangeInclusive ℕ}
    → Ready searched vector bytes place n at → (place ≡ length searched.left.now → ⊥)
    → Ranges at (get_or searched.left.now place 0) (get_or searched.right.now place 0)
    (eqb (place + 1) (length searched.left.now)) range
    → Choice searched vector bytes place n at (range_inclusive_start range) (range_inclusive_end range)
choice_here ready not_end ranges =
    record { ready = ready; within = omega (arith, ready.within); small = ranges.within; covers = ranges.covers }

-- from there it has reached some rows: the numbers before the place are as they were
pub record Reached (searched : Searched) (vector₀ bytes₀ : List ℕ) (place n₀ : ℕ) (at : Standing)
    (Row : Equation → List ℕ → Type 0) (vector bytes : List ℕ) (n : ℕ) : Type 0 where
  pub vectors : length vector ≡ length vector₀
  pub bytes_length : length bytes ≡ length bytes₀
  pub prefix : take place vector ≡ take place vector₀
  pub counted : n ≤ searched.limit
  pub found : (E : Equation)
      → Stands E (take place vector₀) (drop place searched.left.now) (drop place searched.right.now) at
      → Exactly (RowBefore E (take place vector₀)) (rows_of (length E.left) n₀ bytes₀)
      → Exactly (Row E) (rows_of (length E.left) n bytes)

-- it is to go through the vectors with a number at the place
pub record Turn (searched : Searched) (vector₀ bytes₀ : List ℕ) (place n₀ : ℕ) (at : Standing) (first most : ℕ)
    (vector bytes : List ℕ) (number n : ℕ) : Type 0 where
  pub choice : Choice searched vector₀ bytes₀ place n₀ at first most
  pub reached : Reached searched vector₀ bytes₀ place n₀ at
      (λ E. RowBefore E (take place vector₀ ++ number ∷ [])) vector bytes n

module _ {searched : Searched} {vector₀ bytes₀ : List ℕ} {place n₀ : ℕ} {at : Standing} {first most : ℕ}
    (choice : Choice searched vector₀ bytes₀ place n₀ at first most) where
  stands_here : {E : Equation} → Stands E (take place vector₀) (drop place searched.left.now) (drop place searched.right.now) at
      → Stands E (take place vector₀) (get_or searched.left.now place 0 ∷ drop (suc place) searched.left.now)
      (get_or searched.right.now place 0 ∷ drop (suc place) searched.right.now) at
  stands_here s =
      let h : place < length searched.left.now = choice.within in
      let h' : place < length searched.right.now = omega (arith, choice.within, searched.level) in
      rw (drop-cons searched.left.now place 0 h, drop-cons searched.right.now place 0 h') at s

  -- the numbers that rows have at the place are in the range
  in_range : {E : Equation} → Stands E (take place vector₀) (drop place searched.left.now) (drop place searched.right.now) at
      → (m : ℕ) (rest : List ℕ) → Minimal E (take place vector₀ ++ m ∷ rest) → (first ≤ m) × (m ≤ most)
  in_range s m rest minimal =
      choice.covers m
      (possible (eqb (place + 1) (length searched.left.now)) (stands_here s)
      (λ t. let e : length (drop (suc place) searched.left.now)
      ≡ 0 = omega (arith, eqb-true (place + 1) (length searched.left.now) t, length-drop (suc place) searched.left.now) in e) m rest
      minimal)

  -- the first turn: no row has a smaller number
  pub first_turn : Turn searched vector₀ bytes₀ place n₀ at first most vector₀ bytes₀ first n₀
  first_turn =
      record {
        choice = choice;
        reached = record {
          vectors = refl;
          bytes_length = refl;
          prefix = refl;
          counted = choice.ready.counted;
          found = λ E s. from_first (take place vector₀) first
              (λ m rest minimal. (in_range s m rest minimal).0);
        };
      }

module _ {searched : Searched} {vector₀ bytes₀ : List ℕ} {place n₀ : ℕ} {at : Standing} {first most : ℕ}
    {vector bytes : List ℕ} {number n : ℕ}
    (turn : Turn searched vector₀ bytes₀ place n₀ at first most vector bytes number n) where
  -- after the most number all rows with the prefix are found
  pub walks_last : most < number → Walks searched vector₀ bytes₀ place n₀ at vector bytes (Some n)
  walks_last past =
      record {
        counted = turn.reached.counted;
        prefix = turn.reached.prefix;
        found = λ E s before. (
          turn.reached.counted,
          to_last (take place vector₀) (short s) number
              (λ m rest minimal. omega (arith, in_range turn.choice s m rest minimal))
              (turn.reached.found E s before),
        );
      }
    where
      short : {E : Equation} → Stands E (take place vector₀) (drop place searched.left.now) (drop place searched.right.now) at
          → length (take place vector₀) < length E.left
      short s = omega (arith, s.places, length-drop place searched.left.now, turn.choice.within)

  module _ {next : Standing}
      (is_next : next ≡ after_choice at (get_or searched.left.now place 0) (get_or searched.right.now place 0) number) where
    prefix_here : take (place + 1) (set vector place number) ≡ take place vector₀ ++ (number ∷ [])
    prefix_here =
        ap (λ k. take k (set vector place number)) (add-one place)
        ∙ take-suc-set vector place number
        (let h : place < length vector = omega
        (arith, turn.choice.within, turn.choice.ready.vectors, turn.reached.vectors) in h)
        ∙ ap (λ p. p ++ (number ∷ [])) turn.reached.prefix

    -- the walk goes on from the next place
    pub ready_next : number ≤ most → get_or searched.left.now place 0 < 256 → get_or searched.right.now place 0 < 256
        → Ready searched (set vector place number) bytes (place + 1) n next
    ready_next in_turn left_byte right-byte =
        let ready = turn.choice.ready in
        record {
          vectors = length-set vector place number ∙ turn.reached.vectors ∙ ready.vectors;
          bytes_room = omega (arith, ready.bytes_room, turn.reached.bytes_length);
          within = omega (arith, turn.choice.within);
          counted = turn.reached.counted;
          room = rw is_next (room_after {at = at} ready.room left_byte right-byte (le_trans in_turn turn.choice.small));
        }

    stands_next : {E : Equation} → Stands E (take place vector₀) (drop place searched.left.now) (drop place searched.right.now) at
        → Stands E (take (place + 1) (set vector place number)) (drop (place + 1) searched.left.now)
        (drop (place + 1) searched.right.now) next
    stands_next s = rw (prefix_here, add-one, is_next) (after_choice_lem (stands_here turn.choice s) number)

    module _ {vector' bytes' : List ℕ} where
      same_prefix : {n' : Option ℕ}
          → Walks searched (set vector place number) bytes (place + 1) n next vector' bytes' n'
          → take place vector' ≡ take place vector₀
      same_prefix walks =
          sym (take-take place (place + 1) vector' (let h : place ≤ place + 1 = omega arith in h))
          ∙ ap (take place) walks.prefix
          ∙ take-take place (place + 1) (set vector place number) (let h : place ≤ place + 1 = omega arith in h)
          ∙ take-set-le place vector place number (let h : place ≤ place = omega arith in h)
          ∙ turn.reached.prefix

      -- the next number's turn
      pub next_turn : {n' : ℕ} → length vector' ≡ length (set vector place number) → length bytes' ≡ length bytes
          → Walks searched (set vector place number) bytes (place + 1) n next vector' bytes' (Some n')
          → Turn searched vector₀ bytes₀ place n₀ at first most vector' bytes' (number + 1) n'
      next_turn {n'} long long' walks =
          record {
            choice = turn.choice;
            reached = record {
              vectors = long ∙ length-set vector place number ∙ turn.reached.vectors;
              bytes_length = long' ∙ turn.reached.bytes_length;
              prefix = same_prefix walks;
              counted = walks.counted;
              found = λ E s before. to_next (take place vector₀) number (upto E s before);
            };
          }
        where
          upto : (E : Equation) → Stands E (take place vector₀) (drop place searched.left.now) (drop place searched.right.now) at
              → Exactly (RowBefore E (take place vector₀)) (rows_of (length E.left) n₀ bytes₀)
              → Exactly (RowUpto E (take place vector₀ ++ number ∷ [])) (rows_of (length E.left) n' bytes')
          upto E s before =
              (rw prefix_here at
              (walks.found E (stands_next s) (rw prefix_here (turn.reached.found E s before)))).1

      -- or there are more rows than the limit already
      pub walks_more : Walks searched (set vector place number) bytes (place + 1) n next vector' bytes' None
          → Walks searched vector₀ bytes₀ place n₀ at vector' bytes' None
      walks_more walks =
          record {
            counted = tt;
            prefix = same_prefix walks;
            found = λ E s before. more_shorter (take place vector₀) (number ∷ [])
                (rw prefix_here at
                (walks.found E (stands_next s) (rw prefix_here (turn.reached.found E s before))));
          }

-- the walk goes through the numbers of a range at the place, and has come to a number
pub record Going (searched : Searched) (vector₀ bytes₀ : List ℕ) (place n₀ : ℕ) (at : Standing) (range₀ range : RangeInclusive ℕ)
    (number : ℕ) (vector bytes : List ℕ) (n : ℕ) : Type 0 where
  pub turn : Turn searched vector₀ bytes₀ place n₀ at (range_inclusive_start range₀) (range_inclusive_end range₀)
      vector bytes number n
  pub rest : Rest (range_inclusive_end range₀) number range

module _ {searched : Searched} {vector₀ bytes₀ : List ℕ} {place n₀ : ℕ} {at : Standing} {range₀ : RangeInclusive ℕ} where
  -- it begins with the first number
  pub going_first : Ready searched vector₀ bytes₀ place n₀ at → (place ≡ length searched.left.now → ⊥)
      → Ranges at (get_or searched.left.now place 0) (get_or searched.right.now place 0)
      (eqb (place + 1) (length searched.left.now)) range₀
      → Going searched vector₀ bytes₀ place n₀ at range₀ range₀ (range_inclusive_start range₀) vector₀ bytes₀ n₀
  going_first ready not_end ranges =
      record { turn = first_turn (choice_here ready not_end ranges); rest = rest_fresh range₀ ranges.fresh }

  module _ {range : RangeInclusive ℕ} {vector bytes : List ℕ} {number n : ℕ}
      (going : Going searched vector₀ bytes₀ place n₀ at range₀ range number vector bytes n) where
    -- the number that comes is the one that it has come to
    pub going_at : {x : ℕ} → x ≡ number → Going searched vector₀ bytes₀ place n₀ at range₀ range x vector bytes n
    going_at e = rw e going

    -- it goes on with the next number
    pub going_on : {range' : RangeInclusive ℕ} {x : ℕ} → range_inclusive_steps gap Follows range (Some x) range'
        → {vector' bytes' : List ℕ} {n' : ℕ} → Turn searched vector₀ bytes₀ place n₀ at (range_inclusive_start range₀) (range_inclusive_end range₀)
        vector' bytes' (number + 1) n' → {next : ℕ} → next ≡ number + 1
        → Going searched vector₀ bytes₀ place n₀ at range₀ range' next vector' bytes' n'
    going_on step turn e = rw e (record { turn = turn; rest = rest_more going.rest step })
