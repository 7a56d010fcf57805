-- `pair::take_apart` meets its contract: flags tell whether 7, 8 and 19 are given; where none is, the counts settle the
-- rest. Assumes nothing.
use Rattle.std.proofs.Common.{refl}
use mathlib.Core.Logic.{inr}
use Rattle.numbers.specs.First.{here, later, also, end}
use Rattle.numbers.proofs.Verdicts.{decides_refused, decides_after}
use Rattle.pair.specs.Given.{side_length, no_atom, left, right}
use Rattle.numbers.specs.declared.Refusal.TheVariants.{SideLength, NoAtom, OnBothSides}
use Rattle.pair.specs.Ways.{mode_of}
use Rattle.pair.proofs.Telling.{at_most}
use Rattle.pair.proofs.take_apart.Goals as goal

pub returns-then-wrong_lengths : goal.returns-then-wrong_lengths
returns-then-wrong_lengths c =
    let seven = c.wrong_lengths-wrong_lengths.ensures in
    decides_refused {why = SideLength} refl refl (here (seven.if_true c.if-wrong_lengths.true))

pub returns-then-wrong_bytes : goal.returns-then-wrong_bytes
returns-then-wrong_bytes c =
    let seven = c.wrong_lengths-wrong_lengths.ensures in
    let eight = c.wrong_bytes-wrong_bytes.ensures (mode_of c.args.way c.args.left.now c.args.right.now) in
    decides_refused {why = NoAtom} refl refl
    (later (seven.if_false (cc)) (here (eight.if_true c.if-wrong_bytes.true)))

pub occurrences-lefts-requires : goal.occurrences-lefts-requires
occurrences-lefts-requires c =
    let seven = c.wrong_lengths-wrong_lengths.ensures in
    let eight = c.wrong_bytes-wrong_bytes.ensures (mode_of c.args.way c.args.left.now c.args.right.now) in
    record {
      side_len_bound = at_most _ _ (λ many. seven.if_false c.if-wrong_lengths.false (side_length left (inr many)));
      fact = λ wrong. eight.if_false c.if-wrong_bytes.false (no_atom left wrong);
    }

pub occurrences-rights-requires : goal.occurrences-rights-requires
occurrences-rights-requires c =
    let seven = c.wrong_lengths-wrong_lengths.ensures in
    let eight = c.wrong_bytes-wrong_bytes.ensures (mode_of c.args.way c.args.left.now c.args.right.now) in
    record {
      side_len_bound = at_most _ _ (λ many. seven.if_false c.if-wrong_lengths.false (side_length right (inr many)));
      fact = λ wrong. eight.if_false c.if-wrong_bytes.false (no_atom right wrong);
    }

pub returns-then-not_separate : goal.returns-then-not_separate
returns-then-not_separate c =
    let L = c.args.left.now in
    let R = c.args.right.now in
    let seven = c.wrong_lengths-wrong_lengths.ensures in
    let eight = c.wrong_bytes-wrong_bytes.ensures (mode_of c.args.way L R) in
    let nineteen = c.not_separate.ensures L R c.occurrences-lefts.ensures c.occurrences-rights.ensures in
    decides_refused {why = OnBothSides} refl refl
    (later (seven.if_false c.if-wrong_lengths.false)
    (later (eight.if_false c.if-wrong_bytes.false) (here (nineteen.if_true c.if-not_separate.true))))

pub returns : goal.returns
returns c =
    let L = c.args.left.now in
    let R = c.args.right.now in
    let seven = c.wrong_lengths-wrong_lengths.ensures in
    let eight = c.wrong_bytes-wrong_bytes.ensures (mode_of c.args.way L R) in
    let of_left = c.occurrences-lefts.ensures in
    let of_right = c.occurrences-rights.ensures in
    let nineteen = c.not_separate.ensures L R of_left of_right in
    decides_after
    (also (seven.if_false c.if-wrong_lengths.false)
    (also (eight.if_false c.if-wrong_bytes.false) (also (nineteen.if_false c.if-not_separate.false) end)))
    (c.part.ensures (mode_of c.args.way L R) L R (record {
      moves = c.moving_atoms.ensures L R of_left;
      on_left = of_left;
      on_right = of_right;
    }))
