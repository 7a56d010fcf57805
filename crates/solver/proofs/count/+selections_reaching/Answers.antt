-- `solver::count::selections_reaching` meets its contract. Assumes nothing.
use Rattle.std.proofs.Common.{◌≡◌, ℕ, ◌-◌, ◌≤◌, List, ap₂, ◌∙◌, arith}
use Rattle.solver.specs.Missing.{ReachingLeft, NotReaching}
use Rattle.ac.specs.Limits.{limits}
use Rattle.solver.proofs.Missing.{one_place_fewer, one_place_missed, none_beyond, last_place}
use Rattle.solver.proofs.count.+selections_reaching.Goals as goal

-- the rows that are left where the last place need not be reached
abbrev fewer_places : {reaching rows : List ℕ} {unbalanced places : ℕ} → (places ≡ 0 → ⊥)
    → ReachingLeft reaching rows unbalanced places → ReachingLeft reaching rows unbalanced (places - 1)
fewer_places {reaching} {rows} {unbalanced} {places} some =
    one_place_fewer reaching rows unbalanced places (places - 1) (omega arith)

-- and where it is to be missed
abbrev missed : {reaching rows fewer : List ℕ} {unbalanced places : ℕ} → (places ≡ 0 → ⊥)
    → unbalanced ≤ limits.constants → NotReaching reaching rows (places - 1) fewer
    → ReachingLeft reaching rows unbalanced places → ReachingLeft reaching fewer unbalanced (places - 1)
missed {reaching} {rows} {fewer} {unbalanced} {places} some few without =
    one_place_missed reaching rows unbalanced places (places - 1) (omega arith) fewer few without

pub selections_reaching-all-requires : goal.selections_reaching-all-requires
selections_reaching-all-requires t c =
    let within = c.requires.unbalanced_le_constants in (
      omega (arith, c.decreases),
      ((within.0, omega arith), fewer_places c.if-places-eq0.false c.requires.reaching_left),
    )

pub selections_reaching-requires : goal.selections_reaching-requires
selections_reaching-requires t c =
    let within = c.requires.unbalanced_le_constants in (
      omega (arith, c.decreases),
      (
        (within.0, omega arith),
        missed c.if-places-eq0.false within.0 c.not_reaching-fewer.ensures c.requires.reaching_left,
      ),
    )

pub overflow_sub-result : goal.overflow_sub-result
overflow_sub-result t c =
    let of = c.requires.reaching_left in
    let some = c.if-places-eq0.false in
    omega (
      arith,
      c.selections_reaching-all.ensures (fewer_places some of),
      c.selections_reaching.ensures
          (missed some c.requires.unbalanced_le_constants.0 c.not_reaching-fewer.ensures of),
      none_beyond (c.args.places - 1) of.left.groups of.left.missed,
    )

pub returns : goal.returns
returns t c = λ of.
    let some = c.if-places-eq0.false in
    ap₂ (λ (m n : ℕ). m - n) (c.selections_reaching-all.ensures (fewer_places some of))
    (c.selections_reaching.ensures
    (missed some c.requires.unbalanced_le_constants.0 c.not_reaching-fewer.ensures of))
    ∙ last_place c.args.places (c.args.places - 1) (omega arith) of.left.groups of.left.missed
