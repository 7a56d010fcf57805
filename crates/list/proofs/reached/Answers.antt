-- `list::reached` meets its contract: whether the row taken of one of the constants reaches the place, or a balanced one.
use Rattle.std.proofs.Common.{rules, arith}
use Rattle.std.proofs.lemmas.Iterator.Adapters.{option_map_id}
use Rattle.std.proofs.Common.{Some}
use Rattle.std.proofs.iter.runs.Sources.{ranges, range_listed}
use Rattle.std.specs.declared.ops.Range.{Range}
use Prim.Native.Nat.{ℕ, ◌+◌, ◌*◌, ◌<◌}
use mathlib.Core.Path.{◌≡◌, sym, ap, ◌∙◌}
use mathlib.Core.Bool.{Bool, true, false, ◌||◌}
use mathlib.Core.List.{List}
use lib.ListN.{get_or}
use Rattle.ac.specs.Keys.{layout, bit, field_at}
use Rattle.list.specs.Reach.{takes_any}
use Rattle.list.proofs.Any.{any_found, any_fails}
use Rattle.list.proofs.reached.Goals as goal

-- the row taken of constant number g reaches the place
abbrev by_constant : List ℕ → ℕ → ℕ → ℕ → Bool
by_constant reaching place key g = bit (get_or reaching (6 * (g + 1) + place) 0) (field_at layout key g)

pub returns-then-by_constant : goal.returns-then-by_constant
returns-then-by_constant c =
    let m = c.args.masks.now in
    let place = c.args.place in
    let key = c.args.key in
    let run = c.if-by_constant.ensures.runs in
    let listed = range_listed run.0 run.0.seen in
    let from_0 = ap (λ (s : Range ℕ). s.start) run.1 in
    let one = run.2 (search (rules, ranges)) in
    let same : listed.0 + one.0 ≡ one.0 = omega (arith, from_0) in
    let item = sym (option_map_id (run.0.at one.0)) ∙ listed.4.3 one.0 one.1 ∙ ap Some same in
    let few : one.0 < m.unbalanced =
    omega (arith, listed.4.0, one.1, from_0, ap (λ (s : Range ℕ). s.end) run.1) in
    let reached : by_constant m.reaching place key one.0 ≡ true = let called = rw item at one.2 in search rules in
    c.if-by_constant.true
    ∙ sym (ap (λ b. b || takes_any (get_or m.reaching place 0) key)
    (any_found m.unbalanced one.0 (by_constant m.reaching place key) few reached))

pub returns-else-by_constant : goal.returns-else-by_constant
returns-else-by_constant c =
    let m = c.args.masks.now in
    let place = c.args.place in
    let key = c.args.key in
    let run = c.if-by_constant.ensures.runs in
    let listed = range_listed run.0 run.0.seen in
    let all : run.0.len ≡ m.unbalanced =
    omega (arith, listed.4.1 run.2.0, ap (λ (s : Range ℕ). s.start) run.1, ap (λ (s : Range ℕ). s.end) run.1) in
    let missed : (g : ℕ) → g < m.unbalanced → by_constant m.reaching place key g ≡ false = λ g h.
    let item = listed.4.3 g (omega (arith, all)) in
    grind (arith, ranges, item, run.2.1 (search (rules, ranges)) g) in
    c.takes_any.ensures
    ∙ sym (ap (λ b. b || takes_any (get_or m.reaching place 0) key)
    (any_fails m.unbalanced (by_constant m.reaching place key) missed))
