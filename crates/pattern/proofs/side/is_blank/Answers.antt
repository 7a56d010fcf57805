-- `pattern::side::is_blank` meets its contract. Assumes nothing.
use Rattle.std.proofs.Common.{ℕ, refl, inl, inr, [], ◌∷◌}
use types.Run.{OneOf}
use Rattle.pattern.specs.Characters.{Blank, space, tab, carriage_return}
use Rattle.pattern.proofs.side.is_blank.Goals as goal

one_is_blank : {b : ℕ} → OneOf (9 ∷ 13 ∷ 32 ∷ []) b → Blank b
one_is_blank (inl e) = rw e tab
one_is_blank (inr (inl e)) = rw e carriage_return
one_is_blank (inr (inr e)) = rw e space

pub returns-in-32 : goal.returns-in-32
returns-in-32 c = (λ t. one_is_blank c.in-32.is, λ blank. refl)
