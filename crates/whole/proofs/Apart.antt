-- Two patterns have separate variables (document 02, R-1): what Read's promise says of the two terms of a block.
--
-- `no_variable_on_both`. No variable stands on both sides that Read gives.
-- `block_overlap`. σ on the left term and τ on the right one make them equal exactly if the two joined unify the sides
-- that Read gave.
-- `block_no_overlap`. Page gives 13 on these sides exactly where the two terms do not overlap, unless a number that comes
-- before it is given.
use Prim.Native.Nat.{ℕ, ◌+◌, ◌-◌, ◌≤◌, ◌<◌}
use native.Mathlib.Omega.{arith}
use mathlib.Core.Path.{◌≡◌, refl, sym, ap, ap₂, subst, subst₂, ◌∙◌}
use mathlib.Core.Logic.{◌↔◌, inl, inr, ⊎_elim}
use mathlib.Core.Bool.{cond}
use mathlib.Core.List.Memᴰ
use mathlib.Core.List.{List, Memᴰ}
use borrow.Author.Tests.{lt-ltb, le-ltb}
use lib.Dec.{ltb}
use lib.ListN.{take}
use Rattle.ac.specs.Term.{Term, atom, plus, flatten}
use Rattle.ac.specs.Pair.{unifying}
use Rattle.ac.specs.Theory.{Unifier}
use Rattle.ac.specs.Fages.{Ac, Substitution, apply, ◌=AC◌}
use Rattle.ac.specs.Replacement.{Unifies}
use Rattle.ac.proofs.Theory.{flattened, unifier_unifies}
use Rattle.ac.proofs.Fages.{ac_sums}
use Rattle.ac.proofs.Members.{map_members}
use Rattle.numbers.specs.First.{NoneOf}
use Rattle.numbers.specs.Numbers.{said_of}
use Rattle.numbers.specs.Order.{rows_numbers}
use Rattle.numbers.specs.Outcome.{Outcome, refused, given}
use Rattle.numbers.specs.declared.Refusal.TheVariants.{NoUnifier}
use Rattle.numbers.proofs.Promises.{given_gives}
use Rattle.ac.specs.Keys.{Beginning}
use Rattle.block.specs.Front.{MayBeWritten, on_the_right, Writable, one, two, Writes}
use Rattle.block.specs.Block.{left_term, right_term}
use Rattle.block.specs.Read.{SideLengths, ReadPromise}
use Rattle.block.proofs.Renamed.{variable_higher, constant_stays}
use Rattle.solver.specs.Page.{PageGiven, PageWritten, PagePromise}
use Rattle.whole.specs.Unifiers.{renamed, NoUnifierOf, NoOverlap, joined_substitution}
use Rattle.whole.proofs.Unifiers.{flatten-renamed, its_terms, read_sides, block_no_unifier}

-- every atom of a term that may be written may be written
atoms_written : {t : Term} {a : ℕ} → Writable t → Memᴰ a (flatten t) → MayBeWritten a
atoms_written (one {a = a} m) (Memᴰ.tail x7) = elim x7 [ ]
atoms_written (one m) (Memᴰ.head e) = subst MayBeWritten (sym e) m
atoms_written (two {s = s} v w) m =
    ⊎_elim (λ l. atoms_written v l) (λ r. atoms_written w r) (Memᴰ.append_cases (flatten s) m)

-- a variable of the left side is at most v31, and one of the right side at least v32
left_below : {x : ℕ} → x < 64 → MayBeWritten x → x < 32
left_below h (inl variable) = variable
left_below h (inr constant) = absurd (omega arith)

right_above : {a : ℕ} → MayBeWritten a → on_the_right a < 64 → 32 ≤ on_the_right a
right_above {a} (inl variable) h = let e : on_the_right a ≡ a + 32 = variable_higher (omega arith) in omega arith
right_above {a} (inr constant) h = let e : on_the_right a ≡ a = constant_stays constant.0 in absurd (omega arith)

-- what a substitution does to a term of which every atom may be written depends on v0 to v31 alone
same-below : {σ τ : Substitution} {t : Term} → Writable t → ((x : ℕ) → x < 32 → σ x ≡ τ x)
    → apply unifying.moves σ t ≡ apply unifying.moves τ t
same-below {σ} {τ} (one {a = a} (inl variable)) same =
    ap (λ (value : Term). cond (ltb a 64) value (atom a)) (same a variable)
same-below {σ} {τ} (one {a = a} (inr constant)) same = rw (le-ltb a 64 constant.0)
same-below (two v w) same = ap₂ {C = Term} plus (same-below v same) (same-below w same)

-- and what it does to the renamed term is what it does to the term by the variables 32 higher
apply-renamed : (ρ : Substitution) {t : Term} → Writable t
    → apply unifying.moves ρ (renamed on_the_right t) ≡ apply unifying.moves (λ x. ρ (on_the_right x)) t
apply-renamed ρ (one {a = a} (inl variable)) =
    let moved : on_the_right a ≡ a + 32 = variable_higher (omega arith) in
    rw (lt-ltb (on_the_right a) 64 (omega arith), lt-ltb a 64 (omega arith))
apply-renamed ρ (one {a = a} (inr constant)) =
    let stayed : on_the_right a ≡ a = constant_stays constant.0 in
    rw (le-ltb (on_the_right a) 64 (omega arith), le-ltb a 64 constant.0)
apply-renamed ρ (two v w) = ap₂ {C = Term} plus (apply-renamed ρ v) (apply-renamed ρ w)

-- σ and τ joined are σ on v0 to v31, and τ on what these become on the right
joined-left : (σ τ : Substitution) (x : ℕ) → x < 32 → joined_substitution σ τ x ≡ σ x
joined-left σ τ x h = rw (lt-ltb x 32 h)

joined-right : (σ τ : Substitution) (x : ℕ) → x < 32 → joined_substitution σ τ (on_the_right x) ≡ τ x
joined-right σ τ x h =
    let moved : on_the_right x ≡ x + 32 = variable_higher (omega arith) in
    let back : on_the_right x - 32 ≡ x = omega arith in
    rw (le-ltb (on_the_right x) 32 (omega arith), back)

module _ {s t : Term} (left : Writable s) (right : Writable t) where
  -- so they make the left term and the renamed right one what σ and τ make the two terms
  pub joined_overlap : (σ τ : Substitution)
      → (apply unifying.moves σ s =AC apply unifying.moves τ t)
      ↔ Unifier Ac unifying s (renamed on_the_right t) (joined_substitution σ τ)
  joined_overlap σ τ =
      let both = joined_substitution σ τ in
      let on_left : apply unifying.moves both s ≡ apply unifying.moves σ s =
      same-below left (joined-left σ τ) in
      let on_right : apply unifying.moves both (renamed on_the_right t) ≡ apply unifying.moves τ t =
      apply-renamed both right ∙ same-below right (joined-right σ τ) in
      (subst₂ ◌=AC◌ (sym on_left) (sym on_right), subst₂ ◌=AC◌ on_left on_right)

  -- no substitution unifies the two terms with separate variables exactly where they do not overlap
  none_overlap : NoUnifierOf Ac unifying s (renamed on_the_right t) ↔ NoOverlap unifying s t
  none_overlap = (
    λ none σ τ equal. none (joined_substitution σ τ) ((joined_overlap σ τ).0 equal),
    λ none ρ unifies. none ρ (λ x. ρ (on_the_right x))
        (subst (λ (u : Term). apply unifying.moves ρ s =AC u) (apply-renamed ρ right) unifies),
  )

module _ {block : List ℕ} {number : ℕ} {left right left' right' : List ℕ} {lengths : SideLengths}
    (read : ReadPromise block number left right (given lengths) left' right') where
  -- No variable stands on both sides that Read gives.
  pub no_variable_on_both : (x : ℕ) → x < 64 → Memᴰ x (take lengths.left left')
      → Memᴰ x (take lengths.right right') → ⊥
  no_variable_on_both x variable on_left on_right =
      let terms = its_terms (given_gives read) in
      let same = read_sides (given_gives read) terms.2 terms.3 in
      let low = left_below variable
      (atoms_written terms.2.writable (subst (Memᴰ x) same.0 on_left)) in
      let before = map_members on_the_right (flatten terms.1)
      (subst (Memᴰ x) (same.1 ∙ flatten-renamed on_the_right terms.1) on_right) in
      let high = right_above (atoms_written terms.3.writable before.1)
      (subst (λ (y : ℕ). y < 64) before.2 variable) in
      omega (arith, before.2)

  module _ {s t : Term} (of_left : Writes (left_term block) s) (of_right : Writes (right_term block) t) where
    -- σ on the left term and τ on the right one make them equal exactly if the two joined unify the sides that Read
    -- gave.
    pub block_overlap : (σ τ : Substitution)
        → (apply unifying.moves σ s =AC apply unifying.moves τ t)
        ↔ Unifies unifying (take lengths.left left') (take lengths.right right')
        (flattened Ac (joined_substitution σ τ))
    block_overlap σ τ =
        let same = read_sides (given_gives read) of_left of_right in
        let Both : List ℕ → List ℕ → Type 0 = λ L R. Unifies unifying L R (flattened Ac (joined_substitution σ τ)) in
        let overlap = joined_overlap of_left.writable of_right.writable σ τ in
        let unifies = unifier_unifies (ac_sums {M = unifying} refl) s (renamed on_the_right t) (joined_substitution σ τ) in (
          λ equal. subst₂ Both (sym same.0) (sym same.1) (unifies.0 (overlap.0 equal)),
          λ unify. overlap.1 (unifies.1 (subst₂ Both same.0 same.1 unify)),
        )

    -- Page gives 13 exactly where the two terms do not overlap, unless a number that comes before it is given.
    pub block_no_overlap : {begin : Beginning} {wanted : ℕ} {out out' : List ℕ} {outcome : Outcome PageWritten}
        → PagePromise unifying (take lengths.left left') (take lengths.right right') begin wanted out outcome
        out'
        → (outcome ≡ refused (said_of NoUnifier))
        ↔ (NoneOf (PageGiven unifying (take lengths.left left') (take lengths.right right') begin wanted out)
        rows_numbers × NoOverlap unifying s t)
    block_no_overlap promise =
        let alike = none_overlap of_left.writable of_right.writable in
        let said = block_no_unifier read of_left of_right promise in (
          λ e. let both = said.0 e in (both.0, alike.0 both.1),
          λ both. said.1 (both.0, alike.1 both.1),
        )
