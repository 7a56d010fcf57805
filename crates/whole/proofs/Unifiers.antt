-- From the bytes of a block to source document 000 (Fages, RR-0287): "on what a unifier is, document 000
-- decides" (document 01, "What the program decides"). The words of the statements stand in specs/Unifiers.antt,
-- and a complete set of minimal unifiers in ac/specs/Theory.antt. They speak of promises and bytes alone, not of
-- code.
--
-- `block_unifiers`. Let Read give the sides of a block whose two terms are s and t. Let pages be asked for on
-- these sides, one after the other from the start until no more follow, and let Values answer each key on them.
-- If all of these meet the promises, the substitutions read back from the bytes are a complete set of minimal
-- unifiers of s and t: they move the variables of the two terms alone, their values hold no variable of terms,
-- each is a unifier, every unifier has one of them that is more general, and none is more general than another.
-- `block_answered`. Wherever Read gives sides and Page gives none of its numbers, there are such terms, pages and
-- answers.
-- `block_no_unifier`. On the sides that Read gave Page gives 13 exactly where s and t have no unifier, unless a
-- number that comes before it is given.
--
-- The right term is meant with its atoms as `on_the_right` has them, `renamed on_the_right t`. Not covered are sides
-- that give one of 7 to 12: of the unifiers of such terms nothing is said.
use Prim.Native.Nat.{ℕ}
use native.Mathlib.Omega.{arith}
use mathlib.Core.Path.{◌≡◌, refl, sym, ap, ap₂, subst₂, ◌∙◌}
use mathlib.Core.Logic.{◌↔◌}
use mathlib.Core.List.{List, ◌++◌, map}
use borrow.Author.Tests.{le-ltb}
use lib.ListN.{length, take, drop}
use lib.Seq.{take-append_seam}
use Rattle.ac.specs.Term.{Term, atom, plus, flatten}
use Rattle.ac.specs.Pair.{Mode, IsSide, unifying}
use Rattle.ac.specs.Keys.{layout, Beginning, start}
use Rattle.ac.specs.Pages.{together}
use Rattle.ac.specs.Theory.{Theory, MinimalSet}
use Rattle.ac.specs.Fages.{Ac}
use Rattle.ac.proofs.Theory.{flattened, Sums, unifier_unifies, unifies_unifier}
use Rattle.ac.proofs.Fages.{ac_sums}
use Rattle.ac.proofs.Members.{map_append}
use Rattle.numbers.specs.First.{NoneOf}
use Rattle.numbers.specs.Numbers.{said_of}
use Rattle.numbers.specs.Order.{rows_numbers, page_numbers}
use Rattle.numbers.specs.Outcome.{Outcome, refused, given}
use Rattle.numbers.specs.declared.Refusal.TheVariants.{NoUnifier}
use Rattle.numbers.proofs.Promises.{given_gives}
use Rattle.block.specs.Front.{Writes, on_the_right, left_side, right_side}
use Rattle.block.specs.Block.{left_term, right_term}
use Rattle.block.specs.Read.{SideLengths, ReadGives, ReadPromise, sides}
use Rattle.block.proofs.Terms.{writes_unique}
use Rattle.solver.specs.Page.{PageGiven, of_the_sides, PageWritten, PagePromise}
use Rattle.solver.specs.Pages.{PagesAsked}
use Rattle.solver.specs.Existence.{NoneUnifies}
use Rattle.solver.proofs.Limits.{sides_give_none, within_limits}
use Rattle.whole.specs.Whole.{ValuesAsked}
use Rattle.whole.specs.Unifiers.{renamed, read_substitution, NoUnifierOf}
use Rattle.whole.proofs.Exist.{pages_wherever_given}
use Rattle.whole.proofs.Whole.{none_at_all}
use Rattle.whole.proofs.Substitutions.{answers_minimal_set}

module _ {T : Theory} {M : Mode} (sums : Sums T M) (s t : T.Terms) where
  -- no replacement unifies the flattened sides exactly where no substitution is a unifier
  none_alike : IsSide (T.flatten s) → IsSide (T.flatten t) → NoneUnifies M (T.flatten s) (T.flatten t) ↔ NoUnifierOf T M s t
  none_alike left right = (
    λ nothing σ unifier. nothing (flattened T σ) ((unifier_unifies sums s t σ).0 unifier),
    λ nothing θ unifies.
        let found = unifies_unifier sums s t left right θ unifies in
        nothing found.0 found.2,
  )

  -- 13 on the flattened sides is that
  terms_no_unifier : {begin : Beginning} {wanted : ℕ} {out out' : List ℕ} {outcome : Outcome PageWritten}
      → PagePromise M (T.flatten s) (T.flatten t) begin wanted out outcome out'
      → (outcome ≡ refused (said_of NoUnifier))
      ↔ (NoneOf (PageGiven M (T.flatten s) (T.flatten t) begin wanted out) rows_numbers × NoUnifierOf T M s t)
  terms_no_unifier {begin} {wanted} {out} promise = (
    λ e. let both = (none_at_all promise).0 e in (both.0, (alike both.0).0 both.1),
    λ both. (none_at_all promise).1 (both.0, (alike both.0).1 both.1),
  )
    where
      alike : NoneOf (PageGiven M (T.flatten s) (T.flatten t) begin wanted out) rows_numbers
          → NoneUnifies M (T.flatten s) (T.flatten t) ↔ NoUnifierOf T M s t
      alike none =
          let fine = within_limits (sides_give_none (λ n number. of_the_sides number) none) in
          none_alike fine.left_side fine.right_side

-- flattening keeps the atoms' order under other names
pub flatten-renamed : (name : ℕ → ℕ) (t : Term) → flatten (renamed name t) ≡ map name (flatten t)
flatten-renamed name (atom a) = refl
flatten-renamed name (plus s t) =
    ap₂ {C = List ℕ} (λ x y. x ++ y) (flatten-renamed name s) (flatten-renamed name t)
    ∙ sym (map_append name (flatten s) (flatten t))

module _ {block left right : List ℕ} where
  -- where Read gives sides, the block has two terms
  pub its_terms : {lengths : SideLengths} {exit : List ℕ × List ℕ} → ReadGives block left right lengths exit
      → (s t : Term) × Writes (left_term block) s × Writes (right_term block) t
  its_terms (sides {s = s} {t = t} of_left of_right) = (s, t, of_left, of_right)

  -- and what Read wrote are these terms flattened
  pub read_sides : {lengths : SideLengths} {exit : List ℕ × List ℕ} {s t : Term}
      → ReadGives block left right lengths exit → Writes (left_term block) s → Writes (right_term block) t
      → (take lengths.left exit.0 ≡ flatten s)
      × (take lengths.right exit.1 ≡ flatten (renamed on_the_right t))
  read_sides {t = t} (sides {s = u} {t = v} of_left of_right) s_left t_right = (
    take-append_seam (left_side u) (drop (length (left_side u)) left) ∙ ap left_side (writes_unique of_left s_left),
    take-append_seam (right_side v) (drop (length (right_side v)) right)
        ∙ ap right_side (writes_unique of_right t_right)
        ∙ sym (flatten-renamed on_the_right t),
  )

module _ {block : List ℕ} {number : ℕ} {left right left' right' : List ℕ} {lengths : SideLengths}
    (read : ReadPromise block number left right (given lengths) left' right') where
  -- The substitutions read back from all answers to the sides that Read gave are a complete set of minimal
  -- unifiers of the block's two terms.
  pub block_unifiers : {s t : Term} → Writes (left_term block) s → Writes (right_term block) t
      → {pages answers : List (List ℕ)}
      → PagesAsked unifying (take lengths.left left') (take lengths.right right') start pages
      → ValuesAsked unifying (take lengths.left left') (take lengths.right right') (together pages) answers
      → MinimalSet Ac unifying layout.new s (renamed on_the_right t) (map (read_substitution Ac) answers)
  block_unifiers {s} {t} of_left of_right {pages} {answers} asked answered =
      let same = read_sides (given_gives read) of_left of_right in
      answers_minimal_set (ac_sums refl) (λ a new. le-ltb a 64 (omega arith)) s (renamed on_the_right t)
      (subst₂ (λ L R. PagesAsked unifying L R start pages) same.0 same.1 asked)
      (subst₂ (λ L R. ValuesAsked unifying L R (together pages) answers) same.0 same.1 answered)

  -- There are such terms, pages and answers wherever Page gives none of its numbers.
  pub block_answered : {begin : Beginning} {wanted : ℕ} {out : List ℕ}
      → NoneOf (PageGiven unifying (take lengths.left left') (take lengths.right right') begin wanted out)
      page_numbers
      → (s t : Term) × (pages answers : List (List ℕ))
      × Writes (left_term block) s × Writes (right_term block) t
      × PagesAsked unifying (take lengths.left left') (take lengths.right right') start pages
      × ValuesAsked unifying (take lengths.left left') (take lengths.right right') (together pages) answers
  block_answered none =
      let terms = its_terms (given_gives read) in
      let found = pages_wherever_given none in
      (terms.0, terms.1, found.0, found.1, terms.2, terms.3, found.2, found.3)

  -- Page gives 13 exactly where the two terms have no unifier, unless a number that comes before it is given.
  pub block_no_unifier : {s t : Term} → Writes (left_term block) s → Writes (right_term block) t
      → {begin : Beginning} {wanted : ℕ} {out out' : List ℕ} {outcome : Outcome PageWritten}
      → PagePromise unifying (take lengths.left left') (take lengths.right right') begin wanted out outcome
      out'
      → (outcome ≡ refused (said_of NoUnifier))
      ↔ (NoneOf (PageGiven unifying (take lengths.left left') (take lengths.right right') begin wanted out)
      rows_numbers × NoUnifierOf Ac unifying s (renamed on_the_right t))
  block_no_unifier {s} {t} of_left of_right {begin} {wanted} {out} {out'} {outcome} promise =
      let same = read_sides (given_gives read) of_left of_right in
      subst₂
      (λ L R. PagePromise unifying L R begin wanted out outcome out'
      → (outcome ≡ refused (said_of NoUnifier))
      ↔ (NoneOf (PageGiven unifying L R begin wanted out) rows_numbers
      × NoUnifierOf Ac unifying s (renamed on_the_right t)))
      (sym same.0) (sym same.1) (terms_no_unifier (ac_sums refl) s (renamed on_the_right t)) promise
