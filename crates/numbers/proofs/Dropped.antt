-- A number that is never given changes no promise: it may stand in a question's list or not.
use Rattle.std.proofs.Common.{ℕ, ◌↔◌, List, [], ◌∷◌, ◌++◌}
use Rattle.numbers.specs.First.{First, NoneOf, here, later, also}
use Rattle.numbers.specs.Outcome.{Outcome, Promise, is_refused, is_given}
use Rattle.numbers.proofs.Said.{refuses_carried}

module _ {Given : ℕ → Type 0} (n : ℕ) (never : Given n → ⊥) where
  -- it is not the first of a list, so the list without it has the same first one, ..
  first_dropped : (ms ns : List ℕ) {m : ℕ} → First Given (ms ++ n ∷ ns) m → First Given (ms ++ ns) m
  first_dropped [] ns (here given) = absurd (never given)
  first_dropped [] ns (later skip first) = first
  first_dropped (k ∷ ms) ns (here given) = here given
  first_dropped (k ∷ ms) ns (later skip first) = later skip (first_dropped ms ns first)

  -- .. and the list with it as well, ..
  first_put_back : (ms ns : List ℕ) {m : ℕ} → First Given (ms ++ ns) m → First Given (ms ++ n ∷ ns) m
  first_put_back [] ns first = later never first
  first_put_back (k ∷ ms) ns (here given) = here given
  first_put_back (k ∷ ms) ns (later skip first) = later skip (first_put_back ms ns first)

  -- .. and none of the one is given where none of the other is
  pub none_dropped : (ms ns : List ℕ) → NoneOf Given (ms ++ n ∷ ns) → NoneOf Given (ms ++ ns)
  none_dropped [] ns (also skip none) = none
  none_dropped (k ∷ ms) ns (also skip none) = also skip (none_dropped ms ns none)

  pub none_put_back : (ms ns : List ℕ) → NoneOf Given (ms ++ ns) → NoneOf Given (ms ++ n ∷ ns)
  none_put_back [] ns none = also never none
  none_put_back (k ∷ ms) ns (also skip none) = also skip (none_put_back ms ns none)

  module _ {Names : ℕ → Type 0} {Values Buffers : Type 0} {Gives : Values → Buffers → Type 0} {entry : Buffers} where
    dropped : (ms ns : List ℕ) {outcome : Outcome Values} {exit : Buffers}
        → Promise Given Names (ms ++ n ∷ ns) Gives entry outcome exit
        → Promise Given Names (ms ++ ns) Gives entry outcome exit
    dropped ms ns (is_refused refuses) = is_refused (refuses_carried (first_dropped ms ns) refuses)
    dropped ms ns (is_given none gives) = is_given (none_dropped ms ns none) gives

    put_back : (ms ns : List ℕ) {outcome : Outcome Values} {exit : Buffers}
        → Promise Given Names (ms ++ ns) Gives entry outcome exit
        → Promise Given Names (ms ++ n ∷ ns) Gives entry outcome exit
    put_back ms ns (is_refused refuses) = is_refused (refuses_carried (first_put_back ms ns) refuses)
    put_back ms ns (is_given none gives) = is_given (none_put_back ms ns none) gives

    -- A promise over a list with a number that is never given is the promise over the list without it.
    pub never_given_dropped : (ms ns : List ℕ) {outcome : Outcome Values} {exit : Buffers}
        → Promise Given Names (ms ++ n ∷ ns) Gives entry outcome exit
        ↔ Promise Given Names (ms ++ ns) Gives entry outcome exit
    never_given_dropped ms ns = (dropped ms ns, put_back ms ns)
