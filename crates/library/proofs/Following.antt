-- What a program may go by that calls `next_block` again and again: where its reader stands in the buffer,
-- and that its run goes on.
use Rattle.std.proofs.Common.{ℕ, ◌+◌, ◌≤◌, arith, ◌≡◌, refl, subst, ◌∙◌, List, [], ◌∷◌, ◌++◌, length, ℤ}
use Rattle.library.specs.Reading.{opened, part, ReaderFits, Comes}
use Rattle.library.specs.Library.{Call, Calls, HandsOn, Run, AtEnd, AtLimit, AtFailure}
use Rattle.library.specs.declared.Reader.{Reader}
use Rattle.library.specs.declared.Next.{Next}
use Rattle.library.specs.declared.Next.TheVariants as next
use Rattle.library.proofs.Calling.{read_left}
use Rattle.library.proofs.Handed.{at_end, at_limit, at_failure}

-- a reader of an opened library fits every buffer that has room for a block
pub opened_fits : (buffer : List ℕ) (most : ℕ) → 512 ≤ length buffer → ReaderFits buffer (opened most)
opened_fits buffer most room = record { ordered = omega arith; within = omega arith; room = room }

-- calls leave the reader's places in the buffer, and as many blocks as before
record Kept (r r' : Reader) (after : List ℕ) : Type 0 where
  pub fits : ReaderFits after r'
  pub same_left : r'.left ≡ r.left

calls_keep : {buffer : List ℕ} {r : Reader} {after : List ℕ} {r' : Reader} {calls : List Call} → ReaderFits buffer r →
    Calls buffer r calls r' after → Kept r r' after
calls_keep fits Calls.none = record { fits = fits; same_left = refl }
calls_keep fits (Calls.one_more before comes a) =
    let k = calls_keep fits before in
    let left = read_left k.fits a in
    record { fits = left.fits; same_left = left.same_left ∙ k.same_left }

-- what a block tells
pub record ABlock (r : Reader) (start size : ℕ) (r' : Reader) (after : List ℕ) : Type 0 where
  pub fits : ReaderFits after r'
  pub ends : start + size ≡ r'.at
  pub one_less : r.left ≡ r'.left + 1

block_tells : {r full r' : Reader} {after : List ℕ} {start size : ℕ} → Kept r full after →
    Comes full (next.Block start size) r' → ABlock r start size r' after
block_tells k (Comes.a_block may many) =
    record {
      fits = record { ordered = omega arith; within = k.fits.within; room = k.fits.room };
      ends = refl;
      one_less = omega (arith, k.same_left);
    }
block_tells k (Comes.a_short_block may some few over) =
    record {
      fits = record { ordered = omega (arith, k.fits.ordered); within = k.fits.within; room = k.fits.room };
      ends = refl;
      one_less = omega (arith, k.same_left);
    }

-- where a block comes next, it tells this
pub handed_block : {buffer after : List ℕ} {r r' : Reader} {n : Next} {start size : ℕ} → ReaderFits buffer r →
    HandsOn buffer r n r' after → n ≡ next.Block start size → ABlock r start size r' after
handed_block {r' = r'} fits h e =
    block_tells (calls_keep fits h.reads) (subst (λ n. Comes h.full n r') e h.comes)

-- a run goes on by calls
run_calls : {most : ℕ} {calls : List Call} {blocks : List (List ℕ)} {r : Reader} {buffer : List ℕ} {more : List Call}
    {r' : Reader} {after : List ℕ} →
    Run most calls blocks r buffer → Calls buffer r more r' after → Run most (more ++ calls) blocks r' after
run_calls run Calls.none = run
run_calls run (Calls.one_more before comes a) = Run.call (run_calls run before) comes a

-- The run of a program goes on by what `next_block` gives: by a block ..
module _ {most : ℕ} {calls : List Call} {blocks : List (List ℕ)} {r r' : Reader} {buffer after : List ℕ} {n : Next}
    (run : Run most calls blocks r buffer) (h : HandsOn buffer r n r' after) where
  comes_as : {m : Next} → n ≡ m → Comes h.full m r'
  comes_as e = subst (λ z. Comes h.full z r') e h.comes

  pub run_block : {start size : ℕ} → n ≡ next.Block start size →
      Run most (h.calls ++ calls) (blocks ++ (part start size after ∷ [])) r' after
  run_block e = Run.block (run_calls run h.reads) (comes_as e)

  -- .. or it is over, and what is told is so.
  pub run_end : n ≡ next.End → AtEnd most (h.calls ++ calls) blocks
  run_end e = at_end (run_calls run h.reads) (comes_as e)

  pub run_limit : n ≡ next.Remains → AtLimit most (h.calls ++ calls) blocks
  run_limit e = at_limit (run_calls run h.reads) (comes_as e)

  pub run_failure : {error : ℤ} → n ≡ next.Failed error → AtFailure error (h.calls ++ calls) blocks
  run_failure e = at_failure (run_calls run h.reads) (comes_as e)
