-- Laws of runs and totals, counted up one by one.
use Prim.Native.Nat.{ℕ, zero, suc, ◌+◌, ◌<◌, ◌≤◌}
use native.Mathlib.Numerals.{add-one}
use native.Mathlib.Omega.{arith}
use native.Mathlib.Decide.{dec_lt}
use mathlib.Core.Path.{◌≡◌, refl, ap, ap₂, sym, ◌∙◌}
use mathlib.Core.List.{List, ◌++◌, map}
use lib.ListN.{length, replicate}
use Rattle.std.specs.Prelude.{sum}
use Rattle.std.specs.List.{range_with_len}
use Rattle.std.proofs.lemmas.List.FromFn.{sum_by-map-range_with_len_more}
use Rattle.buffer.specs.Put.{Put}
use Rattle.buffer.proofs.Puts.{put_then, put_as, put-length}
use Rattle.list.specs.Runs.{runs, total}
use Rattle.list.proofs.Runs.{length_runs}

-- a total is a sum over the numbers
pub total_summed : (n : ℕ) (times : ℕ → ℕ) → sum (map times (range_with_len 0 n)) ≡ total n times
total_summed zero times = refl
total_summed (suc n) times =
    ap (λ (k : ℕ). sum (map times (range_with_len 0 k))) (sym (add-one n))
    ∙ sum_by-map-range_with_len_more (λ k. k) times 0 n n (omega arith)
    ∙ ap (λ k. k + times n) (total_summed n times)

-- one more run stands behind
pub runs_next : (n : ℕ) (times atom : ℕ → ℕ)
    → runs n times atom ++ replicate (times n) (atom n) ≡ runs (n + 1) times atom
runs_next n times atom = ap (λ (k : ℕ). runs k times atom) (sym (add-one n))

-- a run that comes later is within the whole
pub total_within : (n g : ℕ) (times : ℕ → ℕ) → g < n → total g times + times g ≤ total n times
total_within zero g times h = absurd (omega arith)
total_within (suc n) g times h = go (dec_lt g n) (total_within n g times)
  where
    go : Dec (g < n) → (g < n → total g times + times g ≤ total n times)
        → total g times + times g ≤ total n times + times n
    go (yes l) rec = omega (arith, rec l)
    go (no l) rec = let same : g ≡ n = omega arith in omega (arith, ap (λ (k : ℕ). total k times + times k) same)

module _ (g : ℕ) (times atom : ℕ → ℕ) {out₀ out : List ℕ} {at next : ℕ}
    (put : Put out₀ at (runs g times atom) next out) where
  -- there is room for the next run
  pub run_fits : {k : ℕ} (n : ℕ) → g < n → at + total n times ≤ length out₀ → k ≡ times g → next + k ≤ length out
  run_fits n h room e =
      omega (arith, put.place, put-length put, length_runs g times atom, total_within n g times h)

  -- the next run is put
  pub put_run : {k b m : ℕ} {after : List ℕ} → k ≡ times g → b ≡ atom g → Put out next (replicate k b) m after
      → Put out₀ at (runs (g + 1) times atom) m after
  put_run e f more = put_as (runs_next g times atom) (put_then put (put_as (ap₂ (λ a c. replicate a c) e f) more))
