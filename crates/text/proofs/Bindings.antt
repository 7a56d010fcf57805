-- Laws of bindings: how long they are, and how the bytes of Values are taken apart one binding at a time.
use Prim.Native.Nat.{ℕ, suc, ◌+◌, ◌-◌, ◌*◌, ◌<◌, ◌≤◌, min}
use native.Mathlib.Omega.{arith}
use mathlib.Core.Path.{◌≡◌, refl, ap, sym, ◌∙◌}
use mathlib.Core.List.{List, [], ◌∷◌, ◌++◌, append_assoc, append-nil}
use lib.ListN.{length, length-append, take, drop, get_or}
use lib.Seq.{take-append_seam, drop-append_seam, take_all}
use Rattle.ac.specs.Values.{Binding, laid_out}
use Rattle.buffer.specs.Filled.{Puts}
use Rattle.buffer.specs.declared.filled.Filled.{Filled}
use Rattle.text.specs.Text.{name, further, joined, binding_of, bound, spaced, substitution}
use Rattle.text.proofs.Names.{name_short, further_short}
use Rattle.buffer.proofs.Puts.{puts_then, puts_as}

-- a value's text is at most five bytes for each atom
pub joined_short : (atoms : List ℕ) → ((i : ℕ) → get_or atoms i 0 < 256) → length (joined atoms) ≤ 5 * length atoms
joined_short [] bytes = omega arith
joined_short (a ∷ atoms) bytes =
    omega (
      arith,
      length-append (name a) (further atoms),
      name_short a (bytes 0),
      further_short atoms (length atoms) (λ i. bytes (suc i)),
      ap (λ (l : List ℕ). length (further l)) (take_all (length atoms) atoms (omega arith)),
    )

-- a binding's text is at most five bytes for each of its bytes
pub bound_short : (bytes : List ℕ) → ((i : ℕ) → get_or bytes i 0 < 256) → 0 < length bytes
    → length (bound (binding_of bytes)) ≤ 5 * length bytes
bound_short [] small some = absurd (omega arith)
bound_short (x ∷ []) small some = omega (arith, length-append (name x) (61 ∷ []), name_short x (small 0))
bound_short (x ∷ n ∷ atoms) small some =
    omega (
      arith,
      length-append (name x) (61 ∷ joined atoms),
      name_short x (small 0),
      joined_short atoms
          (λ i. small (suc (suc i))),
    )

-- what stands behind a binding's first two bytes, however many of them there are
pub after_two : (bytes : List ℕ) (skipped : ℕ) → skipped ≡ min (length bytes) 2
    → take (length bytes - skipped) (drop skipped bytes) ≡ drop 2 bytes
after_two [] skipped e = ap (λ (k : ℕ). take (0 - k) (drop k [])) (let none : skipped ≡ 0 = omega arith in none)
after_two (x ∷ []) skipped e =
    ap (λ (k : ℕ). take (1 - k) (drop k (x ∷ []))) (let one : skipped ≡ 1 = omega arith in one)
after_two (x ∷ n ∷ atoms) skipped e =
    ap (λ (k : ℕ). take (suc (suc (length atoms)) - k) (drop k (x ∷ n ∷ atoms)))
    (let two : skipped ≡ 2 = omega arith in two)
    ∙ take_all (suc (suc (length atoms)) - 2) atoms (omega arith)

-- the bytes of one binding
abbrev bytes_of : Binding → List ℕ
bytes_of b = b.variable ∷ length b.value ∷ b.value

-- what bytes say, where they are bindings: the first binding, where it ends, its bytes, and the rest
pub record FirstOf (values : List ℕ) (end : ℕ) (left : List Binding) : Type 0 where
  pub binding : Binding
  pub others : List Binding
  pub all : left ≡ binding ∷ others
  pub its_bytes : binding_of (take end values) ≡ binding
  pub the_rest : laid_out others ≡ drop end values

-- the first of the bindings, from its bytes
pub first_of : (values : List ℕ) (end : ℕ) (left : List Binding) → 0 < length values
    → end ≡ min (2 + get_or values 1 0) (length values) → laid_out left ≡ values → FirstOf values end left
first_of values end [] some ends e = absurd (omega (arith, ap length e))
first_of values end (b ∷ others) some ends e =
    let long : length (bytes_of b) + length (laid_out others) ≡ length values =
    sym (length-append (bytes_of b) (laid_out others)) ∙ ap length e in
    let count : get_or values 1 0 ≡ length b.value = ap (λ (l : List ℕ). get_or l 1 0) (sym e) in
    let size : end ≡ length (bytes_of b) = omega (arith, count) in
    record {
      binding = b;
      others = others;
      all = refl;
      its_bytes =
          ap binding_of
          (ap (λ (l : List ℕ). take end l) (sym e)
          ∙ ap (λ (n : ℕ). take n (laid_out (b ∷ others))) size
          ∙ take-append_seam (bytes_of b) (laid_out others));
      the_rest =
          sym (drop-append_seam (bytes_of b) (laid_out others))
          ∙ ap (λ (n : ℕ). drop n (laid_out (b ∷ others))) (sym size)
          ∙ ap (λ (l : List ℕ). drop end l) e;
    }

-- how far a row of bindings has been put: of the bindings bs those whose bytes are left come after what was put
pub record Told (bs : List Binding) (before : Filled) (rest : List ℕ) (now : Filled) : Type 0 where
  pub done : List ℕ
  pub left : List Binding
  pub puts : Puts before done now
  pub whole : done ++ spaced left ≡ spaced bs
  pub its_bytes : laid_out left ≡ rest

-- a space and the next binding are put
pub told_next : {bs : List Binding} {before now after : Filled} {rest : List ℕ} {end : ℕ}
    → 0 < length rest → end ≡ min (2 + get_or rest 1 0) (length rest)
    → Puts now (32 ∷ bound (binding_of (take end rest))) after
    → Told bs before rest now → Told bs before (drop end rest) after
told_next {bs} {before} {now} {after} {rest} {end} some ends more told =
    let first : FirstOf rest end told.left = first_of rest end told.left some ends told.its_bytes in
    record {
      done = told.done ++ (32 ∷ bound first.binding);
      left = first.others;
      puts = puts_then told.puts (puts_as (ap (λ (b : Binding). 32 ∷ bound b) first.its_bytes) more);
      whole =
          append_assoc told.done (32 ∷ bound first.binding) (spaced first.others)
          ∙ ap (λ (l : List Binding). told.done ++ spaced l) (sym first.all)
          ∙ told.whole;
      its_bytes = first.the_rest;
    }

-- all bindings are put
pub told_all : {bs : List Binding} {before now : Filled} {rest : List ℕ} → length rest ≡ 0
    → Told bs before rest now → Puts before (spaced bs) now
told_all {bs} {before} {now} {rest} none_left told =
    puts_as (ap (λ (l : List Binding). told.done ++ spaced l) (sym (none told.left told.its_bytes))
    ∙ told.whole) (puts_as (sym (append-nil told.done)) told.puts)
  where
    none : (left : List Binding) → laid_out left ≡ rest → left ≡ []
    none [] e = refl
    none (b ∷ others) e = absurd (omega (arith, ap length e))

-- the first binding is put, and the others, from their bytes, behind it
pub substitution_first : {before between after : Filled} {values : List ℕ} {end : ℕ} (bs : List Binding)
    → 0 < length values → end ≡ min (2 + get_or values 1 0) (length values) → laid_out bs ≡ values
    → Puts before (bound (binding_of (take end values))) between
    → ((others : List Binding) → laid_out others ≡ drop end values → Puts between (spaced others) after)
    → Puts before (substitution bs) after
substitution_first {values = values} {end = end} bs some ends e one others =
    let first : FirstOf values end bs = first_of values end bs some ends e in
    puts_as (ap substitution (sym first.all))
    (puts_then (puts_as (ap bound first.its_bytes) one) (others first.others first.the_rest))
