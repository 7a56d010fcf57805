-- How a right side's atoms are written.
use Rattle.std.proofs.Common.{ℕ, ◌+◌, ◌-◌, ◌≤◌, ◌<◌, arith, ◌≡◌, refl, ap, ap₂, sym, subst, ◌∙◌, inl, inr, List, [], ◌∷◌, ◌++◌, map, lt-ltb, le-ltb, le-leb, length, take, drop, take_all, take_at}
use native.Mathlib.Decide.{dec_lt}
use mathlib.Core.List.{Memᴰ}
use lib.ListN.{length-map}
use Rattle.std.proofs.lemmas.List.{drop_all, append-nil}
use Rattle.block.specs.Front.{MayBeWritten, on_the_right}
use Rattle.block.proofs.Renamed.{variable_higher}
use Rattle.block.proofs.Renamed as renamed
use Rattle.writing.specs.Written.{as_written}

-- v32 to v63 are written 32 lower
pub variable_lower : {a : ℕ} → 32 ≤ a → a < 64 → as_written a ≡ a - 32
variable_lower {a} from to = rw (le-leb 32 a from, lt-ltb a 64 to)

-- a constant stays
pub constant_stays : {a : ℕ} → 64 ≤ a → as_written a ≡ a
constant_stays {a} above = let from : 32 ≤ a = omega arith in rw (le-leb 32 a from, le-ltb a 64 above)

-- what is written of the right side's atoms may be written, ..
pub lower_writable : {a : ℕ} → 32 ≤ a → a < 128 → MayBeWritten (as_written a)
lower_writable {a} from to = go (dec_lt a 64)
  where
    go : Dec (a < 64) → MayBeWritten (as_written a)
    go (yes variable) = rw (variable_lower from variable) (inl (omega arith))
    go (no constant) = rw (constant_stays {a = a} (omega arith)) (inr (omega arith))

-- .. Read gives back the atom that it is written of, ..
pub renamed-lower : {a : ℕ} → 32 ≤ a → on_the_right (as_written a) ≡ a
renamed-lower {a} from = go (dec_lt a 64)
  where
    go : Dec (a < 64) → on_the_right (as_written a) ≡ a
    go (yes variable) =
        let back : a - 32 + 32 ≡ a = omega arith in
        ap on_the_right (variable_lower from variable) ∙ variable_higher {a = a - 32} (omega arith) ∙ back
    go (no constant) =
        let above : 64 ≤ a = omega arith in
        ap on_the_right (constant_stays above) ∙ renamed.constant_stays above

-- .. and an atom that Read gives is written as it was.
pub lower-renamed : {a : ℕ} → MayBeWritten a → as_written (on_the_right a) ≡ a
lower-renamed {a} (inl variable) =
    let back : a + 32 - 32 ≡ a = omega arith in
    ap as_written (variable_higher {a = a} (omega arith))
    ∙ variable_lower {a = a + 32} (omega arith) (omega arith)
    ∙ back
lower-renamed {a} (inr constant) = ap as_written (renamed.constant_stays constant.0) ∙ constant_stays constant.0

-- so it is with all atoms of a side
pub all_lower_writable : (side : List ℕ) → ((a : ℕ) → Memᴰ a side → (32 ≤ a) × (a < 128))
    → (a : ℕ) → Memᴰ a (map as_written side) → MayBeWritten a
all_lower_writable [] all a m = elim m [ ]
all_lower_writable (b ∷ side) all a (Memᴰ.head same) =
    let range = all b (Memᴰ.head refl) in
    subst MayBeWritten (sym same) (lower_writable range.0 range.1)
all_lower_writable (b ∷ side) all a (Memᴰ.tail m) =
    all_lower_writable side (λ c n. all c (Memᴰ.tail n)) a m

pub all-renamed-lower : (side : List ℕ) → ((a : ℕ) → Memᴰ a side → 32 ≤ a)
    → map on_the_right (map as_written side) ≡ side
all-renamed-lower [] all = refl
all-renamed-lower (a ∷ side) all =
    ap₂ {C = List ℕ} (λ b l. b ∷ l) (renamed-lower (all a (Memᴰ.head refl)))
    (all-renamed-lower side (λ b m. all b (Memᴰ.tail m)))

pub all-lower-renamed : (side : List ℕ) → ((a : ℕ) → Memᴰ a side → MayBeWritten a)
    → map as_written (map on_the_right side) ≡ side
all-lower-renamed [] all = refl
all-lower-renamed (a ∷ side) all =
    ap₂ {C = List ℕ} (λ b l. b ∷ l) (lower-renamed (all a (Memᴰ.head refl)))
    (all-lower-renamed side (λ b m. all b (Memᴰ.tail m)))

-- all of them, at the start of a longer array
pub all_written : (atoms rest : List ℕ) {copied after : List ℕ} (i : ℕ) → copied ≡ atoms → length copied ≤ i
    → after ≡ map as_written (take i copied) ++ drop i copied
    → take (length atoms) (after ++ rest) ≡ map as_written atoms
all_written atoms rest {copied} {after} i same all is =
    let whole : after ≡ map as_written atoms =
    is ∙ (rw (take_all i copied all, drop_all, append-nil) (ap (map as_written) same)) in
    take_at after rest (length atoms) (ap length whole ∙ length-map atoms as_written) ∙ whole
