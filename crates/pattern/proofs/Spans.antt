-- Bytes of one kind at the front of some bytes: what is known of them one by one, and that they end at one place.
use Rattle.std.proofs.Common.{ℕ, zero, suc, ◌+◌, ◌≡◌, refl, sym, subst, List, [], ◌∷◌, ◌++◌, Bool, true, false, cond, All, arith, one-add, take, drop}
use Rattle.std.specs.List.{prefix_len}
use Rattle.pattern.specs.Characters.{Each, none, one_more, Stops, at_end, at_other}

module _ {Such : ℕ → Type 0} where
  -- two parts, each of whose bytes is such
  pub each_append : {xs ys : List ℕ} → Each Such xs → Each Such ys → Each Such (xs ++ ys)
  each_append none rest = rest
  each_append (one_more h each) rest = one_more h (each_append each rest)

  -- and back
  pub each_first : (xs ys : List ℕ) → Each Such (xs ++ ys) → Each Such xs
  each_first [] ys each = none
  each_first (x ∷ xs) ys (one_more h each) = one_more h (each_first xs ys each)

  pub each_second : (xs ys : List ℕ) → Each Such (xs ++ ys) → Each Such ys
  each_second [] ys each = each
  each_second (x ∷ xs) ys (one_more h each) = each_second xs ys each

  -- the first byte
  pub each_front : {b : ℕ} {bytes : List ℕ} → Each Such (b ∷ bytes) → Such b
  each_front (one_more h each) = h

  -- where they stop, no such byte comes first
  pub stops_front : {bytes more : List ℕ} {b : ℕ} → Stops Such bytes → bytes ≡ b ∷ more → Such b → ⊥
  stops_front at_end e h = cc e
  stops_front {b = b} (at_other {b = a} other) e h = other (subst Such (let same : b ≡ a = cc e in same) h)

  -- Bytes begin with such bytes in one way only.
  pub span_unique : {xs ys r s : List ℕ} → Each Such xs → Each Such ys → Stops Such r → Stops Such s → xs ++ r ≡ ys ++ s
      → (xs ≡ ys) × (r ≡ s)
  span_unique none none _ _ e = (refl, e)
  span_unique none (one_more h each) stop _ e = absurd (stops_front stop e h)
  span_unique (one_more h each) none _ stop e = absurd (stops_front stop (sym e) h)
  span_unique (one_more {bytes = xs} h each) (one_more {bytes = ys} h' each') stop stop' e =
      let same = span_unique each each' stop stop' (cc e) in
      (cc (e, same.0), same.1)

-- what is such is also so
pub each_map : {Such Also : ℕ → Type 0} {bytes : List ℕ} → ((b : ℕ) → Such b → Also b) → Each Such bytes
    → Each Also bytes
each_map f none = none
each_map f (one_more {b} h each) = one_more (f b h) (each_map f each)

-- each of the bytes, by its place, and back
pub each_of_all : {Such : ℕ → Type 0} (bytes : List ℕ) → All Such bytes → Each Such bytes
each_of_all [] all = none
each_of_all (b ∷ bytes) all =
    one_more (all 0 0 (omega arith)) (each_of_all bytes (λ k d inside. all (suc k) d (omega arith)))

pub all_of_each : {Such : ℕ → Type 0} {bytes : List ℕ} → Each Such bytes → All Such bytes
all_of_each none k d inside = absurd (omega arith)
all_of_each (one_more such rest) zero d inside = such
all_of_each (one_more such rest) (suc k) d inside = all_of_each rest k d (omega arith)

-- how far a test holds from the front: each byte there is such, and no such byte comes behind them
module _ {Such : ℕ → Type 0} (test : ℕ → Bool) where
  each_cond : (b : ℕ) (n : ℕ) (bytes : List ℕ) (t : Bool) → (t ≡ true → Such b) → Each Such (take n bytes)
      → Each Such (take (cond t (1 + n) 0) (b ∷ bytes))
  each_cond b n bytes true such each = rw one-add (one_more (such refl) each)
  each_cond b n bytes false such each = none

  pub each_prefix : ((b : ℕ) → test b ≡ true → Such b) → (bytes : List ℕ) → Each Such (take (prefix_len test bytes) bytes)
  each_prefix such [] = none
  each_prefix such (b ∷ bytes) =
      each_cond b (prefix_len test bytes) bytes (test b) (such b) (each_prefix such bytes)

  stops_cond : (b : ℕ) (n : ℕ) (bytes : List ℕ) (t : Bool) → (t ≡ false → Such b → ⊥) → Stops Such (drop n bytes)
      → Stops Such (drop (cond t (1 + n) 0) (b ∷ bytes))
  stops_cond b n bytes true other stops = rw one-add stops
  stops_cond b n bytes false other stops = at_other (other refl)

  pub stops_prefix : ((b : ℕ) → test b ≡ false → Such b → ⊥) → (bytes : List ℕ)
      → Stops Such (drop (prefix_len test bytes) bytes)
  stops_prefix other [] = at_end
  stops_prefix other (b ∷ bytes) =
      stops_cond b (prefix_len test bytes) bytes (test b) (other b) (stops_prefix other bytes)
