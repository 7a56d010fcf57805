-- A side in front notation is a term in the shape in which blocks are written, and such a term is its flattened side in
-- front notation.
use Rattle.std.proofs.Common.{ℕ, ◌<◌, arith, ◌≡◌, refl, ap, sym, ◌∙◌, subst, ⊎_elim, List, [], ◌∷◌, ◌++◌, length}
use mathlib.Core.List.Memᴰ
use mathlib.Core.List.{Memᴰ}
use Rattle.ac.specs.Term.{Term, atom, plus, flatten}
use Rattle.block.specs.Front.{encode, MayBeWritten, Writable, one, two, Writes}
use Rattle.block.proofs.Terms.{one_reading, bytes_of-atoms}
use Rattle.writing.specs.Written.{front}
use Rattle.writing.specs.Shape.{InShape, last, first}

-- the term in this shape that has a first atom and others behind it
chain : ℕ → List ℕ → Term
chain a [] = atom a
chain a (b ∷ rest) = plus (atom a) (chain b rest)

-- its bytes are the side in front notation, its side is the side, and it is in this shape
encode_chain : (a : ℕ) (rest : List ℕ) → encode (chain a rest) ≡ front (a ∷ rest)
unfolding chain
encode_chain a [] = refl
encode_chain a (b ∷ rest) = ap (λ (l : List ℕ). 128 ∷ a ∷ l) (encode_chain b rest)

flatten_chain : (a : ℕ) (rest : List ℕ) → flatten (chain a rest) ≡ a ∷ rest
unfolding chain
flatten_chain a [] = refl
flatten_chain a (b ∷ rest) = ap (λ (l : List ℕ). a ∷ l) (flatten_chain b rest)

chain_in_shape : (a : ℕ) (rest : List ℕ) → InShape (chain a rest)
unfolding chain
chain_in_shape a [] = last
chain_in_shape a (b ∷ rest) = first (chain_in_shape b rest)

-- every atom of the side may be written
abbrev pub AllWritable : List ℕ → Type 0
AllWritable side = (a : ℕ) → Memᴰ a side → MayBeWritten a

chain_writable : (a : ℕ) (rest : List ℕ) → AllWritable (a ∷ rest) → Writable (chain a rest)
unfolding chain
chain_writable a [] all = one (all a (Memᴰ.head refl))
chain_writable a (b ∷ rest) all =
    two (one (all a (Memᴰ.head refl))) (chain_writable b rest (λ c m. all c (Memᴰ.tail m)))

-- so is every atom of a term that may be written
pub atoms_writable : {t : Term} → Writable t → AllWritable (flatten t)
atoms_writable (one may) a (Memᴰ.tail m) = elim m [ ]
atoms_writable (one may) a (Memᴰ.head same) = subst MayBeWritten (sym same) may
atoms_writable (two {s = s} v w) a m =
    ⊎_elim (atoms_writable v a) (atoms_writable w a) (Memᴰ.append_cases (flatten s) m)

-- what a side is written as: a term whose flattened side it is
pub record SideWritten (side : List ℕ) : Type 0 where
  pub term : Term
  pub writes : Writes (front side) term
  pub flattens : flatten term ≡ side
  pub in_shape : InShape term

pub side_written : (side : List ℕ) → 0 < length side → AllWritable side → SideWritten side
side_written [] some all = absurd (omega arith)
side_written (a ∷ rest) some all =
    record {
      term = chain a rest;
      writes = record { exactly = sym (encode_chain a rest); writable = chain_writable a rest all };
      flattens = flatten_chain a rest;
      in_shape = chain_in_shape a rest;
    }

-- a term has an atom
flatten_some : (t : Term) → 0 < length (flatten t)
flatten_some t = omega (arith, bytes_of-atoms t)

-- one atom more in front
front-more : (a : ℕ) (side : List ℕ) → 0 < length side → front (a ∷ side) ≡ 128 ∷ a ∷ front side
front-more a [] some = absurd (omega arith)
front-more a (b ∷ rest) some = refl

-- A term in this shape is its flattened side in front notation, ..
pub in_shape_front : {t : Term} → InShape t → encode t ≡ front (flatten t)
in_shape_front last = refl
in_shape_front (first {a = a} {rest = t} shaped) =
    ap (λ (l : List ℕ). 128 ∷ a ∷ l) (in_shape_front shaped) ∙ sym (front-more a (flatten t) (flatten_some t))

-- .. and no other is.
pub front_in_shape : {t : Term} → Writable t → encode t ≡ front (flatten t) → InShape t
front_in_shape {t} writable same =
    let side = side_written (flatten t) (flatten_some t) (atoms_writable writable) in
    let is : t ≡ side.term =
    (one_reading {x = []} {y = []} writable side.writes.writable
    (ap (λ (l : List ℕ). l ++ []) (same ∙ side.writes.exactly))).0 in
    subst InShape (sym is) side.in_shape
