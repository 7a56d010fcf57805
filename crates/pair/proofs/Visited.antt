-- Gathering the atoms that pass a test, with two numbers for each, one atom at a time; and that the test by
-- the tables finds the variables and the unbalanced constants of the sides.
use mathlib.Core.Path.{◌≡◌, sym, ap, subst, ◌∙◌, fun_ext}
use mathlib.Core.Bool.{Bool, true, false}
use mathlib.Core.List.{List, [], ◌∷◌, ◌++◌, map, append-nil}
use Prim.Native.Nat.{ℕ, suc, ◌+◌, ◌-◌, ◌≤◌, ◌<◌}
use native.Mathlib.Omega.{arith}
use lib.ListN.{length, get_or, set, replicate, length-map}
use lib.Seq.{set-append_seam, append_snoc}
use Rattle.ac.specs.Limits.{limits}
use Rattle.ac.specs.Lists.{below, filter}
use Rattle.ac.specs.Pair.{Mode, atoms, count}
use Rattle.ac.proofs.Members.{map_append}
use Rattle.pair.specs.Counts.{Occurrences, CountsOf}
use Rattle.pair.specs.Gathered.{excess, padded, HeldIfRoom, is_of, all_of, Adds, Gathers}
use Rattle.pair.specs.declared.Gathered.{Gathered}
use Rattle.pair.specs.declared.counting.AtomCounts.{AtomCounts}
use Rattle.pair.specs.declared.gathering.AtomKind.{AtomKind}
use Rattle.pair.specs.declared.gathering.AtomKind.TheVariants.{Variable, Constant}
use Rattle.pair.proofs.Lists.{filter-below, filter_same, length_snoc}

-- where there is room for the list, it stands at the front of the places
abbrev Stored : List ℕ → List ℕ → Type 0
Stored list places = length list ≤ limits.variables → places ≡ padded list

-- one more, stored behind the list
stored_more : (list : List ℕ) {places places' : List ℕ} (x : ℕ)
    → (length list < limits.variables → places' ≡ set places (length list) x)
    → Stored list places → Stored (list ++ x ∷ []) places'
stored_more list x put stored fits =
    put (omega (arith, longer))
    ∙ ap (λ (l : List ℕ). set l (length list) x)
    (stored (omega (arith, longer)) ∙ ap (λ (n : ℕ). list ++ replicate n 0) room)
    ∙ set-append_seam list 0 (replicate left 0) x
    ∙ sym (append_snoc list x (replicate left 0))
  where
    longer : length (list ++ x ∷ []) ≡ length list + 1
    longer = length_snoc list x

    left : ℕ
    left = limits.variables - length (list ++ x ∷ [])

    room : limits.variables - length list ≡ suc left
    room = omega (arith, longer, fits)

-- the atoms below one are visited: how many pass, and where there is room they are stored, with their two numbers
pub record Visited (p : ℕ → Bool) (f g : ℕ → ℕ) (atom : ℕ) (gathered : Gathered) : Type 0 where
  pub how_many : gathered.count ≡ length (filter p (below atom))
  pub few : gathered.count ≤ atom
  pub the_atoms : Stored (filter p (below atom)) gathered.atoms
  pub left_numbers : Stored (map f (filter p (below atom))) gathered.left
  pub right_numbers : Stored (map g (filter p (below atom))) gathered.right

module _ (p : ℕ → Bool) (f g : ℕ → ℕ) where
  module _ (atom : ℕ) {gathered : Gathered} (so_far : Visited p f g atom gathered) where
    abbrev found : List ℕ
    found = filter p (below atom)

    -- an atom that passes is stored, with its two numbers
    pub visited_more : {left right : ℕ} {gathered' : Gathered} → p atom ≡ true → left - right ≡ f atom → right - left ≡ g atom
        → Adds atom left right gathered gathered' → Visited p f g (atom + 1) gathered'
    visited_more passes left_number right_number added =
        record {
          how_many =
              rw (filter-below, passes) (omega (arith, added.how_many, so_far.how_many, length_snoc found atom));
          few = omega (arith, so_far.few, added.how_many);
          the_atoms = rw (filter-below, passes)
              (stored_more found atom (rw so_far.how_many at added.the_atom) so_far.the_atoms);
          left_numbers = rw (filter-below, passes) (with_number f (rw left_number at added.left_part) so_far.left_numbers);
          right_numbers = rw (filter-below, passes) (with_number g (rw right_number at added.right_part) so_far.right_numbers);
        }
      where
        with_number : (h : ℕ → ℕ) {places places' : List ℕ}
            → (gathered.count < limits.variables → places' ≡ set places gathered.count (h atom)) → Stored (map h found) places
            → Stored (map h (found ++ atom ∷ [])) places'
        with_number h put stored = rw map_append
            (stored_more (map h found) (h atom) (rw (length-map, ← so_far.how_many) put) stored)

    -- one that does not pass is left out
    pub visited_skip : p atom ≡ false → Visited p f g (atom + 1) gathered
    visited_skip passes =
        record {
          how_many = rw (filter-below, passes, append-nil) so_far.how_many;
          few = omega (arith, so_far.few);
          the_atoms = rw (filter-below, passes, append-nil) so_far.the_atoms;
          left_numbers = rw (filter-below, passes, append-nil) so_far.left_numbers;
          right_numbers = rw (filter-below, passes, append-nil) so_far.right_numbers;
        }

-- by the tables: whether an atom is one of the kind, and by how much one count exceeds the other
abbrev pub is_counted : AtomKind → AtomCounts → ℕ → Bool
is_counted kind counts atom =
    is_of kind (get_or counts.moving atom false) (get_or counts.left atom 0) (get_or counts.right atom 0)

abbrev pub exceeds : List ℕ → List ℕ → ℕ → ℕ
exceeds table other atom = get_or table atom 0 - get_or other atom 0

-- the counts in the tables are those of the sides
exceeds_excess : {side other table table' : List ℕ} → Occurrences side table → Occurrences other table'
    → exceeds table table' ≡ excess side other
exceeds_excess in_side in_other = fun_ext (λ a. rw (in_side.entries a, in_other.entries a))

module _ {M : Mode} {L R : List ℕ} {counts : AtomCounts} (counted : CountsOf M L R counts) where
  counted_is : (kind : AtomKind)
      → filter (is_counted kind counts) atoms ≡ filter (λ a. is_of kind (M.moves a) (count a L) (count a R)) atoms
  counted_is kind =
      filter_same (is_counted kind counts) (λ a. is_of kind (M.moves a) (count a L) (count a R)) atoms
      (λ a. rw (counted.moves a, counted.on_left.entries a, counted.on_right.entries a))

  -- so those of the kind by the tables are those of the sides
  counted_all : (kind : AtomKind) → filter (is_counted kind counts) atoms ≡ all_of kind M L R
  counted_all Variable = counted_is Variable
  counted_all Constant = counted_is Constant

-- once all atoms are visited, those of the kind are gathered
pub visited_gathers : (kind : AtomKind) (counts : AtomCounts) (gathered : Gathered)
    → Visited (is_counted kind counts) (exceeds counts.left counts.right)
    (exceeds counts.right counts.left) 128 gathered
    → Gathers kind counts gathered
visited_gathers kind counts gathered visited M L R counted =
    subst (λ (found : List ℕ). HeldIfRoom L R found gathered) (counted_all counted kind)
    (record {
      how_many = visited.how_many;
      held = λ fits. record {
        how_many = visited.how_many;
        the_atoms = visited.the_atoms fits;
        left_parts = visited.left_numbers (rw length-map fits)
            ∙ numbers (exceeds_excess counted.on_left counted.on_right);
        right_parts = visited.right_numbers (rw length-map fits)
            ∙ numbers (exceeds_excess counted.on_right counted.on_left);
      };
    })
  where
    numbers : {f g : ℕ → ℕ} → f ≡ g → padded (map f (filter (is_counted kind counts) atoms))
        ≡ padded (map g (filter (is_counted kind counts) atoms))
    numbers same = ap (λ (h : ℕ → ℕ). padded (map h (filter (is_counted kind counts) atoms))) same
