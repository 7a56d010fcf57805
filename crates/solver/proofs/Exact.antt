-- What stands in the buffer after Rows are exactly the rows of the pair, among all vectors.
use Prim.Native.Nat.{ℕ, zero, suc, ◌*◌, ◌≤◌, ◌<◌}
use native.Mathlib.Omega.{arith}
use mathlib.Core.Path.{◌≡◌, refl, sym, ap, ap₂, subst, ◌∙◌}
use mathlib.Core.List.Memᴰ
use mathlib.Core.List.{List, [], ◌∷◌, ◌++◌, map, append_assoc, Memᴰ, head-eq_of_cons-eq, tail-eq_of_cons-eq, nil≢cons}
use lib.ListN.{length, get_or, take, drop, length-map}
use lib.Seq.{take_at, drop_at}
use Rattle.ac.specs.Lists.{flat_map, receives}
use Rattle.ac.specs.Pair.{Mode, variables, unbalanced}
use Rattle.ac.specs.Rows.{Exactly, RowOf, Group, Groups, GroupsOf}
use Rattle.ac.specs.Limits.{limits}
use Rattle.numbers.specs.First.{NoneOf}
use Rattle.numbers.specs.Order.{rows_numbers}
use Rattle.numbers.specs.Outcome.{given, is_given}
use Rattle.numbers.proofs.Carried.{none_given, its_member}
use Rattle.pair.specs.Given.{many_constants}
use Rattle.pair.proofs.Telling.{at_most}
use Rattle.equation.specs.Flat.{rows_of}
use Rattle.solver.specs.Rows.{RowsGiven, of_the_sides, GroupSizes, size, sizes_of, all_rows, bytes_of, RowsPromise}
use Rattle.solver.specs.Rows as its
use Rattle.solver.specs.Cut.{group_sizes, cut}
use Rattle.table.specs.Groups.{RowIn}
use Rattle.ac.proofs.Members.{flat_map_append}
use Rattle.solver.proofs.Putting.{AllOf, length_bytes}

-- Bytes of rows, cut again.

-- rows of so many bytes each
rows_again : (places : ℕ) (rows : List (List ℕ)) (rest : List ℕ) → AllOf places rows
    → rows_of places (length rows) (bytes_of rows ++ rest) ≡ rows
rows_again places [] rest long = refl
rows_again places (row ∷ rows) rest long =
    ap (rows_of places (suc (length rows))) (append_assoc row (bytes_of rows) rest)
    ∙ ap₂ {C = List (List ℕ)} (λ r rs. r ∷ rs) (take_at row (bytes_of rows ++ rest) places its)
    (ap (rows_of places (length rows)) (drop_at row (bytes_of rows ++ rest) places its)
    ∙ rows_again places rows rest (λ r m. long r (Memᴰ.tail m)))
  where
    its : length row ≡ places
    its = long row (Memᴰ.head refl)

-- groups of such rows
cut_again : (places : ℕ) (gs : List (List (List ℕ))) (rest : List ℕ)
    → ((rows : List (List ℕ)) → Memᴰ rows gs → AllOf places rows)
    → cut places (map length gs) (bytes_of (flat_map (λ rows. rows) gs) ++ rest) ≡ gs
cut_again places [] rest long = refl
cut_again places (rows ∷ gs) rest long =
    ap (cut places (length rows ∷ map length gs)) split
    ∙ ap₂ {C = List (List (List ℕ))} (λ r rs. r ∷ rs) (rows_again places rows others its)
    (ap (cut places (map length gs)) (drop_at (bytes_of rows) others (length rows * places)
    (length_bytes places rows its))
    ∙ cut_again places gs rest (λ r m. long r (Memᴰ.tail m)))
  where
    others : List ℕ
    others = bytes_of (flat_map (λ rs. rs) gs) ++ rest

    its : AllOf places rows
    its = long rows (Memᴰ.head refl)

    split : bytes_of (rows ++ flat_map (λ rs. rs) gs) ++ rest ≡ bytes_of rows ++ others
    split =
        ap (λ l. l ++ rest) (flat_map_append (λ row. row) rows (flat_map (λ rs. rs) gs))
        ∙ append_assoc (bytes_of rows) (bytes_of (flat_map (λ rs. rs) gs)) rest

-- The groups of a pair as lists of rows.

-- the rows of each group, the balanced ones first
abbrev rows_of_each : Groups → List (List (List ℕ))
rows_of_each G = G.balanced ∷ map (λ (g : Group). g.rows) G.constants

-- all rows are those of each group
all_rows_each : (gs : List Group)
    → flat_map (λ (g : Group). g.rows) gs ≡ flat_map (λ rows. rows) (map (λ (g : Group). g.rows) gs)
all_rows_each [] = refl
all_rows_each (g ∷ gs) = ap (λ l. g.rows ++ l) (all_rows_each gs)

-- and so are the sizes
sizes_each : (gs : List Group)
    → map (λ (g : Group). length g.rows) gs ≡ map length (map (λ (g : Group). g.rows) gs)
sizes_each [] = refl
sizes_each (g ∷ gs) = ap (λ l. length g.rows ∷ l) (sizes_each gs)

-- of at most four numbers, as many as there are, by their places
up_to_four : (ns : List ℕ) → length ns ≤ limits.constants
    → take (length ns) (get_or ns 0 0 ∷ get_or ns 1 0 ∷ get_or ns 2 0 ∷ get_or ns 3 0 ∷ []) ≡ ns
up_to_four [] few = refl
up_to_four (a ∷ []) few = refl
up_to_four (a ∷ b ∷ []) few = refl
up_to_four (a ∷ b ∷ c ∷ []) few = refl
up_to_four (a ∷ b ∷ c ∷ d ∷ []) few = refl
up_to_four (a ∷ b ∷ c ∷ d ∷ e ∷ ns) few = absurd (omega arith)

-- each constant's group by its place
constant_at : (M : Mode) (L R : List ℕ) (gs : List Group) (cs : List ℕ) → map (λ (g : Group). g.constant) gs ≡ cs
    → ((g : Group) → Memᴰ g gs → Exactly (RowOf M L R g.constant) g.rows) → (i : ℕ) → i < length cs
    → Exactly (RowOf M L R (get_or cs i 0)) (get_or (map (λ (g : Group). g.rows) gs) i [])
constant_at M L R gs [] same exact i h = absurd (omega arith)
constant_at M L R [] (c ∷ cs) same exact i h = absurd (nil≢cons same)
constant_at M L R (g ∷ gs) (c ∷ cs) same exact zero h =
    subst (λ d. Exactly (RowOf M L R d) g.rows) (head-eq_of_cons-eq same) (exact g (Memᴰ.head refl))
constant_at M L R (g ∷ gs) (c ∷ cs) same exact (suc i) h =
    constant_at M L R gs cs (tail-eq_of_cons-eq same) (λ x m. exact x (Memᴰ.tail m)) i (omega arith)

module _ {M : Mode} {L R : List ℕ} {G : Groups} (of : GroupsOf M L R G) where
  exact_each : (g : ℕ) → g ≤ length (unbalanced M L R) → Exactly (RowIn M L R g) (get_or (rows_of_each G) g [])
  exact_each zero within = of.balanced_rows
  exact_each (suc g) within =
      constant_at M L R G.constants (unbalanced M L R) of.the_constants of.constant_rows g within

  -- every row is a vector
  vectors_each : (rows : List (List ℕ)) → Memᴰ rows (rows_of_each G) → AllOf (length (variables M L R)) rows
  vectors_each rows (Memᴰ.head e) row m = (of.balanced_rows.only row (subst (Memᴰ row) e m)).vector
  vectors_each rows (Memᴰ.tail member) row m =
      let group = Memᴰ.of_map (λ (g : Group). g.rows) G.constants member in
      ((of.constant_rows group.0 group.1).only row (subst (Memᴰ row) (sym group.2) m)).vector

  -- what is cut from the buffer are the groups' rows
  cut_buffer : length G.constants ≤ limits.constants → (out : List ℕ)
      → cut (length (variables M L R)) (group_sizes (sizes_of G)) (receives out (bytes_of (all_rows G))) ≡ rows_of_each G
  cut_buffer few out =
      ap₂ (cut (length (variables M L R))) sizes
      (ap (λ rows. bytes_of (G.balanced ++ rows) ++ rest) (all_rows_each G.constants))
      ∙ cut_again (length (variables M L R)) (rows_of_each G) rest vectors_each
    where
      rest : List ℕ
      rest = drop (length (bytes_of (all_rows G))) out

      each : List ℕ
      each = map (λ (g : Group). length g.rows) G.constants

      how_many : length each ≡ length G.constants
      how_many = length-map G.constants (λ (g : Group). length g.rows)

      sizes : group_sizes (sizes_of G) ≡ map length (rows_of_each G)
      sizes =
          ap (λ ns. length G.balanced ∷ ns)
          (ap (λ n. take n (size G 0 ∷ size G 1 ∷ size G 2 ∷ size G 3 ∷ [])) (sym how_many)
          ∙ up_to_four each (omega (arith, how_many)) ∙ sizes_each G.constants)

-- where no number is given there are at most four unbalanced constants
few_constants : {M : Mode} {L R out : List ℕ} {G : Groups} → NoneOf (RowsGiven M L R out) rows_numbers
    → GroupsOf M L R G → length G.constants ≤ limits.constants
few_constants {M} {L} {R} {G = G} none of =
    let few : length (unbalanced M L R) ≤ limits.constants =
    at_most _ _ (λ many. none_given none (its_member rows_numbers refl) (of_the_sides (many_constants many))) in
    omega (arith, ap length of.the_constants, length-map G.constants (λ (g : Group). g.constant))

-- After Rows has answered, the buffer cut by the sizes has the balanced rows as group 0 and those of each
-- unbalanced constant, ascending, as the groups after it: exactly the vectors that are rows by the
-- definition, which has no bound, and in ascending order.
pub buffer_exact : {M : Mode} {L R out after : List ℕ} {sizes : GroupSizes}
    → RowsPromise M L R out (given sizes) after
    → (g : ℕ) → g ≤ length (unbalanced M L R)
    → Exactly (RowIn M L R g) (get_or (cut (length (variables M L R)) (group_sizes sizes) after) g [])
buffer_exact {M} {L} {R} {out} (is_given none (its.rows of)) g within =
    subst (λ gs. Exactly (RowIn M L R g) (get_or gs g [])) (sym (cut_buffer of (few_constants none of) out))
    (exact_each of g within)
