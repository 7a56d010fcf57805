-- One pair written in four ways, and what the questions answer of it however it is written (document 02, R-6); a
-- pattern and a subject written in two; and a block with its two terms swapped, of which they answer otherwise.
use Rattle.std.specs.Prelude.{ℕ, List, [], ◌∷◌}
use Rattle.solver.specs.Rows.{sizes_as}
use Rattle.worked.specs.Answers.{RowsAnswers, PageAnswers, ValuesAnswers}
use Rattle.worked.specs.Example.{block_with}

-- 2·v0+c0 and v1+v2+c1
abbrev pub left : List ℕ
left = 0 ∷ 0 ∷ 64 ∷ []

abbrev pub right : List ℕ
right = 1 ∷ 2 ∷ 65 ∷ []

-- the same with the atoms of each side in another order
abbrev pub left_reordered : List ℕ
left_reordered = 0 ∷ 64 ∷ 0 ∷ []

abbrev pub right_reordered : List ℕ
right_reordered = 65 ∷ 2 ∷ 1 ∷ []

-- and with c2 added to both sides
abbrev pub left_with_c2 : List ℕ
left_with_c2 = 0 ∷ 66 ∷ 0 ∷ 64 ∷ []

abbrev pub right_with_c2 : List ℕ
right_with_c2 = 1 ∷ 2 ∷ 65 ∷ 66 ∷ []

-- three balanced rows, two of c0 and two of c1
abbrev pub its_rows : List (List ℕ)
its_rows =
    (1 ∷ 0 ∷ 2 ∷ []) ∷ (1 ∷ 1 ∷ 1 ∷ []) ∷ (1 ∷ 2 ∷ 0 ∷ [])
    ∷ (0 ∷ 0 ∷ 1 ∷ []) ∷ (0 ∷ 1 ∷ 0 ∷ [])
    ∷ (1 ∷ 0 ∷ 1 ∷ []) ∷ (1 ∷ 1 ∷ 0 ∷ []) ∷ []

-- 28 keys
abbrev pub its_keys : List ℕ
its_keys =
    2 ∷ 3 ∷ 4 ∷ 5 ∷ 6 ∷ 7
    ∷ 16777216 ∷ 16777217 ∷ 16777218 ∷ 16777219 ∷ 16777220 ∷ 16777221 ∷ 16777222 ∷ 16777223
    ∷ 268435456 ∷ 268435457 ∷ 268435458 ∷ 268435459 ∷ 268435460 ∷ 268435461 ∷ 268435462 ∷ 268435463
    ∷ 285212673 ∷ 285212674 ∷ 285212675 ∷ 285212677 ∷ 285212678 ∷ 285212679 ∷ []

-- what key 6 gives: v0=c1+n1+n2 v1=n1+n2+n2 v2=c0+c1+n1
abbrev pub values_of_six : List ℕ
values_of_six =
    0x00 ∷ 0x03 ∷ 0x41 ∷ 0xC1 ∷ 0xC2
    ∷ 0x01 ∷ 0x03 ∷ 0xC1 ∷ 0xC2 ∷ 0xC2
    ∷ 0x02 ∷ 0x03 ∷ 0x40 ∷ 0x41 ∷ 0xC1 ∷ []

-- The questions answer this of two sides.
pub record AnswersOfExample (L R : List ℕ) : Type 0 where
  pub the_rows : RowsAnswers L R (sizes_as 3 2 2 2 0 0) its_rows
  pub the_list : PageAnswers L R 32 its_keys
  pub of_key_six : ValuesAnswers L R 6 values_of_six

-- v0+v1 and v2+c0, a pattern and a subject
abbrev pub pattern : List ℕ
pattern = 0 ∷ 1 ∷ []

abbrev pub subject : List ℕ
subject = 2 ∷ 64 ∷ []

-- the same reordered and with c1 added
abbrev pub pattern_with_c1 : List ℕ
pattern_with_c1 = 1 ∷ 65 ∷ 0 ∷ []

abbrev pub subject_with_c1 : List ℕ
subject_with_c1 = 64 ∷ 2 ∷ 65 ∷ []

-- v0 and v1+c0, as block 0
abbrev pub one_way : List ℕ
one_way = block_with (0x00 ∷ 0x00 ∷ 0x01 ∷ 0x03 ∷ 0x00 ∷ 0x80 ∷ 0x01 ∷ 0x40 ∷ []) (0xFF ∷ 0x3A ∷ [])

-- v1+c0 and v0, as block 0
abbrev pub other_way : List ℕ
other_way = block_with (0x00 ∷ 0x00 ∷ 0x03 ∷ 0x01 ∷ 0x80 ∷ 0x01 ∷ 0x40 ∷ 0x00 ∷ []) (0xFF ∷ 0x3A ∷ [])
