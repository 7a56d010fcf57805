-- Which numbers a question gives, and in which order (document 01, "Numbers given in place of a result"):
-- "Order: 16 first, then by number. Read gives 1 to 6 and 16; Rows 7 to 12 and 16; Page 7 to 16; Values 7 to
-- 14, 16 and 17. None is given otherwise." 17 is in no list, since no value is too long (document 02, R-9). Matching has
-- 19 after 8 (document 02, R-4); where 19 is never given, a list with it is as one without it
-- (`whole/proofs/Shared.antt`).
use Rattle.std.specs.Prelude.{ℕ, List, [], ◌∷◌, ◌++◌}

-- the numbers that a block decides, whatever is lent
abbrev pub block_numbers : List ℕ
block_numbers = 1 ∷ 2 ∷ 3 ∷ 4 ∷ 5 ∷ 6 ∷ []

-- the numbers that the two sides decide: those that are settled before their atoms are counted, ..
abbrev pub uncounted_numbers : List ℕ
uncounted_numbers = 7 ∷ 8 ∷ []

-- .. the one that stands after them, where no variable may stand on both sides (document 02, R-4), ..
abbrev pub separate_numbers : List ℕ
separate_numbers = 19 ∷ []

-- .. those that the counts settle, ..
abbrev pub counted_numbers : List ℕ
counted_numbers = 9 ∷ 10 ∷ 11 ∷ []

-- .. and the one that the rows settle
abbrev pub row_limit_numbers : List ℕ
row_limit_numbers = 12 ∷ []

-- the numbers that are settled before there are rows
abbrev pub parting_numbers : List ℕ
parting_numbers = uncounted_numbers ++ (separate_numbers ++ counted_numbers)

-- all numbers that the two sides decide
abbrev pub sides_numbers : List ℕ
sides_numbers = parting_numbers ++ row_limit_numbers

-- the numbers that the list decides for a key, and for a beginning
abbrev pub key_numbers : List ℕ
key_numbers = 13 ∷ 14 ∷ []

abbrev pub beginning_numbers : List ℕ
beginning_numbers = key_numbers ++ (15 ∷ [])

-- the number that a variable's side decides, where a block is written (document 02, R-3)
abbrev pub side_numbers : List ℕ
side_numbers = 18 ∷ []

-- the questions' numbers, in order
abbrev pub read_numbers : List ℕ
read_numbers = 16 ∷ block_numbers

abbrev pub rows_numbers : List ℕ
rows_numbers = 16 ∷ sides_numbers

abbrev pub page_numbers : List ℕ
page_numbers = 16 ∷ (sides_numbers ++ beginning_numbers)

abbrev pub values_numbers : List ℕ
values_numbers = 16 ∷ (sides_numbers ++ key_numbers)

-- Write: "7, 8, then 18 for a variable on the wrong side; 16 first" (document 02, R-3)
abbrev pub write_numbers : List ℕ
write_numbers = 16 ∷ (uncounted_numbers ++ side_numbers)

-- Count: "Refusals: 7 to 12" (document 02, R-7); no buffer is lent, so 16 is none of them
abbrev pub count_numbers : List ℕ
count_numbers = sides_numbers
