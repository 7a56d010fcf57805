-- The limits that two sides must keep (document 01, "Numbers given in place of a result", 7 to 12).
use Rattle.std.specs.Prelude.{ℕ}

-- one number for each limit
pub record Limits : Type 0 where
  -- the least and the most atoms of a side
  pub least_atoms : ℕ
  pub most_atoms : ℕ
  -- the highest byte that is an atom
  pub highest_atom : ℕ
  -- the most distinct variables
  pub variables : ℕ
  -- how far a net count may be from 0
  pub net_count : ℕ
  -- the most unbalanced constants
  pub constants : ℕ
  -- the most balanced rows, and the most rows of one constant
  pub balanced_rows : ℕ
  pub constant_rows : ℕ

-- the limits as the table states them
abbrev pub limits : Limits
limits =
    record {
      least_atoms = 1;
      most_atoms = 64;
      highest_atom = 127;
      variables = 6;
      net_count = 8;
      constants = 4;
      balanced_rows = 16;
      constant_rows = 16;
    }
