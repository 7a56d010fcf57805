-- What it means to put bytes behind those that a lent buffer is filled with.
use Rattle.std.specs.Prelude.{ℕ, ◌+◌, ◌≡◌, ◌≤◌, List, length}
use Rattle.buffer.specs.Put.{Put}
use Rattle.buffer.specs.declared.filled.Filled.{Filled}

-- so many bytes have room behind them
abbrev pub HasRoomFor : Filled → ℕ → Type 0
HasRoomFor filled count = filled.end + count ≤ length filled.buffer.now

-- The bytes stand behind them now, in the same buffer, which is filled up to the place after them.
pub record Puts (before : Filled) (bytes : List ℕ) (after : Filled) : Type 0 where
  pub put : Put before.buffer.now before.end bytes after.end after.buffer.now
  pub same : after.buffer.ghost_name ≡ before.buffer.ghost_name

-- At most so many bytes are put behind them, in the same buffer.
pub record PutsAtMost (most : ℕ) (before after : Filled) : Type 0 where
  pub within : after.end ≤ before.end + most
  pub long : length after.buffer.now ≡ length before.buffer.now
  pub same : after.buffer.ghost_name ≡ before.buffer.ghost_name
