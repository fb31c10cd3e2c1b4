-- A line in a buffer of its own.
-- Assumes nothing.
use Rattle.std.specs.Prelude.{ℕ, ◌≤◌, ◌≡◌, List, length, take, drop, replicate}
use Rattle.item_write.specs.declared.Line.{Line}

-- the front of the buffer is this text, and behind it there are zeros: so each text has one line
pub record Holds (line : Line) (text : List ℕ) : Type 0 where
  pub within : line.len ≤ length line.bytes
  pub is : take line.len line.bytes ≡ text
  pub rest : drop line.len line.bytes ≡ drop (length text) (replicate 80 0)
  pub short : length text ≤ 80
