-- A number of nine digits, as it is compared with those of records.
-- Assumes nothing.
use Rattle.std.specs.Prelude.{ℕ, ◌+◌, ◌/◌, ◌%◌, ◌<◌, ◌≡◌}
use Rattle.field_word.specs.Word.{weight, digits_of}

-- its first digit as a byte, and the weight of the others
pub record Nine (r first others : ℕ) : Type 0 where
  pub small : r < 1_000_000_000
  pub is_first : first ≡ 48 + r / 100_000_000
  pub are_others : others ≡ weight (digits_of 8 (r % 100_000_000))
