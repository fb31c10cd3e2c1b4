-- How many bytes a delivery point is known by.
-- Assumes nothing.
use Rattle.std.specs.Prelude.{ℕ}

abbrev pub identity_length : ℕ
identity_length = 17
