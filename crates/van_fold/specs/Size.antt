-- How many rows there are, and how many bytes with their ends.
-- Assumes nothing.
use Rattle.std.specs.Prelude.{ℕ, List, length}
use Rattle.label.specs.Label.{ended}
use Rattle.van_fold.specs.declared.inner.Size.{Size}

abbrev pub size : ℕ → ℕ → Size
size n b = record { rows = n; bytes = b }

abbrev pub size_of : List (List ℕ) → Size
size_of ls = size (length ls) (length (ended ls))
