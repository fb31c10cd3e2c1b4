-- Room for the trailer of a pack.
-- Assumes nothing.
use Rattle.std.specs.Prelude.{ℕ, ◌+◌, ◌*◌, ◌^◌, ◌≤◌, ◌<◌, List, length}
use Rattle.pack.specs.Names.{newest, point_width, trailer_width}
use Rattle.pack.specs.Layout.{trailer_bytes}
use Rattle.build.specs.Bytes.{counts_at_in}

-- the length that the trailer says is a number, the points stand before a place, and its bytes fit behind it
abbrev pub TrailerFits : (rows start count : ℕ) → List ℕ → ℕ → List ℕ → Type 0
TrailerFits rows start count code at out =
    (start + point_width newest * count + trailer_width newest < 2 ^ 64)
    × ((start + point_width newest * count ≤ at)
    × (at + length (trailer_bytes newest rows start count code (counts_at_in out count start)) ≤ length out))
