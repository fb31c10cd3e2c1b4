-- The padding of a text, looked for from its end.
-- Assumes nothing.
use Rattle.std.specs.Prelude.{ℕ, ◌+◌, ◌-◌, ◌≤◌, ◌≡◌, true, false, List}
use Rattle.field.specs.Text.{blank, part}

-- from `from` up to the end there are spaces, and of the `near` bytes before it, eight and no more from the end, one is none
pub record Padded (rec : List ℕ) (end near from : ℕ) : Type 0 where
  pub before : from ≤ end
  pub room : end + near ≤ from + 8
  pub spaces : blank (part rec from end) ≡ true
  pub other : blank (part rec (from - near) from) ≡ false
