-- A view as the check of a file has found it.
-- Assumes nothing.
use Rattle.std.specs.Prelude.{ℕ, ◌≤◌, ◌≡◌, true, List, length, get_or}
use Rattle.field.specs.Test.{every}
use Rattle.field.specs.Digits.{digit}
use Rattle.field.specs.Text.{part}
use Rattle.file_record.specs.Names.Point

pub record Viewed (rec : List ℕ) : Type 0 where
  pub long : Point.width ≤ length rec
  pub view : get_or rec Point.type 0 ≡ 49
  pub digits : every digit (part rec Point.organisation_key Point.letter) ≡ true
