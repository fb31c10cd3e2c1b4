-- What is known of a pack's widths by its edition, and of a trailer that is there.
-- Assumes nothing.
use Rattle.std.specs.Prelude.{ℕ, ◌+◌, ◌≤◌, ◌≡◌, List, length}
use Rattle.pack.specs.Names.{postcode_width, rest_start, rest_width, point_width, trailer_width}
use Rattle.pack.specs.Opening.{edition}
use Rattle.pack_read.specs.declared.layout.Layout.{Layout}

-- the widths of an edition
pub record Laid (e : ℕ) (l : Layout) : Type 0 where
  pub edition : l.edition ≡ e
  pub rest : l.rest ≡ rest_start e
  pub point : l.point ≡ point_width e
  pub trailer : l.trailer ≡ trailer_width e

-- those of a pack's own edition
abbrev pub LaidIn : List ℕ → Layout → Type 0
LaidIn pack l = Laid (edition pack) l

-- and the pack has room for its trailer
pub record Trailed (pack : List ℕ) (l : Layout) : Type 0 where
  pub laid : LaidIn pack l
  pub room : trailer_width (edition pack) ≤ length pack

-- all bytes of a postcode and of a rest are there
abbrev pub PostcodeIn : List ℕ → ℕ → Type 0
PostcodeIn pack at = at + postcode_width ≤ length pack

abbrev pub RestIn : List ℕ → ℕ → Type 0
RestIn pack rest = rest + rest_width ≤ length pack
