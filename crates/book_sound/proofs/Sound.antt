-- A book and an accepted table file are what a pack can be cut from, where no packed delivery point is refused.
-- Assumes nothing.
use Prim.Native.Nat.{ℕ}
use mathlib.Core.Path.{◌≡◌}
use mathlib.Core.List.{List}
use Rattle.field_outward.specs.Outward.{outward_fault}
use Rattle.file.specs.Formats.{table_format}
use Rattle.file.specs.Accepted.{Accepted}
use Rattle.ask.specs.Source.{in_code}
use Rattle.changes_source.specs.Rows.{table_lookup}
use Rattle.pack.specs.Cutting.{first_bad}
use Rattle.pack.specs.Sound.{Sound}
use Rattle.changes_sound.proofs.Rows.{rows-sound}
use Rattle.book.proofs.Good.{BookFacts}
use Rattle.book_source.specs.Source.{addresses_of}
use Rattle.book_sound.proofs.Addresses.{addresses-sound}
use Rattle.book_sound.proofs.Size.{pack-small}
use Rattle.refusal.specs.Verdict.{fine}

pub book-sound : (book table code : List ℕ) → BookFacts book → Accepted table_format table → outward_fault code ≡ 0
    → first_bad (table_lookup table) (in_code code (addresses_of book)) ≡ fine
    → Sound (table_lookup table) (in_code code (addresses_of book)) code
book-sound book table code facts t e fine =
    record {
      of_rows = rows-sound table t;
      of_addresses = addresses-sound (table_lookup table) book code facts fine;
      of_code = e;
      small = pack-small table book code facts e;
    }
