-- An accepted pair of files is what a pack can be cut from, where no packed view is refused.
-- Assumes nothing.
use Prim.Native.Nat.{ℕ}
use mathlib.Core.Path.{◌≡◌}
use mathlib.Core.List.{List}
use Rattle.field_outward.specs.Outward.{outward_fault}
use Rattle.file.specs.Formats.{table_format, point_format}
use Rattle.file.specs.Accepted.{Accepted}
use Rattle.changes_source.specs.Rows.{table_lookup}
use Rattle.pack.specs.Cutting.{first_bad}
use Rattle.pack.specs.Sound.{Sound}
use Rattle.changes_pair.specs.Live.{live_in}
use Rattle.changes_sound.proofs.Rows.{rows-sound}
use Rattle.changes_sound.proofs.Addresses.{addresses-sound}
use Rattle.changes_sound.proofs.Size.{pack-small}
use Rattle.refusal.specs.Verdict.{fine}

pub pair-sound : (table points code : List ℕ) → Accepted table_format table → Accepted point_format points
    → outward_fault code ≡ 0
    → first_bad (table_lookup table) (live_in points code) ≡ fine
    → Sound (table_lookup table) (live_in points code) code
pair-sound table points code t p e fine =
    record {
      of_rows = rows-sound table t;
      of_addresses = addresses-sound (table_lookup table) points code p fine;
      of_code = e;
      small = pack-small table points code p e;
    }
