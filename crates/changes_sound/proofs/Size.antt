-- How long a pack of a pair of files may be.
-- Assumes nothing.
use Prim.Native.Nat.{ℕ, ◌<◌}
use mathlib.Core.Path.{◌≡◌}
use mathlib.Core.List.{List}
use native.Mathlib.Omega.{arith}
use lib.ListN.{length}
use Rattle.field_outward.specs.Outward.{outward_fault}
use Rattle.file.specs.Formats.{point_format}
use Rattle.file.specs.Accepted.{Accepted}
use Rattle.file.proofs.Laws.{within-limit}
use Rattle.changes_views.proofs.Laws.{count-bound}
use Rattle.changes_source.specs.Rows.{table_shelf, table_stock, table_lookup}
use Rattle.pack.specs.Layout.{pack_of}
use Rattle.pack_sound.proofs.Size.{shelf-short, pack-small as few-small}
use Rattle.changes_pair.specs.Live.{live_in}
use Rattle.changes_pair.proofs.Live.{live-length}
use Rattle.changes_sound.proofs.Addresses.{live-fields}

-- an offset in a pack of accepted files is told from an absent one
pub pack-small : (table points code : List ℕ) → Accepted point_format points → outward_fault code ≡ 0
    → length (pack_of (table_lookup table) (live_in points code) code) < 4_294_967_295
pack-small table points code p e =
    few-small (table_stock table) (shelf-short table_shelf table) (live_in points code) (live-fields points p code) code e
    (omega (
      arith,
      live-length points code e,
      count-bound code points,
      within-limit point_format points p.is_whole,
    ))
