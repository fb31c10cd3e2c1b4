-- Document 01's run, computed from the definitions: its two files give the 171 bytes of the pack for AB1. (The label of
-- view 1 and the refusal of view 2 are computed in `report_worked`, `Worked.one-run`.)
-- Assumes nothing.
use mathlib.Core.Path.{◌≡◌, refl}
use lib.ListN.{replicate}
use Rattle.refusal.specs.Outcome.{said}
use Rattle.changes_source.specs.Addresses.{addresses_in}
use Rattle.label.specs.Label.{room_outcome}
use Rattle.pack.specs.Sectors.{sector_counts}
use Rattle.pack.specs.Layout.{entries_of, pack_bytes, pack_of}
use Rattle.pack.specs.Cutting.{cut_outcome, pack_built}
use Rattle.pack.proofs.Worked.{code, worked}
use Rattle.report_worked.proofs.Worked.{table, respelt, points, run-computes}
use Rattle.changes_pair.specs.Pair.{pair_of}
use Rattle.std.specs.Prelude.{Ok}

-- what a pack is computed from
computes : Unit {0}
unfolding run-computes addresses_in room_outcome entries_of pack_bytes pack_of sector_counts cut_outcome pack_built
computes = tt

pub the-pack : pack_built (pair_of table points) code (replicate 171 0) ≡ said (Ok 171) worked
unfolding computes
the-pack = refl

-- document 02, No. 3: with the building respelt, its last spelling stands there once and the first not at all
pub respelt-pack : pack_built (pair_of respelt points) code (replicate 171 0) ≡ said (Ok 171) worked
unfolding computes
respelt-pack = refl
