-- Each text that an address of an accepted set is printed from has bytes of a text only, so that none begins with a
-- small letter; its number has four digits at most, and its outward code is well formed.
-- Assumes nothing.
use Rattle.source.specs.Same.{AllOf}
use Rattle.mainfile.specs.Set.{Set}
use Rattle.mainfile.specs.Rows.{set_lookup}
use Rattle.mainfile.specs.Addresses.{addresses_in}
use Rattle.mainfile.specs.Accepted.{AcceptedSet}
use Rattle.pack_sound.proofs.Elements.{Printed, all-printed}
use Rattle.mainfile_sound.proofs.Rows.{rows-sound}
use Rattle.mainfile_sound.proofs.Addresses.{views-fields}

pub views-printed : (s : Set) → AcceptedSet s → AllOf (Printed (set_lookup s)) (addresses_in s)
views-printed s ok = all-printed (set_lookup s) (rows-sound s ok.rows) (addresses_in s) (views-fields s ok)
