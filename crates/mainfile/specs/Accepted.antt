-- A set whose files are accepted, each by its format.
-- Assumes nothing.
use Rattle.std.specs.Prelude.{List}
use Rattle.file.specs.Accepted.{Accepted}
use Rattle.file.specs.Mainfile as Format
use Rattle.mainfile.specs.Set.{Set}

-- the five files of rows
pub record AcceptedRows (s : Set) : Type 0 where
  pub localities : Accepted Format.localities s.localities
  pub thoroughfares : Accepted Format.thoroughfares s.thoroughfares
  pub descriptors : Accepted Format.descriptors s.descriptors
  pub buildings : Accepted Format.buildings s.buildings
  pub sub_buildings : Accepted Format.sub_buildings s.sub_buildings

-- all seven
pub record AcceptedSet (s : Set) : Type 0 where
  pub rows : AcceptedRows s
  pub organisations : Accepted Format.organisations s.organisations
  pub addresses : Accepted Format.addresses s.addresses
