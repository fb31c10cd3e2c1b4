-- The texts of a row in two parts, as code tests them.
-- Assumes nothing.
use Rattle.std.specs.Prelude.{Bool, ◌&&◌}
use Rattle.source.specs.Address.{Elements}
use Rattle.csv_paf.specs.Row.{plain}

unfoldable pub places_plain : Elements → Bool
places_plain e =
    plain e.town
    && plain e.dependent_locality
    && plain e.double_locality
    && plain e.thoroughfare
    && plain e.descriptor
    && plain e.dependent
    && plain e.dependent_descriptor

unfoldable pub premises_plain : Elements → Bool
premises_plain e =
    plain e.building && plain e.sub_building && plain e.box && plain e.department && plain e.organisation
