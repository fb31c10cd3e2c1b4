-- Laws of what a row carries.
-- Assumes nothing.
use Prim.Native.Nat.{◌≤◌}
use mathlib.Core.Path.{◌≡◌}
use mathlib.Core.Bool.{Bool, true, ◌&&◌, and_assoc}
use borrow.Author.Tests.{leb-true}
use lib.ListN.{length}
use Rattle.field.proofs.Tests.{and_left, and_right, and-true}
use Rattle.source.specs.Address.{Elements}
use Rattle.label.specs.Lines.{street}
use Rattle.csv_paf.specs.Row.{all_plain, row_texts, street_fits, carried}
use Rattle.csv_write.specs.Carried.{places_plain, premises_plain}

module _ (e : Elements) where
  -- the two parts of the texts, and the streets
  pub carried-parts : places_plain e && premises_plain e && street_fits e.thoroughfare e.descriptor
      && street_fits e.dependent e.dependent_descriptor
      ≡ carried e
  unfolding places_plain premises_plain carried
  carried-parts = simp (and_assoc, and-true)

  abbrev street-one : Bool
  street-one = street_fits e.thoroughfare e.descriptor

  abbrev street-two : Bool
  street-two = street_fits e.dependent e.dependent_descriptor

  -- both streets of what is carried are short enough
  pub streets-fit : carried e ≡ true
      → (length (street e.thoroughfare e.descriptor) ≤ 80)
      × (length (street e.dependent e.dependent_descriptor) ≤ 80)
  unfolding carried
  streets-fit is =
      let both = and_right (all_plain (row_texts e)) (street-one && street-two) is in (
        leb-true (length (street e.thoroughfare e.descriptor)) 80 (and_left street-one street-two both),
        leb-true (length (street e.dependent e.dependent_descriptor)) 80 (and_right street-one street-two both),
      )
