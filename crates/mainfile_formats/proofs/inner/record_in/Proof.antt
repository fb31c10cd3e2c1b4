-- `mainfile_formats::inner::record_in` meets its contract. Assumes nothing.
use borrow.Author.Rules.{rules}
use Prim.Native.Nat.{◌<◌, ◌/◌}
use native.Mathlib.Omega.{arith}
use lib.ListN.{length}
use Rattle.mainfile_record.specs.Locality as MainLocality
use Rattle.mainfile_record.specs.Text as MainText
use Rattle.mainfile_record.specs.Organisation as MainOrganisation
use Rattle.mainfile_record.specs.Address as MainAddress
use Rattle.mainfile_formats.proofs.inner.record_in.Statement.{statement}
use Rattle.mainfile_formats.proofs.inner.record_in.Tie as tie

whole-record-requires : tie.Need-whole_record-requires
whole-record-requires c κs =
    let s = c.before.before in
    let has : s.args.i < length s.args.file.now / MainLocality.width = rw c.in-Localities.is at s.requires in
    (has, omega arith)

whole-record-requires-2 : tie.Need-whole_record-requires-in-Thoroughfares
whole-record-requires-2 c κs =
    let s = c.before.before in
    let has : s.args.i < length s.args.file.now / MainText.thoroughfare_width = rw c.in-Thoroughfares.is at s.requires in
    (has, omega arith)

whole-record-requires-3 : tie.Need-whole_record-requires-in-Descriptors
whole-record-requires-3 c κs =
    let s = c.before.before in
    let has : s.args.i < length s.args.file.now / MainText.descriptor_width = rw c.in-Descriptors.is at s.requires in
    (has, omega arith)

whole-record-requires-4 : tie.Need-whole_record-requires-in-Buildings
whole-record-requires-4 c κs =
    let s = c.before.before in
    let has : s.args.i < length s.args.file.now / MainText.building_width = rw c.in-Buildings.is at s.requires in
    (has, omega arith)

whole-record-requires-5 : tie.Need-whole_record-requires-in-SubBuildings
whole-record-requires-5 c κs =
    let s = c.before.before in
    let has : s.args.i < length s.args.file.now / MainText.sub_building_width = rw c.in-SubBuildings.is at s.requires in
    (has, omega arith)

whole-record-requires-6 : tie.Need-whole_record-requires-in-Organisations
whole-record-requires-6 c κs =
    let s = c.before.before in
    let has : s.args.i < length s.args.file.now / MainOrganisation.width = rw c.in-Organisations.is at s.requires in
    (has, omega arith)

whole-record-requires-7 : tie.Need-whole_record-requires-in-Addresses
whole-record-requires-7 c κs =
    let s = c.before.before in
    let has : s.args.i < length s.args.file.now / MainAddress.width = rw c.in-Addresses.is at s.requires in
    (has, omega arith)

returns : tie.Need-returns-in-Localities
returns c = rw c.in-Localities.is c.whole_record.ensures

returns-2 : tie.Need-returns-in-Thoroughfares
returns-2 c = rw c.in-Thoroughfares.is c.whole_record-in-Thoroughfares.ensures

returns-3 : tie.Need-returns-in-Descriptors
returns-3 c = rw c.in-Descriptors.is c.whole_record-in-Descriptors.ensures

returns-4 : tie.Need-returns-in-Buildings
returns-4 c = rw c.in-Buildings.is c.whole_record-in-Buildings.ensures

returns-5 : tie.Need-returns-in-SubBuildings
returns-5 c = rw c.in-SubBuildings.is c.whole_record-in-SubBuildings.ensures

returns-6 : tie.Need-returns-in-Organisations
returns-6 c = rw c.in-Organisations.is c.whole_record-in-Organisations.ensures

returns-7 : tie.Need-returns-in-Addresses
returns-7 c = rw c.in-Addresses.is c.whole_record-in-Addresses.ensures

pub record_in_spec : {M : Type 1} → statement M
record_in_spec =
    tie.close
    (tie.spec
    (search rules)
    whole-record-requires
    (search rules)
    whole-record-requires-2
    (search rules)
    whole-record-requires-3
    (search rules)
    whole-record-requires-4
    (search rules)
    whole-record-requires-5
    (search rules)
    whole-record-requires-6
    (search rules)
    whole-record-requires-7
    returns
    returns-2
    returns-3
    returns-4
    returns-5
    returns-6
    returns-7)
