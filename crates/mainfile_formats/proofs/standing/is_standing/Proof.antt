-- `mainfile_formats::standing::is_standing` meets its contract. Assumes nothing.
use borrow.Author.Rules.{rules}
use mathlib.Core.Path.{refl}
use native.Mathlib.Omega.{arith}
use lib.Dec.{lit≤}
use Rattle.file.specs.Walk.{Walk}
use Rattle.file.specs.Mainfile.{thoroughfares, buildings, sub_buildings}
use Rattle.file.proofs.Laws.{judged-fine}
use Rattle.mainfile_formats.proofs.standing.is_standing.Statement.{statement}
use Rattle.mainfile_formats.proofs.standing.is_standing.Tie as tie

is-standing-locality-requires : tie.Need-is_standing_locality-requires
is-standing-locality-requires c κs = rw c.in-Localities.is at c.requires

is-standing-name-requires : tie.Need-is_standing_name-requires
is-standing-name-requires c κs =
    let start = c.before.before in
    let walk : Walk thoroughfares start.args.file.now start.args.i = rw c.in-Thoroughfares.is at start.requires in
    (walk.low, omega (arith, walk.high), lit≤ tt, lit≤ tt, lit≤ tt, lit≤ tt)

is-standing-descriptor-requires : tie.Need-is_standing_descriptor-requires
is-standing-descriptor-requires c κs = rw c.in-Descriptors.is at c.requires

is-standing-name-requires-2 : tie.Need-is_standing_name-requires-in-Buildings
is-standing-name-requires-2 c κs =
    let start = c.before.before in
    let walk : Walk buildings start.args.file.now start.args.i = rw c.in-Buildings.is at start.requires in
    (walk.low, omega (arith, walk.high), lit≤ tt, lit≤ tt, lit≤ tt, lit≤ tt)

is-standing-name-requires-3 : tie.Need-is_standing_name-requires-in-SubBuildings
is-standing-name-requires-3 c κs =
    let start = c.before.before in
    let walk : Walk sub_buildings start.args.file.now start.args.i = rw c.in-SubBuildings.is at start.requires in
    (walk.low, omega (arith, walk.high), lit≤ tt, lit≤ tt, lit≤ tt, lit≤ tt)

is-standing-organisation-requires : tie.Need-is_standing_organisation-requires
is-standing-organisation-requires c κs = rw c.in-Organisations.is at c.requires

is-standing-address-requires : tie.Need-is_standing_address-requires
is-standing-address-requires c κs = rw c.in-Addresses.is at c.requires

returns : tie.Need-returns-in-Localities
returns c = rw c.in-Localities.is c.is_standing_locality.ensures

returns-2 : tie.Need-returns-in-Thoroughfares
returns-2 c =
    let a = c.args in
    rw c.in-Thoroughfares.is
    (λ e. let known = c.is_standing_name.ensures e in judged-fine thoroughfares a.file.now a.i known.0 known.1 refl)

returns-3 : tie.Need-returns-in-Descriptors
returns-3 c = rw c.in-Descriptors.is c.is_standing_descriptor.ensures

returns-4 : tie.Need-returns-in-Buildings
returns-4 c =
    let a = c.args in
    rw c.in-Buildings.is
    (λ e. let known = c.is_standing_name-in-Buildings.ensures e in judged-fine buildings a.file.now a.i known.0 known.1 refl)

returns-5 : tie.Need-returns-in-SubBuildings
returns-5 c =
    let a = c.args in
    rw c.in-SubBuildings.is
    (λ e. let known = c.is_standing_name-in-SubBuildings.ensures e in judged-fine sub_buildings a.file.now a.i known.0 known.1 refl)

returns-6 : tie.Need-returns-in-Organisations
returns-6 c = rw c.in-Organisations.is c.is_standing_organisation.ensures

returns-7 : tie.Need-returns-in-Addresses
returns-7 c = rw c.in-Addresses.is c.is_standing_address.ensures

pub is_standing_spec : {M : Type 1} → statement M
is_standing_spec =
    tie.close
    (tie.spec
    (search rules)
    is-standing-locality-requires
    (search rules)
    is-standing-name-requires
    (search rules)
    is-standing-descriptor-requires
    (search rules)
    is-standing-name-requires-2
    (search rules)
    is-standing-name-requires-3
    (search rules)
    is-standing-organisation-requires
    (search rules)
    is-standing-address-requires
    returns
    returns-2
    returns-3
    returns-4
    returns-5
    returns-6
    returns-7)
