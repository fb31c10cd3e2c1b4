-- `mainfile_formats::rising::is_higher` meets its contract. Assumes nothing.
use borrow.Author.Rules.{rules}
use Rattle.mainfile_formats.proofs.rising.is_higher.Statement.{statement}
use Rattle.mainfile_formats.proofs.rising.is_higher.Tie as tie

is-higher-organisation-requires : tie.Need-is_higher_organisation-requires
is-higher-organisation-requires c κs = rw c.in-Organisations.is at c.requires

is-higher-address-requires : tie.Need-is_higher_address-requires
is-higher-address-requires c κs = rw c.in-Addresses.is at c.requires

returns : tie.Need-returns-in-Localities
returns c = rw c.in-Localities.is c.is_front_above.ensures

returns-2 : tie.Need-returns-in-Thoroughfares
returns-2 c = rw c.in-Thoroughfares.is c.is_front_above-in-Thoroughfares.ensures

returns-3 : tie.Need-returns-in-Descriptors
returns-3 c = rw c.in-Descriptors.is c.is_front_above-in-Descriptors.ensures

returns-4 : tie.Need-returns-in-Buildings
returns-4 c = rw c.in-Buildings.is c.is_front_above-in-Buildings.ensures

returns-5 : tie.Need-returns-in-SubBuildings
returns-5 c = rw c.in-SubBuildings.is c.is_front_above-in-SubBuildings.ensures

returns-6 : tie.Need-returns-in-Organisations
returns-6 c = rw c.in-Organisations.is c.is_higher_organisation.ensures

returns-7 : tie.Need-returns-in-Addresses
returns-7 c = rw c.in-Addresses.is c.is_higher_address.ensures

pub is_higher_spec : {M : Type 1} → statement M
is_higher_spec =
    tie.close
    (tie.spec
    (search rules)
    (search rules)
    (search rules)
    (search rules)
    (search rules)
    (search rules)
    (search rules)
    (search rules)
    (search rules)
    (search rules)
    (search rules)
    is-higher-organisation-requires
    (search rules)
    is-higher-address-requires
    returns
    returns-2
    returns-3
    returns-4
    returns-5
    returns-6
    returns-7)
