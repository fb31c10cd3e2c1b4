-- `mainfile_formats::inner::is_header` meets its contract. Assumes nothing.
use borrow.Author.Rules.{rules}
use Rattle.mainfile_formats.proofs.inner.is_header.Statement.{statement}
use Rattle.mainfile_formats.proofs.inner.is_header.Tie as tie

returns : tie.Need-returns-in-Localities
returns c = rw c.in-Localities.is c.zeros_named.ensures

returns-2 : tie.Need-returns-in-Thoroughfares
returns-2 c = rw c.in-Thoroughfares.is c.zeros_named-in-Thoroughfares.ensures

returns-3 : tie.Need-returns-in-Descriptors
returns-3 c = rw c.in-Descriptors.is c.zeros_named-in-Descriptors.ensures

returns-4 : tie.Need-returns-in-Buildings
returns-4 c = rw c.in-Buildings.is c.zeros_named-in-Buildings.ensures

returns-5 : tie.Need-returns-in-SubBuildings
returns-5 c = rw c.in-SubBuildings.is c.zeros_named-in-SubBuildings.ensures

returns-6 : tie.Need-returns-in-Organisations
returns-6 c = rw c.in-Organisations.is c.zeros_named-in-Organisations.ensures

returns-7 : tie.Need-returns-in-Addresses
returns-7 c = rw c.in-Addresses.is c.address_header_ok.ensures

pub is_header_spec : {M : Type 1} → statement M
is_header_spec =
    tie.close
    (tie.spec (search rules) (search rules) (search rules) (search rules) (search rules) (search rules) (search rules) (search rules) (search rules) (search rules) (search rules) (search rules) (search rules) (search rules) returns returns-2 returns-3 returns-4 returns-5 returns-6 returns-7)
