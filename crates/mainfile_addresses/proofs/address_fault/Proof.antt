-- `mainfile_addresses::address_fault` meets its contract. Assumes nothing.
use borrow.Author.Rules.{rules}
use mathlib.Core.Path.{sym}
use Rattle.mainfile_addresses.proofs.Laws.{address_is}
use Rattle.mainfile_addresses.proofs.address_fault.Statement.{statement}
use Rattle.mainfile_addresses.proofs.address_fault.Tie as tie

returns : tie.Need-returns
returns c =
    let outward = c in
    let before-outward = outward in
    let inward = before-outward in
    let before-inward = inward in
    let keys = before-inward in
    let rest = keys in
    rw (
      c.first_of.ensures,
      outward.outward_at.ensures,
      before-outward.first_of-inward.ensures,
      inward.inward_at.ensures,
      before-inward.first_of-keys.ensures,
      keys.digits_at.ensures,
      rest.rest_fault-rest.ensures,
    )
    (sym (address_is rest.args.rec.now))

pub address_fault_spec : {M : Type 1} → statement M
address_fault_spec =
    tie.close
    (tie.spec
    (search rules)
    (search rules)
    (search rules)
    (search rules)
    (search rules)
    (search rules)
    (search rules)
    returns)
