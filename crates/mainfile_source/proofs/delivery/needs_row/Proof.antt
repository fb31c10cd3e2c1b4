-- `mainfile_source::delivery::needs_row` meets its contract. Assumes nothing.
use borrow.Author.Rules.{rules}
use mathlib.Core.Path.{refl}
use borrow.Author.Tests.{eq-eqb, ne_eqb}
use lib.ListN.{get_or}
use Rattle.mainfile.specs.Addresses.{needs_row}
use Rattle.mainfile_source.proofs.delivery.needs_row.Statement.{statement}
use Rattle.mainfile_source.proofs.delivery.needs_row.Tie as tie

returns : tie.Need-returns-then-byte_of-eq76
unfolding needs_row
returns c =
    let rec = c.args.rec.now in
    simp (eq-eqb (get_or rec 77 0) 76 (rw c.byte_of.ensures at c.if-byte_of-eq76.true))

returns-2 : tie.Need-returns
unfolding needs_row
returns-2 c =
    let e = c in
    let rec = e.args.rec.now in
    rw c.key_in.ensures
    (simp (ne_eqb (get_or rec 77 0) 76 (rw e.byte_of.ensures at e.if-byte_of-eq76.false)))

pub needs_row_spec : {M : Type 1} → statement M
needs_row_spec = tie.close (tie.spec (λ c κs. search rules) returns (λ c κs. search rules) returns-2)
