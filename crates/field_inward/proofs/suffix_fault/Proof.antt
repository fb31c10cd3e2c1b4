-- `field_inward::suffix_fault` meets its contract. Assumes nothing.
use borrow.Author.Rules.{rules}
use mathlib.Core.Path.{sym}
use borrow.Author.Tests.{ne_eqb}
use Rattle.field_outward.specs.Inward.{suffix_fault}
use Rattle.field_outward.proofs.Codes.{suffix-bytes}
use Rattle.field_inward.proofs.suffix_fault.Statement.{statement}
use Rattle.field_inward.proofs.suffix_fault.Tie as tie

returns : tie.Need-returns-then-suffix-ne2
unfolding suffix_fault
returns c = simp (ne_eqb _ 2 c.if-suffix-ne2.true)

returns-2 : tie.Need-returns
returns-2 c =
    let d = c in
    let e = d in
    rw (c.unless-2.ensures, c.unless.ensures, c.is_letter.ensures, d.is_digit.ensures)
    (sym (suffix-bytes e.args.suffix.now e.if-suffix-ne2.false))

pub suffix_fault_spec : {M : Type 1} → statement M
suffix_fault_spec =
    tie.close
    (tie.spec returns (search rules) (search rules) (search rules) (search rules) (search rules) (search rules)
    returns-2)
