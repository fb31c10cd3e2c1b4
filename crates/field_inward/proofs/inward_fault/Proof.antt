-- `field_inward::inward_fault` meets its contract. Assumes nothing.
use borrow.Author.Rules.{rules}
use mathlib.Core.Path.{sym}
use borrow.Author.Tests.{ne_eqb}
use Rattle.field_outward.specs.Inward.{inward_fault}
use Rattle.field_outward.proofs.Codes.{inward-bytes}
use Rattle.field_inward.proofs.inward_fault.Statement.{statement}
use Rattle.field_inward.proofs.inward_fault.Tie as tie

returns : tie.Need-returns-then-code-ne3
unfolding inward_fault
returns c = simp (ne_eqb _ 3 c.if-code-ne3.true)

returns-2 : tie.Need-returns
returns-2 c =
    let u = c in
    let v = u in
    let w = v in
    let e = w in
    rw (
      c.unless-2.ensures,
      c.is_digit.ensures,
      u.unless-letters.ensures,
      v.unless.ensures,
      v.is_inward_letter-2.ensures,
      w.is_inward_letter.ensures,
    )
    (sym (inward-bytes e.args.code.now e.if-code-ne3.false))

pub inward_fault_spec : {M : Type 1} → statement M
inward_fault_spec =
    tie.close
    (tie.spec returns (search rules) (search rules) (search rules) (search rules) (search rules) (search rules)
    (search rules) (search rules) (search rules) returns-2)
