-- `csv_read::fields::ends_field` meets its contract. Assumes nothing.
use borrow.Author.Rules.{rules}
use mathlib.Core.Path.{sym, ap, ◌∙◌}
use lib.Dec.{eqb}
use Rattle.csv_read.proofs.Cut.{at_return, at_other}
use Rattle.csv_read.proofs.fields.ends_field.Statement.{statement}
use Rattle.csv_read.proofs.fields.ends_field.Tie as tie

returns : tie.Need-returns-then-b-eq13
returns c =
    let a = c.args in
    ap (λ b. eqb b 10) c.byte_of.ensures ∙ sym (at_return a.csv.now a.i c.if-b-eq13.true)

returns-2 : tie.Need-returns
returns-2 c =
    let a = c.args in
    sym (at_other a.csv.now a.i c.if-b-eq13.false)

pub ends_field_spec : {M : Type 1} → statement M
ends_field_spec = tie.close (tie.spec (search rules) (search rules) (search rules) returns returns-2)
