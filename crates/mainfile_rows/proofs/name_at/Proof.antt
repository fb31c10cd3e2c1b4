-- `mainfile_rows::name_at` meets its contract. Assumes nothing.
use borrow.Author.Rules.{rules}
use borrow.Author.Tests.{ne_eqb}
use Rattle.mainfile_rows.proofs.name_at.Statement.{statement}
use Rattle.mainfile_rows.proofs.name_at.Tie as tie

returns : tie.Need-returns-then-byte_of-eq83
returns c =
    let small = c in
    rw c.filled_at.ensures (simp (rw small.byte_of.ensures at small.if-byte_of-eq83.true))

returns-2 : tie.Need-returns-else-byte_of-eq83
returns-2 c =
    let large = c in
    rw c.text_at.ensures (simp (ne_eqb _ 83 (rw large.byte_of.ensures at large.if-byte_of-eq83.false)))

pub name_at_spec : {M : Type 1} → statement M
name_at_spec =
    tie.close (tie.spec (search rules) (search rules) (search rules) returns returns-2)
