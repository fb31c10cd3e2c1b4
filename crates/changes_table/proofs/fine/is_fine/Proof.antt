-- `changes_table::fine::is_fine` meets its contract. Assumes nothing.
use borrow.Author.Rules.{rules}
use Rattle.changes_table.proofs.Laws.{table-fine}
use mathlib.Core.Bool.{false≢true}
use Rattle.changes_table.proofs.fine.is_fine.Statement.{statement}
use Rattle.changes_table.proofs.fine.is_fine.Tie as tie

returns : tie.Need-returns-then-not-is_fine_head
returns c = λ e. absurd (false≢true e)

returns-2 : tie.Need-returns
returns-2 c =
    let left = c in
    let head = left in
    λ e.
    let known = c.is_fine_rest.ensures e in
    table-fine head.args.rec.now
    (head.is_fine_head.ensures (left.if-not-is_fine_head.false) known.0) known.1

pub is_fine_spec : {M : Type 1} → statement M
is_fine_spec = tie.close (tie.spec (search rules) returns (search rules) returns-2)
