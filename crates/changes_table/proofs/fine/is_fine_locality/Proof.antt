-- `changes_table::fine::is_fine_locality` meets its contract. Assumes nothing.
use borrow.Author.Rules.{rules}
use Rattle.changes_table.proofs.Laws.{locality-fine}
use Rattle.changes_table.proofs.fine.is_fine_locality.Statement.{statement}
use Rattle.changes_table.proofs.fine.is_fine_locality.Tie as tie

returns : tie.Need-returns
returns c =
    let rec = c.args.rec.now in
    λ e.
    let each = c.is_fine_places.ensures e in
    locality-fine rec each.0 each.1 each.2

pub is_fine_locality_spec : {M : Type 1} → statement M
is_fine_locality_spec = tie.close (tie.spec (search rules) returns)
