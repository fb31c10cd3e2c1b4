-- `file_fault::fine::is_blank_box` meets its contract. Assumes nothing.
use borrow.Author.Rules.{rules}
use Rattle.file_fault.proofs.AtOnce.{box-blank}
use Rattle.field.proofs.Tests.{and_left, and_right}
use mathlib.Core.Path.{sym, ◌∙◌}
use Rattle.file_fault.proofs.fine.is_blank_box.Statement.{statement}
use Rattle.file_fault.proofs.fine.is_blank_box.Tie as tie

returns : tie.Need-returns
returns c =
    let first = c in
    let start = first in
    λ e.
    box-blank start.args.rec.now start.args.start
    (sym first.four_blank.ensures ∙ and_left first.four_blank.result c.four_blank-2.result e)
    (sym c.four_blank-2.ensures ∙ and_right first.four_blank.result c.four_blank-2.result e)

pub is_blank_box_spec : {M : Type 1} → statement M
is_blank_box_spec =
    tie.close (tie.spec (search rules) (search rules) (search rules) returns)
