-- `changes_points::fine::is_fine` meets its contract. Assumes nothing.
use borrow.Author.Rules.{rules}
use Rattle.changes_points.proofs.Laws.{view-record}
use Rattle.file_fault.proofs.AtOnce.{neither}
use mathlib.Core.Path.{sym, ◌∙◌}
use borrow.Author.Tests.{not-false, eqb-true, ltb-false}
use mathlib.Core.Bool.{not, false≢true}
use lib.Dec.{eqb, ltb}
use lib.ListN.{length}
use Rattle.changes_points.proofs.fine.is_fine.Statement.{statement}
use Rattle.changes_points.proofs.fine.is_fine.Tie as tie

returns : tie.Need-returns-then-kind-rec
returns c = λ e. absurd (false≢true e)

returns-2 : tie.Need-returns-then-not-view_digits
returns-2 c = λ e. absurd (false≢true e)

is-fine-head-requires : tie.Need-is_fine_head-requires
is-fine-head-requires c κs = c.requires

returns-3 : tie.Need-returns-then-not-is_fine_head
returns-3 c = λ e. absurd (false≢true e)

is-fine-view-requires : tie.Need-is_fine_view-requires
is-fine-view-requires c κs =
    let kind = c in
    let byte = kind in
    let rec = byte.args.rec.now in
    let other = not (eqb byte.byte_of-kind.result 49) in
    let short = ltb (length rec) 168 in
    ltb-false (length rec) 168 (neither other short kind.if-kind-rec.false).1

returns-4 : tie.Need-returns
returns-4 c =
    let other = c in
    let head = other in
    let left = head in
    let digits = left in
    let kind = digits in
    let byte = kind in
    let rec = byte.args.rec.now in
    λ e.
    let each = digits.view_digits.ensures (left.if-not-view_digits.false) in
    let view = eqb-true _ 49 (not-false _ (neither _ _ kind.if-kind-rec.false).0) in
    view-record rec (sym byte.byte_of-kind.ensures ∙ view)
    (head.is_fine_head.ensures (other.if-not-is_fine_head.false) each.0 each.1)
    (c.is_fine_view.ensures e each.2 each.3)

pub is_fine_spec : {M : Type 1} → statement M
is_fine_spec =
    tie.close
    (tie.spec
    (search rules)
    returns
    (search rules)
    returns-2
    is-fine-head-requires
    returns-3
    is-fine-view-requires
    returns-4)
