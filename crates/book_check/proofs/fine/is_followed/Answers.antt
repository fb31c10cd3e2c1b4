use Rattle.std.proofs.Common.{sym, ◌∙◌}
use Rattle.book_check.proofs.Kept.{followed-none, followed-some}
use Rattle.book_check.proofs.fine.is_followed.Goals as goal

pub returns-then-need-eq0 : goal.returns-then-need-eq0
returns-then-need-eq0 c =
    c.all_are.ensures ∙ sym (followed-none c.args.view.now c.args.next.now (rw c.needed_next-need.ensures at c.if-need-eq0.true))

pub returns : goal.returns
returns c =
    rw (c.is_follower.ensures, c.point_fault-sound.ensures)
    (sym (followed-some c.args.view.now c.args.next.now (rw c.needed_next-need.ensures at c.if-need-eq0.false)))
