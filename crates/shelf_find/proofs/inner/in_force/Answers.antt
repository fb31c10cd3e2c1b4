use Rattle.std.proofs.Common.{sym}
use Rattle.shelf.proofs.Force.{force-out, force-in}
use Rattle.shelf_find.proofs.inner.in_force.Goals as goal

pub returns-then-letter : goal.returns-then-letter
returns-then-letter c =
    sym (force-out c.args.s c.args.file.now c.args.row (rw (c.byte_of-letter.ensures, c.record_of.ensures) at c.if-letter.true))

pub returns-else-letter : goal.returns-else-letter
returns-else-letter c =
    sym (force-in c.args.s c.args.file.now c.args.row (rw (c.byte_of-letter.ensures, c.record_of.ensures) at c.if-letter.false))
