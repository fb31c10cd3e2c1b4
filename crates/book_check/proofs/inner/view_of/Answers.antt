use Rattle.std.proofs.Common.{sym, arith}
use Rattle.book_check.proofs.Slots.{slot-part}
use Rattle.book_check.proofs.inner.view_of.Goals as goal

pub returns : goal.returns
returns c = sym (slot-part c.args.book.now c.args.s c.requires.0 c.requires.1 2 170 (omega arith))
