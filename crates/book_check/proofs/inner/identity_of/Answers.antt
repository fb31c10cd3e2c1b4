use Rattle.std.proofs.Common.{arith}
use Rattle.book_check.proofs.Slots.{identity-part}
use Rattle.book_check.proofs.inner.identity_of.Goals as goal

pub returns : goal.returns
returns c = identity-part c.args.book.now c.args.s c.requires.0 c.requires.1 _ _ (omega arith) (omega arith)
