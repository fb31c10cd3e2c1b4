use Rattle.book_change.proofs.Writes.{put-set}
use Rattle.book_change.proofs.slot.set_slot.Goals as goal

pub returns : goal.returns
returns c = put-set c.args.book.now _ c.args.s c.requires.0 c.requires.1 c.bytes_at.ensures
