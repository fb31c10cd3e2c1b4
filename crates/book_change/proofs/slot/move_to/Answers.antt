use Rattle.std.proofs.Common.{arith}
use Rattle.pack.specs.Numbers.{bytes_of}
use Rattle.book_change.proofs.Writes.{put_front}
use Rattle.book_change.proofs.slot.move_to.Goals as goal

pub returns : goal.returns
returns c = put_front c.args.book.now _ c.args.s c.requires (bytes_of 2 c.args.place) (omega arith) c.short_at.ensures
