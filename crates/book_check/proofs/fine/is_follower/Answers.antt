use Rattle.std.proofs.Common.{rules}
use Rattle.file.specs.Formats.{follows}
use Rattle.book_check.proofs.fine.is_follower.Goals as goal

pub returns : goal.returns
unfolding follows
returns c = search rules
