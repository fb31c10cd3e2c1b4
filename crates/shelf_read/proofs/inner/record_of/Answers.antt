use Rattle.std.proofs.Common.{rules, tests}
use Rattle.file_record.specs.Parts.{record_at}
use Rattle.shelf_read.proofs.inner.record_of.Goals as goal

pub returns-else-i-file : goal.returns-else-i-file
unfolding record_at
returns-else-i-file c = search (rules, tests)
