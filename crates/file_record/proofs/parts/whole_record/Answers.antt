use Rattle.std.proofs.Common.{sym}
use Rattle.file_record.proofs.Records.{record-here}
use Rattle.file_record.proofs.parts.whole_record.Goals as goal

pub returns : goal.returns
returns c = sym (record-here c.args.width c.args.file.now c.args.i c.requires.0)
