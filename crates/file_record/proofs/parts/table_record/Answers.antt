use Rattle.std.proofs.Common.{arith, sym}
use Rattle.file_record.proofs.Records.{record-none}
use Rattle.file_record.proofs.parts.table_record.Goals as goal

pub returns-else-i-file : goal.returns-else-i-file
returns-else-i-file c = sym (record-none 169 c.args.file.now c.args.i (omega arith))
