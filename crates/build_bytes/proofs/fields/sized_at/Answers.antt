use Rattle.label.proofs.Puts.{put_then}
use Rattle.build_bytes.proofs.fields.sized_at.Goals as goal

pub returns : goal.returns
returns c = put_then c.byte_at-i.ensures c.bytes_at.ensures c.requires.1
