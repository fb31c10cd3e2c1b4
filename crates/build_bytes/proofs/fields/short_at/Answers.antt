use Rattle.label.proofs.Puts.{put_then, put_as}
use Rattle.build_bytes.proofs.Numbers.{short-is}
use Rattle.build_bytes.proofs.fields.short_at.Goals as goal

pub returns : goal.returns
returns c = put_as (short-is c.args.n) (put_then c.byte_at-i.ensures c.byte_at.ensures c.requires)
