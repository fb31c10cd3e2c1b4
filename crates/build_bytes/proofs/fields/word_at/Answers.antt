use Rattle.label.proofs.Puts.{put_then, put_as}
use Rattle.build_bytes.proofs.Numbers.{word-is}
use Rattle.build_bytes.proofs.fields.word_at.Goals as goal

pub returns : goal.returns
returns c = put_as (word-is c.args.n) (put_then c.short_at-i.ensures c.short_at.ensures c.requires)
