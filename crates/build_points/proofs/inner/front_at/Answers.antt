use Rattle.label.proofs.Puts.{put_then}
use Rattle.build_points.proofs.inner.front_at.Goals as goal

pub returns : goal.returns
returns c = put_then c.part_at-i.ensures c.part_at.ensures c.requires.1
