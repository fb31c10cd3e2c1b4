use Rattle.label.proofs.Puts.{put_then}
use Rattle.label_pieces.proofs.inner.tens_at.Goals as goal

pub returns : goal.returns
returns c = put_then c.digit_at-i.ensures c.digit_at.ensures c.requires
