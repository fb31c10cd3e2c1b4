-- Assumes nothing.
use Rattle.std.proofs.Common.{sym, ◌∙◌}
use Rattle.pack_points.proofs.OffsetLaws.{offsets-same}
use Rattle.pack_points.proofs.offsets.repeats.Goals as goal

pub returns : goal.returns
returns c =
    let a = c.args in
    λ e. offsets-same a.pack.now a.rest a.other c.requires.0 c.requires.1 (sym c.same_bytes.ensures ∙ e)
