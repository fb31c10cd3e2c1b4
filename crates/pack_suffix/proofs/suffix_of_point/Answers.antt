use Rattle.std.proofs.Common.{◌≡◌, Ok}
use mathlib.Core.Path.{sym, ◌∙◌}
use Rattle.refusal.proofs.Outcomes.{after-value}
use Rattle.refusal.proofs.Passed.{after-passed}
use Rattle.pack.specs.Opening.{opened}
use Rattle.pack.specs.Points.{pack_suffix}
use Rattle.pack_open.proofs.Opened.{opened-all, opened-sized}
use Rattle.pack_suffix.proofs.suffix_of_point.Goals as goal

-- src/lib.rt:15:17
pub returns-in_err-count : goal.returns-in_err-count
unfolding pack_suffix
returns-in_err-count c = after-passed _ _ c.open_pack.ensures c.in_err-count.was c.from_residual.ensures.1

-- src/lib.rt:16:5
pub suffix_at-requires : goal.suffix_at-requires
suffix_at-requires c =
    let value : opened c.args.pack.now ≡ Ok c.in_ok-count.count = sym c.open_pack.ensures ∙ c.in_ok-count.was in
    (opened-sized _ _ value, (opened-all _ _ value).counted)

-- src/lib.rt:12:1
pub returns : goal.returns
unfolding pack_suffix
returns c = c.suffix_at.ensures ∙ after-value _ _ _ c.open_pack.ensures _ c.in_ok-count.was
