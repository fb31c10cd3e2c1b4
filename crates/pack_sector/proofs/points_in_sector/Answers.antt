use mathlib.Core.Path.{◌≡◌, sym, ◌∙◌}
use Rattle.std.specs.Prelude.{Ok}
use Rattle.refusal.proofs.Outcomes.{after-value}
use Rattle.refusal.proofs.Passed.{after-passed}
use Rattle.pack.specs.Opening.{opened}
use Rattle.pack.specs.Points.{pack_sector}
use Rattle.pack_open.proofs.Opened.{opened-all, opened-sized}
use Rattle.pack_sector.proofs.points_in_sector.Goals as goal

pub returns-in_err-count : goal.returns-in_err-count
unfolding pack_sector
returns-in_err-count c = after-passed _ _ c.open_pack.ensures c.in_err-count.was c.from_residual.ensures.1

pub sector_of-requires : goal.sector_of-requires
sector_of-requires c =
    let value : opened c.args.pack.now ≡ Ok c.in_ok-count.count = sym c.open_pack.ensures ∙ c.in_ok-count.was in
    let all = opened-all _ _ value in
    record { sized = opened-sized _ _ value; counts = all.counts; counted = all.counted }

pub returns : goal.returns
unfolding pack_sector
returns c = c.sector_of.ensures ∙ after-value _ _ _ c.open_pack.ensures _ c.in_ok-count.was
