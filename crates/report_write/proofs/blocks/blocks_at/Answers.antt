use Rattle.std.proofs.Common.{ℕ, ◌≡◌, ◌+◌, ◌++◌, List, rules}
use native.Mathlib.Numerals.{add-one}
use Rattle.report.specs.Report.{block, blocks}
use Rattle.report.proofs.Feeds.{fed_then, fed-as}
use Rattle.report_write.proofs.blocks.blocks_at.Goals as goal

-- one view more
blocks-next : (table points : List ℕ) (k : ℕ) → blocks table points k ++ block table points (k + 1) ≡ blocks table points (k + 1)
blocks-next table points k = rw add-one

pub loop-view-preserved : goal.loop-view-preserved
loop-view-preserved c = (
  search rules,
  fed-as (blocks-next c.args.table.now c.args.points.now c.loop-view.view) (fed_then c.loop-view.invariant.1 c.block_at-i.ensures),
)
