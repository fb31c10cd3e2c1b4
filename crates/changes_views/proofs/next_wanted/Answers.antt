use Rattle.std.proofs.Common.{arith}
use Rattle.changes_views.proofs.Laws.{next-stop, next-step, next-end}
use Rattle.changes_views.proofs.next_wanted.Goals as goal

pub returns-then-is_wanted : goal.returns-then-is_wanted
returns-then-is_wanted c =
    let stop = next-stop c.args.code.now c.args.points.now c.loop-at.at (omega arith) in
    grind arith

pub loop-at-preserved : goal.loop-at-preserved
loop-at-preserved c =
    let step = next-step c.args.code.now c.args.points.now c.loop-at.at (omega arith) in
    grind arith

pub returns : goal.returns
returns c =
    let here = next-end c.args.code.now c.args.points.now c.args.i in
    let end = next-end c.args.code.now c.args.points.now c.loop-at.at in
    grind arith
