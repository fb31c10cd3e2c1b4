use Rattle.std.proofs.Common.{arith}
use Rattle.changes_views.proofs.Laws.{from-bound, count_step}
use Rattle.changes_views.proofs.count_of.Goals as goal

pub overflow_add-n : goal.overflow_add-n
overflow_add-n c =
    let step = count_step c.args.code.now c.args.points.now c.args.many c.loop-i.i (omega arith) in
    let all = from-bound c.args.code.now c.args.points.now c.args.many 1 in
    grind arith

pub loop-i-preserved : goal.loop-i-preserved
loop-i-preserved c =
    let step = count_step c.args.code.now c.args.points.now c.args.many c.loop-i.i (omega arith) in
    grind arith
