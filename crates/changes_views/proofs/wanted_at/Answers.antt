use Rattle.std.proofs.Common.{◌-◌, arith, rules}
use Rattle.changes_views.specs.Views.{wanted_at, wanted_in}
use Rattle.changes_views.proofs.Laws.{at_some, at_none}
use Rattle.changes_views.proofs.wanted_at.Goals as goal

pub loop-init : goal.loop-init
unfolding wanted_at wanted_in
loop-init c = search rules

pub returns-then-last-at : goal.returns-then-last-at
returns-then-last-at c =
    let none = at_none c.args.code.now c.args.points.now c.loop.at (c.args.k - c.loop.counter) (omega arith) in
    grind arith

pub loop-preserved : goal.loop-preserved
loop-preserved c =
    let some = at_some c.args.code.now c.args.points.now c.loop.at (c.args.k - c.loop.counter) (omega arith) in
    grind arith
