use Rattle.std.proofs.Common.{ℕ, ◌+◌, sym, ap, ◌∙◌, arith}
use Rattle.changes_pair.proofs.Numbers.{number_bound}
use Rattle.changes_items.proofs.Laws.{number_up, number-stays}
use Rattle.changes_items.proofs.places.number_on.Goals.{then-is_wanted, else-is_wanted}
use Rattle.changes_items.proofs.places.number_on.Goals as goal

pub overflow_add-views : goal.overflow_add-views
overflow_add-views c = omega (arith, number_bound c.args.points.now c.loop-i.i)

pub loop-i-preserved : goal.loop-i-preserved
loop-i-preserved c =
    let points = c.args.points.now in
    let i = c.loop-i.i in
    let is = rw c.point_record.ensures at c.is_wanted.ensures in
    elim c.if-is_wanted.branch [
      | then-is_wanted w ↦ w.views-is ∙ (ap (λ (n : ℕ). n + 1) c.loop-i.invariant ∙ number_up points i (sym is ∙ w.if-is_wanted.true))
      | else-is_wanted w ↦ w.views-is ∙ (c.loop-i.invariant ∙ number-stays points i (sym is ∙ w.if-is_wanted.false))
    ]
