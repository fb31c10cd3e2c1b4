use Rattle.std.proofs.Common.{sym, ap, ◌∙◌, length, arith}
use Rattle.refusal.proofs.Outcomes.{answer-of, memory-of}
use Rattle.pack_open.proofs.Opened.{opened-sized}
use Rattle.pack_items.proofs.Laws.{item-bound, item-fits}
use Rattle.pack_items.proofs.points.PointsInTurn.ask_next.Goals as goal

pub overflow_add-self : goal.overflow_add-self
overflow_add-self c =
    let bound = item-bound _ _ _ _ _ (sym (answer-of c.item_at.ensures) ∙ c.in_ok-bytes.was) in
    omega (arith, bound, opened-sized _ _ c.requires.1.1)

pub returns-clause-fits : goal.returns-clause-fits
returns-clause-fits c =
    let e = c.item_at.ensures in
    omega (
      arith,
      item-fits _ _ _ _ _ (sym (answer-of e) ∙ c.in_ok-bytes.was),
      ap length (memory-of e),
      c.item_at.auto.out,
    )
