use Rattle.std.proofs.Common.{sym, ap, ◌∙◌, length, arith}
use Rattle.refusal.proofs.Outcomes.{answer-of, memory-of}
use Rattle.pack_label.proofs.Laws.{point-bound, point-fits}
use Rattle.pack_runs.proofs.points.PointsInTurn.ask_next.Goals as goal

pub overflow_add-self : goal.overflow_add-self
overflow_add-self c =
    let bound = point-bound _ _ _ _ (sym (answer-of c.label_at.ensures) ∙ c.in_ok-bytes.was) in
    omega (arith, bound, c.requires.1.1)

pub returns-clause-fits : goal.returns-clause-fits
returns-clause-fits c =
    let e = c.label_at.ensures in
    omega (
      arith,
      point-fits _ _ _ _ (sym (answer-of e) ∙ c.in_ok-bytes.was),
      ap length (memory-of e),
      c.label_at.auto.out,
    )
