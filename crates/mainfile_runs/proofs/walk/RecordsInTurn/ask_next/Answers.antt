use Rattle.std.proofs.Common.{refl, sym, ap, ◌∙◌, length, arith}
use Rattle.refusal.proofs.Outcomes.{answer-of, memory-of}
use Rattle.mainfile_runs.proofs.Laws.{shown-there, shown-fits, next_place}
use Rattle.mainfile_runs.proofs.walk.RecordsInTurn.ask_next.Goals as goal

pub returns-clause-fits : goal.returns-clause-fits
returns-clause-fits c =
    let e = c.shown_at.ensures in
    omega (
      arith,
      shown-fits _ _ _ _ _ (sym (answer-of e) ∙ c.in_ok-bytes.was),
      ap length (memory-of e),
      c.shown_at.auto.out,
    )

pub returns-clause-goes_on : goal.returns-clause-goes_on
returns-clause-goes_on c k h =
    let s = c.args.self.now in
    let there = shown-there _ _ _ _ _ (sym (answer-of c.shown_at.ensures) ∙ c.in_ok-bytes.was) in
    let next = next_place s.of.first s.of.many k (rw h.1 at there) in
    record {
      next = (h.0, rw h.1 at c.place_behind-self.ensures ∙ sym next);
      same = refl;
    }
