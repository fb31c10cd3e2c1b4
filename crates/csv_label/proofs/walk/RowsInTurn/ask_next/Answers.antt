use Rattle.std.proofs.Common.{◌+◌, refl, sym, ap, ◌∙◌, length, arith}
use Rattle.refusal.proofs.Outcomes.{answer-of, memory-of}
use Rattle.csv_label.proofs.RowLaws.{kth-next, row_here, number-within}
use Rattle.csv_label.proofs.ShownLaws.{shown-within, shown-there}
use Rattle.csv_label.proofs.walk.RowsInTurn.ask_next.Goals as goal

pub shown_at-requires : goal.shown_at-requires
shown_at-requires c =
    row_here c.args.self.now.csv.now c.requires.1.0.1 c.requires.0 c.args.self.now.place c.requires.1.2 c.requires.1.3

pub overflow_add-self : goal.overflow_add-self
overflow_add-self c =
    let s = c.args.self.now in
    let is = c.requires.1 in
    let there = shown-there s.listed s.csv.now s.row s.place _ _ (sym (answer-of c.shown_at.ensures) ∙ c.in_ok-bytes.was) in
    omega (arith, number-within s.csv.now c.requires.0 s.place there is.3, is.1)

pub returns-clause-fits : goal.returns-clause-fits
returns-clause-fits c =
    let e = c.shown_at.ensures in
    omega (
      arith,
      shown-within _ _ _ _ _ (sym (answer-of e) ∙ c.in_ok-bytes.was),
      ap length (memory-of e),
      c.shown_at.auto.out,
    )

pub returns-clause-goes_on : goal.returns-clause-goes_on
returns-clause-goes_on c k h =
    let s = c.args.self.now in
    let there = shown-there s.listed s.csv.now s.row s.place _ _ (sym (answer-of c.shown_at.ensures) ∙ c.in_ok-bytes.was) in
    let behind = c.row_behind-self.ensures in
    record {
      next = (h.0, ap (λ n. n + 1) h.1, behind.0, kth-next s.csv.now k s.place _ there h.3 behind.1.1);
      same = refl;
    }
