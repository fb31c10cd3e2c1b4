use Rattle.std.proofs.Common.{sym, ap, ◌∙◌, length, arith}
use Rattle.refusal.proofs.Outcomes.{answer-of, memory-of}
use Rattle.book_source.proofs.Walked.{among-inside}
use Rattle.book_label.proofs.Laws.{shown-there, shown-fits, among-within}
use Rattle.book_label.proofs.walk.StartsInTurn.ask_next.Goals as goal

pub shown_from-requires : goal.shown_from-requires
shown_from-requires c =
    let s = c.args.self.now in
    let is = c.requires.1 in
    rw c.start_among-at.ensures (record {
      of_table = is.2;
      inside = among-inside s.book.now s.starts.now is.1 s.next;
    })

pub overflow_add-self : goal.overflow_add-self
overflow_add-self c =
    let s = c.args.self.now in
    let there = shown-there _ _ _ _ _ _ (sym (answer-of c.shown_from.ensures) ∙ c.in_ok-bytes.was) in
    omega (arith, among-within s.starts.now s.next (rw c.start_among-at.ensures at there))

pub returns-clause-fits : goal.returns-clause-fits
returns-clause-fits c =
    let e = c.shown_from.ensures in
    omega (
      arith,
      shown-fits _ _ _ _ _ _ (sym (answer-of e) ∙ c.in_ok-bytes.was),
      ap length (memory-of e),
      c.shown_from.auto.out,
    )
