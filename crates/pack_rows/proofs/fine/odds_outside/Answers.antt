-- Assumes nothing.
use Rattle.std.proofs.Common.{◌≡◌, arith}
use Rattle.std.proofs.lemmas.Bool.Decides.{nat_tests}
use Rattle.pack_rows.specs.Odds.{odds}
use Rattle.pack_rows.specs.Marks.{Fine}
use Rattle.pack_rows.proofs.OddLaws.{odds-before-bound}
use Rattle.pack_rows.proofs.FineLaws.{if-given, going_next, going-last}
use Rattle.pack_rows.proofs.fine.odds_outside.Goals as goal

pub overflow_add-odds : goal.overflow_add-odds
overflow_add-odds c =
    omega (
      arith,
      c.loop.invariant.least,
      c.in_ok-step.ensures.counted,
      odds-before-bound c.args.rows.now c.in_ok-step.step.end,
    )

pub loop-preserved : goal.loop-preserved
loop-preserved c =
    let l = c.loop in
    going_next c.args.rows.now c.args.count l.marks l.kind l.odds l.at l.counter l.invariant c.in_ok-step.step _
    (omega arith) c.in_ok-step.ensures c.if-rows-at-2.false c.mark.auto.bits c.mark.ensures

pub returns : goal.returns
returns c =
    let l = c.loop in
    if-given (λ n. odds c.args.rows.now ≡ n → Fine c.args.rows.now c.args.count l.marks) c.then_some.ensures (λ e.
    going-last c.args.rows.now c.args.count l.marks l.kind l.odds l.at l.counter l.invariant (omega arith)
    (grind (arith, nat_tests)) (grind (arith, nat_tests)))
