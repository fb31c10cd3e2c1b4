-- `bits::next_marked` meets its contract. The invariant: the next marked place from `i` on is that from `from` on. Assumes
-- nothing.
use borrow.Author.Rules.{rules}
use Prim.Native.Nat.{◌+◌, ◌-◌, ◌%◌}
use mathlib.Core.Path.{◌≡◌, refl, sym, ap, ◌∙◌}
use native.Mathlib.Omega.{arith}
use borrow.Author.Tests.{eq-eqb}
use Rattle.bits.specs.Bits.{passed_from, marked, next_marked}
use Rattle.bits.proofs.Next.{next-end, next_here, next-passed}
use Rattle.bits.proofs.next_marked.Statement.{statement}
use Rattle.bits.proofs.next_marked.Tie as tie

abbrev invariant-loop : tie.invariant-loop-i
invariant-loop bits from last i₀ i = next_marked bits from last ≡ next_marked bits i last

abbrev decreases-loop : tie.decreases-loop-i
decreases-loop bits from last i₀ i = last - i

loop-holds : tie.Need-loop-i-init invariant-loop decreases-loop
loop-holds c = refl

returns : tie.Need-returns-then-left-eq1 invariant-loop decreases-loop
unfolding marked
returns c =
    let left = c in
    let l = left in
    let a = l.args in
    let here = ap (◌% 2) (sym left.bits_from-left.ensures) ∙ c.if-left-eq1.true in
    sym (l.loop-i.invariant ∙ next_here a.bits.now a.last l.loop-i.i left.loop-i-test.true (eq-eqb _ 1 here))

-- once a place is not marked
module _ (c : tie.After-passed-step invariant-loop decreases-loop) where
  abbrev left : tie.After-bits_from-left invariant-loop decreases-loop
  left = c.before.before

  abbrev at-loop : tie.At-loop-i invariant-loop decreases-loop
  at-loop = left.before.before

  abbrev start : tie.Start invariant-loop decreases-loop
  start = at-loop.before.before

  on : next_marked start.args.bits.now start.args.from start.args.last
      ≡ next_marked start.args.bits.now (at-loop.loop-i.i + c.passed-step.result) start.args.last
  on =
      let bits = start.args.bits.now in
      let i = at-loop.loop-i.i in
      let is = left.bits_from-left.ensures in
      at-loop.loop-i.invariant
      ∙ (next-passed bits start.args.last i (λ e. c.if-left-eq1.false (ap (◌% 2) is ∙ e))
      ∙ ap (λ n. next_marked bits (i + n) start.args.last)
      (sym (c.passed-step.ensures.0 ∙ ap (λ w. passed_from w i) is)))

returns-2 : tie.Need-returns-then-last-i invariant-loop decreases-loop
returns-2 c =
    let a = (start c.before).args in
    sym (on c.before ∙ next-end a.bits.now a.last _ (omega (arith, c.if-last-i.true)))

loop-again : tie.Need-loop-i-preserved invariant-loop decreases-loop
loop-again c = on c.before

returns-3 : tie.Need-returns invariant-loop decreases-loop
returns-3 c =
    let l = c in
    let a = l.args in
    sym (l.loop-i.invariant ∙ next-end a.bits.now a.last l.loop-i.i (omega (arith, c.loop-i-test.false)))

pub next_marked_spec : {M : Type 1} → statement M
next_marked_spec =
    tie.close
    (tie.spec invariant-loop decreases-loop loop-holds (λ c κs. search rules) returns (λ c κs. search rules) (search rules) returns-2
    (search rules) (search rules) loop-again returns-3)
