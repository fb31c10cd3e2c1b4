use Rattle.std.proofs.Common.{◌≡◌, arith}
use Rattle.std.proofs.lemmas.Grind.{common_steps}
use Rattle.book.specs.Layout.{slots}
use Rattle.book_change.proofs.all.each_slot.Goals as goal

pub loop-s-preserved : goal.loop-s-preserved
loop-s-preserved g c = λ f is.
    let u = c.loop-s.invariant f is in
    let v = is _ _ c.loop-s.s (record { long = u.long; low = omega arith }) (u.rest c.loop-s.s (omega arith) (omega arith)) c.step.ensures in
    grind (arith, common_steps)

pub returns : goal.returns
returns g c = λ f is.
    let end : c.loop-s.s ≡ slots = omega arith in
    rw end at (c.loop-s.invariant f is)
