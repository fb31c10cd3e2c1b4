use native.Mathlib.Omega.{arith}
use Rattle.item_write.proofs.Headed.{label-short, label-headed}
use Rattle.item_write.proofs.inner.over_label.Goals as goal

pub returns-then-out-heading : goal.returns-then-out-heading
returns-then-out-heading c =
    rw c.into.ensures (label-short c.args.heading.now c.args.label c.args.out.now (omega arith))

pub returns : goal.returns
returns c = label-headed c.args.heading.now c.args.label c.args.out.now (omega arith) c.bytes_at.ensures
