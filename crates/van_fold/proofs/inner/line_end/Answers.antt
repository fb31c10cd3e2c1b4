use Rattle.std.proofs.Common.{arith}
use Rattle.std.specs.Prelude.{None}
use Rattle.van_fold.proofs.Lines.{looked}
use Rattle.van_fold.proofs.inner.line_end.Goals as goal

pub returns : goal.returns
returns c = looked c.args.text.now None (λ j h. c.loop-i.invariant j (omega (arith, h)))
