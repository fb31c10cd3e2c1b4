use Rattle.std.proofs.Common.{ap, arith}
use Rattle.van.proofs.Saids.{counted-folded}
use Rattle.van_fold.specs.declared.inner.Size.{Size}
use Rattle.van_fold.proofs.fold.Goals as goal

-- src/lib.rt:19:1
pub returns : goal.returns
returns c =
    counted-folded c.args.text.now c.args.out.now (ap (λ (s : Size). s.rows) c.text_size-size.ensures) (omega arith)
    (omega (arith, ap (λ (s : Size). s.bytes) c.text_size-size.ensures)) c.write_text.ensures
