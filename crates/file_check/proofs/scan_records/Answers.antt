use Prim.Native.Nat.{◌+◌, ◌-◌}
use native.Mathlib.Omega.{arith}
use mathlib.Core.Path.{sym, ap, ◌∙◌}
use Rattle.std.proofs.Common.{◌≡◌}
use Rattle.refusal.proofs.Passed.{passed-on}
use Rattle.file.specs.Check.{judged, scan}
use Rattle.file.specs.Formats.{format_of}
use Rattle.file.proofs.Laws.{scan-stop}
use Rattle.file_check.proofs.Laws.{onward-next, onward-on}
use Rattle.file_check.proofs.scan_records.Goals as goal

pub returns-in_err-judge : goal.returns-in_err-judge
returns-in_err-judge c =
    let judge = judged (format_of c.args.kind) c.args.file.now in
    let size : c.args.n - 2 ≡ c.args.n - 1 - 1 = omega arith in
    passed-on _ _ c.from_residual.ensures.1
    ∙ sym
    (ap (λ k. scan judge k 1) size
    ∙ (c.loop-i.invariant.found
    ∙ scan-stop judge (c.args.n - 1) c.loop-i.i (omega arith) c.in_err-judge.field-0.0
    (sym c.judge.ensures ∙ c.in_err-judge.was)))

pub loop-i-preserved : goal.loop-i-preserved
loop-i-preserved c =
    let f = format_of c.args.kind in
    onward-on f c.args.file.now c.args.n 1 (c.loop-i.i + 1) c.standing-i-in-loop-i.result
    (onward-next f c.args.file.now c.args.n 1 c.loop-i.i c.loop-i.invariant (omega arith)
    (sym c.judge.ensures ∙ c.in_ok-judge.was))
    c.standing-i-in-loop-i.ensures
