use Prim.Native.Nat.{◌<◌, ◌≤◌}
use native.Mathlib.Omega.{arith}
use lib.ListN.{length}
use Rattle.label.specs.Label.{label_of}
use Rattle.label.specs.Spans.{elements_in}
use Rattle.label.proofs.Room.{counted-short, counted-written}
use Rattle.label_print.proofs.print_label.Goals as goal

-- src/lib.rt:35:9
pub returns-then-out-needed : goal.returns-then-out-needed
returns-then-out-needed c =
    let short : length c.args.out.now < c.needed_of-needed.result = omega arith in
    rw c.into.ensures
    (counted-short (label_of (elements_in c.args.a.now c.args.b.now c.args.e)) c.args.out.now
    (c.needed_of-needed.ensures.1 short) short)

-- src/lib.rt:29:1
pub returns : goal.returns
returns c =
    let fits : length (label_of (elements_in c.args.a.now c.args.b.now c.args.e)) ≤ length c.args.out.now =
    c.needed_of-needed.ensures.0 (omega arith) in
    counted-written (label_of (elements_in c.args.a.now c.args.b.now c.args.e)) c.args.out.now fits
    c.write_label.ensures.0 c.write_label.ensures.1
