use Prim.Native.Nat.{◌≤◌}
use mathlib.Core.Path.{sym}
use mathlib.Core.List.{◌++◌}
use native.Mathlib.Omega.{arith}
use lib.ListN.{length, length-append}
use Rattle.label.proofs.Puts.{put_then, wrote}
use Rattle.label.proofs.Room.{counted-short, counted-written}
use Rattle.item_write.proofs.inner.both_texts.Goals as goal

pub returns-then-out-needed : goal.returns-then-out-needed
returns-then-out-needed c =
    rw c.into.ensures
    (counted-short (c.args.first.now ++ c.args.second.now) c.args.out.now
    (sym (length-append c.args.first.now c.args.second.now)) (omega arith))

pub returns : goal.returns
returns c =
    let fits : length (c.args.first.now ++ c.args.second.now) ≤ length c.args.out.now =
    omega (arith, length-append c.args.first.now c.args.second.now) in
    let w = wrote (put_then c.bytes_at-i.ensures c.bytes_at.ensures (omega arith)) in
    counted-written (c.args.first.now ++ c.args.second.now) c.args.out.now fits w.size w.is
