-- `label_print::needed_of` meets its contract: a label has at most 26 bytes beside those of its 14 spans, so 4,096 hold it.
-- Assumes nothing.
use borrow.Author.Rules.{rules}
use Prim.Native.Nat.{◌≤◌}
use native.Mathlib.Omega.{arith}
use lib.ListN.{length}
use Rattle.label.specs.Label.{label_of}
use Rattle.label.specs.Spans.{elements_in}
use Rattle.label.proofs.Bounds.{at-most-spans}
use Rattle.label_print.proofs.needed_of.Statement.{statement}
use Rattle.label_print.proofs.needed_of.Tie as tie

returns : tie.Need-returns-then-room-lt-AMPLE
returns c = (λ h. omega (arith, c.label_len.ensures, h), λ h. c.label_len.ensures)

-- what is told of the spans, each of which says at most 255: all, and again from some of them on, since few are read at once
ample : (c : tie.Else-room-lt-AMPLE)
    → let g = c.args in
    length (label_of (elements_in g.a.now g.b.now g.e)) ≤ g.room
ample c =
    let start = c in
    let told = start.well_formed.1.1.0 in
    omega (
      arith,
      at-most-spans start.args.a.now start.args.b.now start.args.e,
      c.if-room-lt-AMPLE.false,
      told.1,
      told.1.1.1.1,
      told.1.1.1.1.1.1.1.1,
      told.1.1.1.1.1.1.1.1.1.1.1,
      told.1.1.1.1.1.1.1.1.1.1.1.1.1.1,
    )

returns-2 : tie.Need-returns
returns-2 c = (λ h. ample c, λ h. omega (arith, h))

pub needed_of_spec : {M : Type 1} → statement M
needed_of_spec = tie.close (tie.spec (search rules) returns returns-2)
