-- `csv_write::needed_of` meets its contract: a row has at most 28 bytes beside those of its 14 spans, so 4,096 hold it.
-- Assumes nothing.
use borrow.Author.Rules.{rules}
use Prim.Native.Nat.{◌≤◌}
use native.Mathlib.Omega.{arith}
use lib.ListN.{length}
use Rattle.csv_write.specs.declared.Ending.{Ending}
use Rattle.csv_write.specs.Pieces.{row_in}
use Rattle.csv_write.proofs.Sizes.{at-most-spans}
use Rattle.csv_write.proofs.needed_of.Statement.{statement}
use Rattle.csv_write.proofs.needed_of.Tie as tie

returns : tie.Need-returns-then-room-lt-AMPLE
returns c x = (λ h. omega (arith, c.row_len.ensures x, h), λ h. c.row_len.ensures x)

-- what is told of the spans, each of which says at most 255: all, and again from some of them on, since few are read at once
ample : (c : tie.Else-room-lt-AMPLE) (x : Ending)
    → let g = c.args in length (row_in g.a.now g.b.now g.e x) ≤ g.room
ample c x =
    let start = c in
    let told = start.well_formed.1.1.0 in
    omega (
      arith,
      at-most-spans start.args.a.now start.args.b.now start.args.e x,
      c.if-room-lt-AMPLE.false,
      told.1,
      told.1.1.1.1,
      told.1.1.1.1.1.1.1.1,
      told.1.1.1.1.1.1.1.1.1.1.1,
      told.1.1.1.1.1.1.1.1.1.1.1.1.1.1,
    )

returns-2 : tie.Need-returns
returns-2 c x = (λ h. ample c x, λ h. omega (arith, h))

pub needed_of_spec : {M : Type 1} → statement M
needed_of_spec = tie.close (tie.spec (search rules) returns returns-2)
