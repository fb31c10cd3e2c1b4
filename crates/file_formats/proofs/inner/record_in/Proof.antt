-- `file_formats::inner::record_in` meets its contract. Assumes nothing.
use borrow.Author.Rules.{rules}
use Prim.Native.Nat.{◌<◌, ◌/◌}
use native.Mathlib.Omega.{arith}
use lib.ListN.{length}
use Rattle.file_record.specs.Names.Table
use Rattle.file_record.specs.Names.Point
use Rattle.file_formats.proofs.inner.record_in.Statement.{statement}
use Rattle.file_formats.proofs.inner.record_in.Tie as tie

whole-record-requires : tie.Need-whole_record-requires
whole-record-requires c κs =
    let s = c.before.before in
    let has : s.args.i < length s.args.file.now / Table.width = rw c.in-Table.is at s.requires in
    (has, omega arith)

whole-record-requires-2 : tie.Need-whole_record-requires-in-Points
whole-record-requires-2 c κs =
    let s = c.before.before in
    let has : s.args.i < length s.args.file.now / Point.width = rw c.in-Points.is at s.requires in
    (has, omega arith)

returns : tie.Need-returns-in-Table
returns c = rw c.in-Table.is c.whole_record.ensures

returns-2 : tie.Need-returns-in-Points
returns-2 c = rw c.in-Points.is c.whole_record-in-Points.ensures

record-in-requires : tie.Need-record_in-requires
record-in-requires c κs = rw c.in-Main.is at c.requires

returns-3 : tie.Need-returns-in-Main
returns-3 c = rw c.in-Main.is c.record_in.ensures

pub record_in_spec : {M : Type 1} → statement M
record_in_spec = tie.close (tie.spec (search rules) whole-record-requires (search rules) whole-record-requires-2 (search rules) record-in-requires returns returns-2 returns-3)
