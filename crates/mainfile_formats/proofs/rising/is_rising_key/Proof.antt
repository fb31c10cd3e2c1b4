-- `mainfile_formats::rising::is_rising_key` meets its contract. Assumes nothing.
use borrow.Author.Rules.{rules}
use native.Mathlib.Omega.{arith}
use lib.Dec.{lit≤}
use Rattle.file_record.proofs.Records.{part_length}
use Rattle.mainfile_formats.proofs.rising.is_rising_key.Statement.{statement}
use Rattle.mainfile_formats.proofs.rising.is_rising_key.Tie as tie

is-above-8-requires : tie.Need-is_above_8-requires
is-above-8-requires c κs =
    let one = c.before in
    let start = one.before.before.before in
    let rec = start.args.rec.now in
    let before = start.args.before.now in (
      rw one.part_of.ensures (omega (arith, part_length rec 0 8 (lit≤ tt) start.requires.1)),
      rw c.part_of-2.ensures (omega (arith, part_length before 0 8 (lit≤ tt) start.requires.0)),
    )

returns : tie.Need-returns
returns c = rw (c.part_of.ensures, c.part_of-2.ensures) at c.is_above_8.ensures

pub is_rising_key_spec : {M : Type 1} → statement M
is_rising_key_spec =
    tie.close (tie.spec (search rules) (search rules) is-above-8-requires returns)
