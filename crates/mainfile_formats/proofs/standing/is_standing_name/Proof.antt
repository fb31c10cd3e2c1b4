-- `mainfile_formats::standing::is_standing_name` meets its contract. Assumes nothing.
use borrow.Author.Rules.{rules}
use Prim.Native.Nat.{◌-◌, ◌/◌, ◌≤◌, ◌<◌}
use native.Mathlib.Omega.{arith}
use lib.Dec.{eqb}
use lib.ListN.{length}
use Rattle.field.proofs.Tests.{and_left, and_right}
use Rattle.file_record.proofs.Records.{record-fits}
use Rattle.mainfile_formats.proofs.Sequence.{long, or-known}
use Rattle.mainfile_formats.proofs.standing.is_standing_name.Statement.{statement}
use Rattle.mainfile_formats.proofs.standing.is_standing_name.Tie as tie

whole-record-requires : tie.Need-whole_record-rec-requires
whole-record-requires c κs =
    let start = c.before in
    let has = start.requires.1 in
    (has, record-fits start.args.width start.args.file.now start.args.i has)

whole-record-requires-2 : tie.Need-whole_record-before-requires
whole-record-requires-2 c κs =
    let start = c.before.before in
    let a = start.args in
    let has : a.i - 1 < length a.file.now / a.width = omega (arith, start.requires.0, start.requires.1) in
    (has, record-fits a.width a.file.now (a.i - 1) has)

is-rising-key-requires : tie.Need-is_rising_key-above-requires
is-rising-key-requires c κs =
    let rec = c.before in
    let start = rec.before.before in
    let a = start.args in
    let wide : 8 ≤ a.width = omega (arith, start.requires.5) in (
      rw c.whole_record-before.ensures (long a.width 8 a.file.now (a.i - 1) (omega (arith, start.requires.0, start.requires.1)) wide),
      rw rec.whole_record-rec.ensures (long a.width 8 a.file.now a.i start.requires.1 wide),
    )

is-fine-name-requires : tie.Need-is_fine_name-requires
is-fine-name-requires c κs =
    let rec = c.before.before in
    let start = rec.before.before in
    let a = start.args in (
      rw rec.whole_record-rec.ensures (long a.width 8 a.file.now a.i start.requires.1 (omega (arith, start.requires.5))),
      start.requires.2,
      start.requires.3,
      start.requires.4,
      start.requires.5,
    )

returns : tie.Need-returns
returns c =
    let rising = c in
    let prior = rising in
    let rec = prior in
    let i = rec.args.i in
    λ e.
    let fine = c.is_fine_name.result in (
      rw rec.whole_record-rec.ensures at (c.is_fine_name.ensures (and_left fine _ e)),
      or-known (eqb i 1) rising.is_rising_key-above.result _
          (rw (rec.whole_record-rec.ensures, prior.whole_record-before.ensures) at rising.is_rising_key-above.ensures) (and_right fine _ e),
    )

pub is_standing_name_spec : {M : Type 1} → statement M
is_standing_name_spec =
    tie.close
    (tie.spec
    whole-record-requires
    (search rules)
    whole-record-requires-2
    is-rising-key-requires
    is-fine-name-requires
    returns)
