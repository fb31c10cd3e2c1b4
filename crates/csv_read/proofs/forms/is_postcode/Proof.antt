-- `csv_read::forms::is_postcode` meets its contract. Assumes nothing.
use borrow.Author.Rules.{rules}
use Prim.Native.Nat.{◌-◌}
use mathlib.Core.Path.{sym}
use native.Mathlib.Omega.{arith}
use lib.ListN.{length}
use lib.Seq.{length-take-le}
use Rattle.csv_read.proofs.FormLaws.{postcode-short, postcode-long, postcode-told, to_end}
use Rattle.csv_read.proofs.forms.is_postcode.Statement.{statement}
use Rattle.csv_read.proofs.forms.is_postcode.Tie as tie

returns : tie.Need-returns-then-n-lt6
returns c = postcode-short c.args.f.now c.if-n-lt6.true

returns-2 : tie.Need-returns-then-n-gt8
returns-2 c = postcode-long c.args.f.now c.if-n-lt6.false c.if-n-gt8.true

slice-aggregate-is-outward : tie.Need-slice_bounds-is_outward-length
slice-aggregate-is-outward c =
    let f = c.args.f.now in
    sym (length-take-le (length f - 4) f (omega arith))

is-outward-requires : tie.Need-is_outward-outward-requires
is-outward-requires c κs =
    let f = c.args.f.now in
    omega (arith, length-take-le (length f - 4) f (omega arith), c.if-n-lt6.false)

returns-3 : tie.Need-returns
returns-3 c =
    let outward = c in
    let long = outward in
    let f = long.args.f.now in
    postcode-told f _ _ long.if-n-lt6.false long.if-n-gt8.false outward.is_outward-outward.ensures
    (rw (to_end f (length f - 3)) at c.is_inward-inward.ensures)

pub is_postcode_spec : {M : Type 1} → statement M
is_postcode_spec =
    tie.close
    (tie.spec returns returns-2 (search rules) slice-aggregate-is-outward is-outward-requires (search rules)
    (search rules) (search rules) (search rules) (search rules) (search rules) (search rules) returns-3)
