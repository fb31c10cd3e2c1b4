-- `tally_count::inner::count_codes` meets its contract. Assumes nothing.
use borrow.Author.Rules.{rules}
use mathlib.Core.Path.{sym, subst}
use native.Mathlib.Omega.{arith}
use Rattle.tally.specs.Order.{Rises}
use Rattle.tally.proofs.Order.{sorted_rises}
use Rattle.tally_count.proofs.Counting.{counted-sorted}
use Rattle.tally_count.proofs.inner.count_codes.Statement.{statement}
use Rattle.tally_count.proofs.inner.count_codes.Tie as tie

count-runs-requires : tie.Need-count_runs-requires
count-runs-requires c κs =
    let v = c.before.before.before.before.before.before in
    let s = v.before.before.before.before.before in
    let codes = v.sort.auto.numbers in (
      subst Rises (sym v.sort.ensures.0) (sorted_rises s.args.codes.now),
      omega (arith, codes, v.sort.auto.spare, s.requires.0),
      omega (arith, codes, s.requires.1),
    )

returns : tie.Need-returns
returns c =
    let r = c in
    let v = r in
    counted-sorted _ v.sort.ensures.0 v.sort.ensures.1 r.count_runs.ensures

pub count_codes_spec : {M : Type 1} → statement M
count_codes_spec =
    tie.close (tie.spec (search rules) count-runs-requires (search rules) (search rules) returns)
