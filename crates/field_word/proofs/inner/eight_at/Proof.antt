-- `field_word::inner::eight_at` meets its contract. Assumes nothing.
use Rattle.std.proofs.Common.{◌+◌, arith, rules}
use Rattle.field_word.proofs.Laws.{eight-word, four-fits}
use Rattle.field_word.proofs.inner.eight_at.Statement.{statement}
use Rattle.field_word.proofs.inner.eight_at.Tie as tie

mul-result : tie.Need-overflow_mul-result
mul-result c =
    let start = c in
    omega (
      arith,
      four-fits start.args.s.now (start.args.i + 4) c.four_at-2.result (omega arith) c.four_at-2.ensures,
    )

add-result : tie.Need-overflow_add-result
add-result c =
    let first = c in
    let start = first in
    let s = start.args.s.now in
    let i = start.args.i in
    omega (
      arith,
      four-fits s i first.four_at.result (omega arith) first.four_at.ensures,
      four-fits s (i + 4) c.four_at-2.result (omega arith) c.four_at-2.ensures,
    )

returns : tie.Need-returns
returns c =
    let first = c in
    let start = first in
    eight-word start.args.s.now start.args.i _ _ start.requires first.four_at.ensures c.four_at-2.ensures

pub eight_at_spec : {M : Type 1} → statement M
eight_at_spec =
    tie.close
    (tie.spec (search rules) (search rules) (search rules) mul-result add-result returns)
