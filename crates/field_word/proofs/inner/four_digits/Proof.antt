-- `field_word::inner::four_digits` meets its contract. Assumes nothing.
use Rattle.std.proofs.Common.{arith, rules}
use Rattle.field_word.proofs.Numbers.{four-weigh}
use Rattle.field_word.proofs.inner.four_digits.Statement.{statement}
use Rattle.field_word.proofs.inner.four_digits.Tie as tie

returns : tie.Need-returns
returns c =
    let high = c in
    let start = high in
    let first = high.two_digits.ensures in
    let second = c.two_digits-2.ensures in
    (rw (first.0, second.0) (four-weigh start.args.v start.requires), omega (arith, first.1, second.1))

pub four_digits_spec : {M : Type 1} → statement M
four_digits_spec =
    tie.close (tie.spec (search rules) (search rules) (search rules) (search rules) returns)
