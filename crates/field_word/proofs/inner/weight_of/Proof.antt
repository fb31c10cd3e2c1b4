-- `field_word::inner::weight_of` meets its contract. Assumes nothing.
use Rattle.std.proofs.Common.{rules}
use Rattle.field_word.proofs.Numbers.{eight-weigh}
use Rattle.field_word.proofs.inner.weight_of.Statement.{statement}
use Rattle.field_word.proofs.inner.weight_of.Tie as tie

returns : tie.Need-returns
returns c =
    let high = c in
    let start = high in
    rw (high.four_digits.ensures.0, c.four_digits-2.ensures.0) (eight-weigh start.args.v start.requires)

pub weight_of_spec : {M : Type 1} → statement M
weight_of_spec =
    tie.close (tie.spec (search rules) (search rules) (search rules) (search rules) returns)
