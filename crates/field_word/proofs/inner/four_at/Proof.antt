-- `field_word::inner::four_at` meets its contract. Assumes nothing.
use Rattle.std.proofs.Common.{rules}
use Rattle.field_word.proofs.Laws.{four-word}
use Rattle.field_word.proofs.inner.four_at.Statement.{statement}
use Rattle.field_word.proofs.inner.four_at.Tie as tie

returns : tie.Need-returns
returns c =
    let third = c in
    let second = third in
    let first = second in
    let start = first in
    four-word start.args.s.now start.args.i _ _ _ _ start.requires first.byte_at.ensures second.byte_at-2.ensures
    third.byte_at-3.ensures c.byte_at-4.ensures

pub four_at_spec : {M : Type 1} → statement M
four_at_spec =
    tie.close
    (tie.spec
    (search rules)
    (search rules)
    (search rules)
    (search rules)
    (search rules)
    (search rules)
    (search rules)
    (search rules)
    (search rules)
    (search rules)
    (search rules)
    (search rules)
    (search rules)
    returns)
