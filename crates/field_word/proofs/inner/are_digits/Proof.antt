-- `field_word::inner::are_digits` meets its contract. Assumes nothing.
use Rattle.std.proofs.Common.{rules, eqb-true}
use Rattle.field_word.proofs.Laws.{part-eight}
use Rattle.field_word.proofs.inner.are_digits.Statement.{statement}
use Rattle.field_word.proofs.inner.are_digits.Tie as tie

returns : tie.Need-returns
returns c =
    let word = c in
    let start = word in
    λ e.
    c.others_in.ensures _ (part-eight start.args.s.now start.args.i start.requires) word.eight_at.ensures
    (eqb-true _ 0 e)

pub are_digits_spec : {M : Type 1} → statement M
are_digits_spec = tie.close (tie.spec (search rules) (search rules) returns)
