-- `field_word::inner::four_blank` meets its contract. Assumes nothing.
use Rattle.std.proofs.Common.{◌+◌, lit<, rules}
use Rattle.field.specs.Text.{part}
use Rattle.field_word.proofs.Laws.{only-is, part-four}
use Rattle.field_word.proofs.inner.four_blank.Statement.{statement}
use Rattle.field_word.proofs.inner.four_blank.Tie as tie

returns : tie.Need-returns
returns c =
    let start = c in
    only-is 32 (lit< tt) (part start.args.s.now start.args.i (start.args.i + 4)) 4 _
    (part-four start.args.s.now start.args.i start.requires) c.four_at.ensures

pub four_blank_spec : {M : Type 1} → statement M
four_blank_spec = tie.close (tie.spec (search rules) returns)
