-- `field_word::inner::eight_blank` meets its contract. Assumes nothing.
use Rattle.std.proofs.Common.{◌+◌, lit<, rules}
use Rattle.field.specs.Text.{part}
use Rattle.field_word.proofs.Laws.{only-is, part-eight}
use Rattle.field_word.proofs.inner.eight_blank.Statement.{statement}
use Rattle.field_word.proofs.inner.eight_blank.Tie as tie

returns : tie.Need-returns
returns c =
    let start = c in
    only-is 32 (lit< tt) (part start.args.s.now start.args.i (start.args.i + 8)) 8 _
    (part-eight start.args.s.now start.args.i start.requires) c.eight_at.ensures

pub eight_blank_spec : {M : Type 1} → statement M
eight_blank_spec = tie.close (tie.spec (search rules) returns)
