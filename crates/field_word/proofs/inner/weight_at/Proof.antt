-- `field_word::inner::weight_at` meets its contract. Assumes nothing.
use Rattle.std.proofs.Common.{rules}
use Rattle.field_word.proofs.Laws.{part-eight}
use Rattle.field_word.proofs.inner.weight_at.Statement.{statement}
use Rattle.field_word.proofs.inner.weight_at.Tie as tie

returns : tie.Need-returns
returns c =
    let eight = c in
    let start = eight in
    record {
      is = c.turned.ensures _ (part-eight start.args.s.now start.args.i start.requires) eight.eight_at.ensures;
      small = eight.eight_at.ensures.small;
    }

pub weight_at_spec : {M : Type 1} → statement M
weight_at_spec = tie.close (tie.spec (search rules) (search rules) returns)
