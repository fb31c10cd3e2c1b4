use Rattle.std.proofs.Common.{sym, ◌∙◌}
use Rattle.std.proofs.lemmas.List.{take_rest}
use Rattle.csv_label.proofs.RowLaws.{behind-part}
use Rattle.csv_label.proofs.places.past_sixteens.Goals as goal

pub loop-n-preserved : goal.loop-n-preserved
loop-n-preserved c =
    let rest = take_rest c.args.csv.now c.args.at in
    let inside = rw (c.as_chunks.ensures.front_len, rest) at c.loop-n-test.true in
    let passed = rw (c.as_chunks.ensures.front, rest, c.if-not-has_none.false) at c.has_none.ensures in
    c.loop-n.invariant ∙ behind-part c.args.csv.now c.args.at c.loop-n.n _ inside (sym passed)
