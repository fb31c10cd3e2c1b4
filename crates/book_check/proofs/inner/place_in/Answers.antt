use Rattle.std.proofs.Common.{◌∙◌}
use Rattle.book_check.proofs.Slots.{slot-place}
use Rattle.book_check.proofs.inner.place_in.Goals as goal

pub returns : goal.returns
returns c =
    let r = c.number_within.ensures in
    (r.0 ∙ slot-place c.args.book.now c.args.s c.requires.0 c.requires.1, r.1)
