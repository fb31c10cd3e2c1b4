use Rattle.std.proofs.Common.{sym, ◌∙◌}
use Rattle.book_check.proofs.Kept.{kept-faulty, kept-sound}
use Rattle.book_check.proofs.fine.is_well_kept.Goals as goal

pub returns-then-not-is_faultless : goal.returns-then-not-is_faultless
returns-then-not-is_faultless c =
    sym (kept-faulty c.args.view.now c.args.next.now (sym c.is_faultless.ensures ∙ c.if-not-is_faultless.true))

pub returns : goal.returns
returns c =
    rw (c.is_followed.ensures, c.is_live-live.ensures, c.byte_of-kind.ensures)
    (sym (kept-sound c.args.view.now c.args.next.now (sym c.is_faultless.ensures ∙ c.if-not-is_faultless.false)))
