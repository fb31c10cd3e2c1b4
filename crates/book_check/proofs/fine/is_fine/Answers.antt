use Rattle.std.proofs.Common.{length, sym, ap, ◌∙◌}
use Rattle.book.specs.Layout.{slot_at}
use Rattle.book_check.proofs.Slots.{identity-long}
use Rattle.book_check.proofs.Kept.{fine-free, fine-ill, fine-well}
use Rattle.book_check.proofs.fine.is_fine.Goals as goal

pub returns-then-place_in-eq0 : goal.returns-then-place_in-eq0
returns-then-place_in-eq0 c =
    rw (c.all_are.ensures, c.slot_of.ensures)
    (sym (fine-free (slot_at c.args.book.now) c.args.s (rw c.place_in.ensures.0 at c.if-place_in-eq0.true)))

pub returns-then-not-is_well_kept : goal.returns-then-not-is_well_kept
returns-then-not-is_well_kept c =
    let kept = rw (c.follower_of.ensures, c.view_of.ensures) at c.is_well_kept.ensures in
    sym
    (fine-ill (slot_at c.args.book.now) c.args.s (rw c.place_in.ensures.0 at c.if-place_in-eq0.false)
    (sym kept ∙ c.if-not-is_well_kept.true))

pub keeper_of-requires : goal.keeper_of-requires
keeper_of-requires c = (
  c.requires.0,
  ap length c.identity_of.ensures ∙ identity-long c.args.book.now c.args.s c.requires.0 c.requires.1,
)

pub returns : goal.returns
returns c =
    let kept = rw (c.follower_of.ensures, c.view_of.ensures) at c.is_well_kept.ensures in
    rw (c.keeper_of.ensures, c.identity_of.ensures)
    (sym
    (fine-well (slot_at c.args.book.now) c.args.s (rw c.place_in.ensures.0 at c.if-place_in-eq0.false)
    (sym kept ∙ c.if-not-is_well_kept.false)))
