use Rattle.std.proofs.Common.{◌+◌, length, ap, ◌∙◌, arith}
use Rattle.book.specs.Layout.{slot_at}
use Rattle.book.specs.Book.{holder}
use Rattle.book.proofs.Laid.{slot-long}
use Rattle.book_check.proofs.Kept.{book-long}
use Rattle.book_change.proofs.Writes.{held_below}
use Rattle.book_change.proofs.slot.tidy_in.Goals as goal

pub holder_of-from-requires : goal.holder_of-from-requires
holder_of-from-requires c = book-long c.args.old.now c.requires.1

pub slot_of-requires : goal.slot_of-requires
slot_of-requires c =
    let old = c.args.old.now in
    let held = held_below old c.requires.1 (c.args.s + 1) (omega arith) (omega arith) in
    (book-long old c.requires.1, rw c.holder_of-from.ensures held)

pub set_slot-requires : goal.set_slot-requires
set_slot-requires c =
    let old = c.args.old.now in
    let from = holder (slot_at old) (c.args.s + 1) in
    let held = held_below old c.requires.1 (c.args.s + 1) (omega arith) (omega arith) in (
      c.requires.0,
      ap length (c.slot_of.ensures ∙ ap (slot_at old) c.holder_of-from.ensures) ∙ slot-long old (book-long old c.requires.1) from held,
    )
