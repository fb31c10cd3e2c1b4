use Rattle.std.proofs.Common.{Bool, length, sym, ap, ◌∙◌, arith}
use mathlib.Core.Bool.{◌&&◌}
use Rattle.field.proofs.Tests.{and-false}
use Rattle.book.specs.Layout.{slot_at, view_of}
use Rattle.book.specs.Book.{identity, used}
use Rattle.book_check.proofs.Slots.{identity-long, other-words}
use Rattle.book_check.proofs.inner.is_keeper.Goals as goal

pub eight_at-requires : goal.eight_at-requires
eight_at-requires c =
    omega (
      arith,
      ap length c.identity_of-kept.ensures,
      identity-long c.args.book.now c.args.s c.requires.0 c.requires.1,
    )

pub returns-then-eight_at : goal.returns-then-eight_at
returns-then-eight_at c =
    let slot = slot_at c.args.book.now in
    let s = c.args.s in
    let differs =
    other-words (identity (view_of (slot s))) c.args.id.now 1 9 _ _ (rw c.identity_of-kept.ensures at c.eight_at.ensures)
    c.eight_at-2.ensures c.if-eight_at.true in
    sym (ap (λ (t : Bool). used slot s && t) differs ∙ and-false (used slot s))
