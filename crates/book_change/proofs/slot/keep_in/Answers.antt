use Rattle.std.proofs.Common.{◌+◌, ◌*◌, ◌≤◌, length, arith}
use Rattle.label.proofs.Going.{put_three}
use Rattle.book.specs.Layout.{slot_width}
use Rattle.book.specs.Event.{slot_bytes}
use Rattle.book.proofs.Laid.{slot-wide}
use Rattle.book_change.specs.Slotted.{present}
use Rattle.book_change.proofs.Writes.{put-set}
use Rattle.book_change.proofs.slot.keep_in.Goals as goal

pub returns : goal.returns
returns c =
    let a = c.args in
    let new = present a.view.now a.follower.now in
    let wide = slot-wide a.place new c.requires.1.view_long c.requires.1.follower_long in
    let room : a.s * slot_width + length (slot_bytes a.place new) ≤ length a.book.now = omega (arith, wide, c.requires.0.long, c.requires.0.low) in
    put-set a.book.now _ a.s c.requires.0 wide
    (put_three a.view.now a.follower.now room c.short_at-i.ensures c.bytes_at-j.ensures c.bytes_at.ensures)
