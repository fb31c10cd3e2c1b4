-- `book_event::named::is_paired` meets its contract. Assumes nothing.
use borrow.Author.Rules.{rules}
use Prim.Native.Nat.{◌≤◌, ◌<◌}
use mathlib.Core.Path.{sym}
use native.Mathlib.Omega.{arith}
use Rattle.changes_views.specs.Views.{last_of}
use Rattle.book.specs.Event.{next_view}
use Rattle.book_event.proofs.Events.{paired_none, paired-some}
use Rattle.book_event.proofs.named.is_paired.Statement.{statement}
use Rattle.book_event.proofs.named.is_paired.Tie as tie

returns : tie.Need-returns-then-last_of-next
returns c =
    let s = c in
    let points = s.args.points.now in
    let behind : last_of points ≤ next_view points s.args.place =
    omega (arith, c.last_of.ensures, c.if-last_of-next.true, s.requires) in
    sym (paired_none points s.args.place behind)

returns-2 : tie.Need-returns
returns-2 c =
    let behind-part-of2 = c in
    let behind-point-record2 = behind-part-of2 in
    let behind-part-of = behind-point-record2 in
    let behind-byte-of = behind-part-of in
    let behind-point-record = behind-byte-of in
    let behind-if1 = behind-point-record in
    let behind-last-of = behind-if1 in
    let start = behind-last-of in
    let points = start.args.points.now in
    let inside : next_view points start.args.place < last_of points =
    omega (arith, behind-last-of.last_of.ensures, behind-if1.if-last_of-next.false, start.requires) in
    rw (
      c.same_bytes-same.ensures,
      behind-part-of2.part_of-2.ensures,
      behind-point-record2.point_record.ensures,
      behind-part-of.part_of.ensures,
      behind-byte-of.byte_of-ends.ensures,
      behind-point-record.point_record-rec.ensures,
      start.requires,
    )
    (sym (paired-some points start.args.place inside))

pub is_paired_spec : {M : Type 1} → statement M
is_paired_spec =
    tie.close
    (tie.spec (search rules) returns (search rules) (search rules) (search rules) (search rules) (search rules) (search rules)
    returns-2)
