-- `book_event::named::replace_by` meets its contract. Assumes nothing.
use borrow.Author.Rules.{rules}
use Prim.Native.Nat.{ℕ}
use mathlib.Core.Path.{refl, sym, ap, ap₂, ◌∙◌}
use mathlib.Core.List.{List}
use lib.ListN.{length}
use Rattle.file_record.specs.Names.Point
use Rattle.file.specs.Formats.{needed}
use Rattle.book.specs.Layout.{zeros}
use Rattle.book.specs.Event.{replacement}
use Rattle.book_change.specs.Slotted.{present}
use Rattle.book_event.proofs.Events.{view-there, next-there, present-alone, present-followed}
use Rattle.book_event.proofs.named.replace_by.Statement.{statement}
use Rattle.book_event.proofs.named.replace_by.Tie as tie

replace-requires : tie.Need-replace-requires
replace-requires c κs =
    let behind-point-record = c in
    let start = behind-point-record in
    let there = view-there start.args.points.now start.args.place start.requires.1 in
    (start.requires.0, record { view_long = ap length behind-point-record.point_record-view.ensures ∙ there; follower_long = refl })

returns : tie.Need-returns-then-needed_next-eq0
returns c =
    let behind-replace = c in
    let behind-if1 = behind-replace in
    let behind-needed-next = behind-if1 in
    let behind-point-record = behind-needed-next in
    let start = behind-point-record in
    let a = start.args in
    let view = behind-point-record.point_record-view.ensures in
    let alone = ap needed (sym view) ∙ (sym behind-needed-next.needed_next.ensures ∙ behind-if1.if-needed_next-eq0.true) in
    behind-replace.replace.ensures
    ∙ ap (replacement a.book.now)
    (ap (λ (v : List ℕ). present v (zeros Point.width)) view ∙ sym (present-alone a.points.now a.place alone))

replace-requires-2 : tie.Need-replace-requires-2
replace-requires-2 c κs =
    let behind-point-record = c in
    let start = behind-point-record in
    let there = view-there start.args.points.now start.args.place start.requires.1 in
    let next = next-there start.args.points.now start.args.place start.requires.1 in (
      start.requires.0,
      record {
        view_long = ap length behind-point-record.point_record-view.ensures ∙ there;
        follower_long = ap length c.point_record.ensures ∙ next;
      },
    )

returns-2 : tie.Need-returns
returns-2 c =
    let behind-replace2 = c in
    let behind-point-record2 = behind-replace2 in
    let behind-if1 = behind-point-record2 in
    let behind-needed-next = behind-if1 in
    let behind-point-record = behind-needed-next in
    let start = behind-point-record in
    let a = start.args in
    let view = behind-point-record.point_record-view.ensures in
    let next = behind-point-record2.point_record.ensures in
    behind-replace2.replace-2.ensures
    ∙ ap (replacement a.book.now)
    (ap₂ present view next
    ∙ sym
    (present-followed a.points.now a.place
    (λ z. behind-if1.if-needed_next-eq0.false (behind-needed-next.needed_next.ensures ∙ (ap needed view ∙ z)))))

pub replace_by_spec : {M : Type 1} → statement M
replace_by_spec =
    tie.close
    (tie.spec (search rules) (search rules) (search rules) replace-requires (search rules) returns (search rules)
    (search rules) replace-requires-2 (search rules) returns-2)
