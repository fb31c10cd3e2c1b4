-- `book_event::named::event_from` meets its contract. Assumes nothing.
use borrow.Author.Rules.{rules}
use Prim.Native.Nat.{◌≤◌}
use mathlib.Core.Path.{sym, ◌∙◌}
use native.Mathlib.Omega.{arith}
use Rattle.book_event.proofs.Events.{from-none, from_some}
use Rattle.book_event.proofs.named.event_from.Statement.{statement}
use Rattle.book_event.proofs.named.event_from.Tie as tie

returns : tie.Need-returns-then-place-eq0
returns c =
    let a = c.args in
    rw c.into.ensures (sym (from-none a.book.now a.points.now a.place c.if-place-eq0.true))

event-at-requires : tie.Need-event_at-requires
event-at-requires c κs =
    let s = c in
    let some : 1 ≤ s.args.place = omega (arith, c.if-place-eq0.false) in
    (s.requires.0, s.requires.1 some)

returns-2 : tie.Need-returns
returns-2 c =
    let behind-event-at = c in
    let behind-if1 = behind-event-at in
    let start = behind-if1 in
    let a = start.args in
    behind-event-at.event_at.ensures ∙ sym (from_some a.book.now a.points.now a.place behind-if1.if-place-eq0.false)

pub event_from_spec : {M : Type 1} → statement M
event_from_spec = tie.close (tie.spec (search rules) returns event-at-requires (search rules) returns-2)
