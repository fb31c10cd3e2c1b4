-- `book_event::named::event_at` meets its contract. Assumes nothing.
use borrow.Author.Rules.{rules}
use mathlib.Core.Path.{refl, sym, ap, ◌∙◌}
use mathlib.Core.List.{List}
use Prim.Native.Nat.{ℕ}
use native.Mathlib.Omega.{arith}
use lib.ListN.{length, get_or}
use Rattle.refusal.proofs.Outcomes.{said-as}
use Rattle.file_record.specs.Names.Point
use Rattle.book.specs.Book.{identity}
use Rattle.book.specs.Event.{removal, event_done}
use Rattle.book_event.proofs.Events.{identity-there, event-inserted, event-removed, event-replaced, event-none}
use Rattle.book_event.proofs.named.event_at.Statement.{statement}
use Rattle.book_event.proofs.named.event_at.Tie as tie

-- no goal is called by its test, so that another letter is refused for what it means
pub event_at_spec : {M : Type 1} → statement M
event_at_spec =
    tie.close
    (tie.spec (search rules) (search rules) (search rules) (search rules)
    (λ c.
    let letter = c.byte_of-letter.ensures ∙ ap (λ (l : List ℕ). get_or l Point.letter 0) c.point_record-rec.ensures in
    c.insert_from.ensures
    ∙ ap (event_done c.args.book.now) (sym (event-inserted c.args.points.now c.args.place (omega (arith, letter)))))
    (search rules)
    (λ c κs.
    let id = c.part_of.ensures ∙ ap identity c.point_record-rec.ensures in
    (c.requires.0, ap length id ∙ identity-there c.args.points.now c.args.place c.requires.1))
    (search rules)
    (λ c.
    let letter = c.byte_of-letter.ensures ∙ ap (λ (l : List ℕ). get_or l Point.letter 0) c.point_record-rec.ensures in
    let id = c.part_of.ensures ∙ ap identity c.point_record-rec.ensures in
    c.remove.ensures
    ∙ (ap (removal c.args.book.now) id
    ∙ ap (event_done c.args.book.now)
    (sym (event-removed c.args.points.now c.args.place (λ z. omega (arith, z, letter)) (omega (arith, letter))))))
    (search rules) (search rules)
    (λ c.
    let letter = c.byte_of-letter.ensures ∙ ap (λ (l : List ℕ). get_or l Point.letter 0) c.point_record-rec.ensures in
    c.replace_from.ensures
    ∙ ap (event_done c.args.book.now)
    (sym
    (event-replaced c.args.points.now c.args.place (λ z. omega (arith, z, letter)) (λ z. omega (arith, z, letter)) (omega (arith, letter)))))
    (search rules)
    (λ c.
    let letter = c.byte_of-letter.ensures ∙ ap (λ (l : List ℕ). get_or l Point.letter 0) c.point_record-rec.ensures in
    said-as c.unpaired.ensures refl
    ∙ ap (event_done c.args.book.now)
    (sym
    (event-none c.args.points.now c.args.place (λ z. omega (arith, z, letter)) (λ z. omega (arith, z, letter)) (λ z. omega (arith, z, letter))))))
