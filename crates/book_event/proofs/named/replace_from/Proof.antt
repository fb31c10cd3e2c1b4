-- `book_event::named::replace_from` meets its contract. Assumes nothing.
use borrow.Author.Rules.{rules}
use Prim.Native.Nat.{ℕ}
use mathlib.Core.Path.{refl, sym, ap, ◌∙◌}
use mathlib.Core.Bool.{Bool, cond}
use mathlib.Core.Option.{none, some}
use borrow.Author.Tests.{not-true, not-false}
use Rattle.refusal.proofs.Outcomes.{said-as}
use Rattle.book.specs.Event.{replace, present_at, next_view, replacement, event_done}
use Rattle.book_event.proofs.Events.{paired-below}
use Rattle.book_event.proofs.named.replace_from.Statement.{statement}
use Rattle.book_event.proofs.named.replace_from.Tie as tie

returns : tie.Need-returns-then-not-is_paired
returns c =
    let behind-if1 = c in
    let behind-is-paired = behind-if1 in
    let start = behind-is-paired in
    let a = start.args in
    let points = a.points.now in
    let none-there = sym behind-is-paired.is_paired.ensures ∙ behind-if1.if-not-is_paired.true in
    said-as c.unpaired.ensures refl
    ∙ ap
    (λ (t : Bool). event_done a.book.now (cond t (some (replace (present_at points (next_view points a.place)))) none))
    (sym none-there)

replace-by-requires : tie.Need-replace_by-requires
replace-by-requires c κs =
    let behind-if1 = c in
    let behind-is-paired = behind-if1 in
    let behind-next-wanted = behind-is-paired in
    let start = behind-next-wanted in
    let points = start.args.points.now in
    let there = sym behind-is-paired.is_paired.ensures ∙ behind-if1.if-not-is_paired.false in
    (start.requires.0, rw behind-next-wanted.next_wanted-next.ensures (paired-below points start.args.place there))

returns-2 : tie.Need-returns
returns-2 c =
    let behind-replace-by = c in
    let behind-if1 = behind-replace-by in
    let behind-is-paired = behind-if1 in
    let behind-next-wanted = behind-is-paired in
    let start = behind-next-wanted in
    let a = start.args in
    let points = a.points.now in
    let there = sym behind-is-paired.is_paired.ensures ∙ behind-if1.if-not-is_paired.false in
    behind-replace-by.replace_by.ensures
    ∙ (ap (λ (n : ℕ). replacement a.book.now (present_at points n)) behind-next-wanted.next_wanted-next.ensures
    ∙ ap
    (λ (t : Bool). event_done a.book.now (cond t (some (replace (present_at points (next_view points a.place)))) none))
    (sym there))

pub replace_from_spec : {M : Type 1} → statement M
replace_from_spec =
    tie.close
    (tie.spec (search rules) (search rules) (search rules) (search rules) (search rules) returns replace-by-requires
    (search rules) returns-2)
