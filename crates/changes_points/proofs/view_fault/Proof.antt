-- `changes_points::view_fault` meets its contract. Assumes nothing.
use borrow.Author.Rules.{rules}
use mathlib.Core.Path.{sym}
use Rattle.file_fault.proofs.Laws.{view-digits}
use Rattle.changes_points.proofs.view_fault.Statement.{statement}
use Rattle.changes_points.proofs.view_fault.Tie as tie

returns : tie.Need-returns
returns c =
    let behind-digits-at2 = c in
    let behind-first-of4 = behind-digits-at2 in
    let behind-yes-at2 = behind-first-of4 in
    let behind-first-of3 = behind-yes-at2 in
    let behind-text-at = behind-first-of3 in
    let behind-first-of2 = behind-text-at in
    let behind-yes-at = behind-first-of2 in
    let behind-first-of = behind-yes-at in
    let behind-digits-at = behind-first-of in
    let at-start = behind-digits-at in
    rw (c.first_of.ensures, behind-digits-at2.digits_at-2.ensures, behind-first-of4.first_of-concatenation.ensures, behind-yes-at2.yes_at-2.ensures, behind-first-of3.first_of-po_box.ensures, behind-text-at.text_at.ensures, behind-first-of2.first_of-indicator.ensures, behind-yes-at.yes_at.ensures, behind-first-of.first_of-reason.ensures, behind-digits-at.digits_at.ensures)
    (sym (view-digits at-start.args.rec.now _))

pub view_fault_spec : {M : Type 1} → statement M
view_fault_spec =
    tie.close
    (tie.spec
    (λ c κs. search rules)
    (λ c κs. search rules)
    (λ c κs. search rules)
    (λ c κs. search rules)
    (λ c κs. search rules)
    (λ c κs. search rules)
    (λ c κs. search rules)
    (λ c κs. search rules)
    (λ c κs. search rules)
    (λ c κs. search rules)
    returns)
