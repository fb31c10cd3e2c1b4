-- `changes_points::point_rest_fault` meets its contract. Assumes nothing.
use borrow.Author.Rules.{rules}
use mathlib.Core.Path.{sym, ◌∙◌}
use borrow.Author.Tests.{ne_eqb}
use Rattle.changes_points.proofs.point_rest_fault.Statement.{statement}
use Rattle.changes_points.proofs.point_rest_fault.Tie as tie

returns : tie.Need-returns-in-49
returns c =
    let m = c in
    rw c.view_fault.ensures (simp (sym m.byte_of-kind.ensures ∙ m.in-49.is))

returns-2 : tie.Need-returns-in-50
returns-2 c =
    let m = c in
    rw (c.organisation_fault.ensures, c.filled_at-name.ensures) (simp (sym m.byte_of-kind.ensures ∙ m.in-50.is))

returns-3 : tie.Need-returns-in-51
returns-3 c =
    let m = c in
    rw (c.organisation_fault-in-51.ensures, c.text_at-name.ensures) (simp (sym m.byte_of-kind.ensures ∙ m.in-51.is))

returns-4 : tie.Need-returns-in_default
returns-4 c =
    let n = rw c.byte_of-kind.ensures at c.in_default.in_default-own.rest in
    simp (ne_eqb _ 49 n.0.0.1, ne_eqb _ 50 n.0.1, ne_eqb _ 51 n.1)

pub point_rest_fault_spec : {M : Type 1} → statement M
point_rest_fault_spec =
    tie.close
    (tie.spec
    (λ c κs. search rules)
    (λ c κs. search rules)
    (λ c κs. search rules)
    (λ c κs. search rules)
    (λ c κs. search rules)
    (λ c κs. search rules)
    returns
    returns-2
    returns-3
    returns-4)
