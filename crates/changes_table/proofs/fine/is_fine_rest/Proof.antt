-- `changes_table::fine::is_fine_rest` meets its contract. Assumes nothing.
use borrow.Author.Rules.{rules}
use mathlib.Core.Path.{sym, ◌∙◌}
use mathlib.Core.Bool.{false≢true}
use Rattle.changes_table.proofs.fine.is_fine_rest.Statement.{statement}
use Rattle.changes_table.proofs.fine.is_fine_rest.Tie as tie

returns : tie.Need-returns-in-49
returns c =
    let m = c in
    let kind = sym m.byte_of-kind.ensures ∙ m.in-49.is in
    λ e. (simp kind, simp kind (c.is_fine_locality.ensures e))

returns-2 : tie.Need-returns-in-50
returns-2 c =
    let m = c in
    let kind = sym m.byte_of-kind.ensures ∙ m.in-50.is in
    λ e. (simp kind, simp (kind, c.is_fine_text.ensures e))

returns-3 : tie.Need-returns-in-51
returns-3 c =
    let m = c in
    let kind = sym m.byte_of-kind.ensures ∙ m.in-51.is in
    λ e. (simp kind, simp (kind, c.is_fine_text-in-51.ensures e))

returns-4 : tie.Need-returns-in-52
returns-4 c =
    let m = c in
    let kind = sym m.byte_of-kind.ensures ∙ m.in-52.is in
    λ e. (simp kind, simp (kind, c.is_fine_text-in-52.ensures e))

returns-5 : tie.Need-returns-in-53
returns-5 c =
    let m = c in
    let kind = sym m.byte_of-kind.ensures ∙ m.in-53.is in
    λ e. (simp kind, simp (kind, c.is_fine_text-in-53.ensures e))

returns-6 : tie.Need-returns-in_default
returns-6 c = λ e. absurd (false≢true e)

pub is_fine_rest_spec : {M : Type 1} → statement M
is_fine_rest_spec =
    tie.close
    (tie.spec
    (λ c κs. search rules)
    (λ c κs. search rules)
    (λ c κs. search rules)
    (λ c κs. search rules)
    (λ c κs. search rules)
    (λ c κs. search rules)
    returns
    returns-2
    returns-3
    returns-4
    returns-5
    returns-6)
