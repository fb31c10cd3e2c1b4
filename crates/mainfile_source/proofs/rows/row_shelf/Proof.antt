-- `mainfile_source::rows::row_shelf` meets its contract. Assumes nothing.
use borrow.Author.Rules.{rules}
use mathlib.Core.Path.{◌∙◌}
use borrow.Author.Tests.{eq-eqb, ne_eqb}
use Rattle.mainfile_source.proofs.rows.row_shelf.Statement.{statement}
use Rattle.mainfile_source.proofs.rows.row_shelf.Tie as tie

returns : tie.Need-returns-then-kind-eq1
returns c = simp (eq-eqb _ 1 c.if-kind-eq1.true)

returns-2 : tie.Need-returns-then-kind-eq2
returns-2 c =
    let second = c in
    c.text_shelf.ensures
    ∙ simp (ne_eqb _ 1 second.if-kind-eq1.false, eq-eqb _ 2 second.if-kind-eq2.true)

returns-3 : tie.Need-returns-then-kind-eq3
returns-3 c =
    let third = c in
    let second = third in
    c.text_shelf-then-kind-eq3.ensures
    ∙ simp (ne_eqb _ 1 second.if-kind-eq1.false, ne_eqb _ 2 second.if-kind-eq2.false, eq-eqb _ 3 third.if-kind-eq3.true)

returns-4 : tie.Need-returns-then-kind-eq4
returns-4 c =
    let fourth = c in
    let third = fourth in
    let second = third in
    c.text_shelf-then-kind-eq4.ensures
    ∙ simp (
      ne_eqb _ 1 second.if-kind-eq1.false,
      ne_eqb _ 2 second.if-kind-eq2.false,
      ne_eqb _ 3 third.if-kind-eq3.false,
      eq-eqb _ 4 fourth.if-kind-eq4.true,
    )

returns-5 : tie.Need-returns
returns-5 c =
    let fourth = c in
    let third = fourth in
    let second = third in
    c.text_shelf-2.ensures
    ∙ simp (
      ne_eqb _ 1 second.if-kind-eq1.false,
      ne_eqb _ 2 second.if-kind-eq2.false,
      ne_eqb _ 3 third.if-kind-eq3.false,
      ne_eqb _ 4 fourth.if-kind-eq4.false,
    )

pub row_shelf_spec : {M : Type 1} → statement M
row_shelf_spec = tie.close (tie.spec returns (λ c κs. search rules) returns-2 (λ c κs. search rules) returns-3 (λ c κs. search rules) returns-4 (λ c κs. search rules) returns-5)
