-- `changes_table::fine::is_fine_head` meets its contract. Assumes nothing.
use borrow.Author.Rules.{rules}
use mathlib.Core.Path.{sym, ◌∙◌}
use mathlib.Core.Bool.{not}
use borrow.Author.Tests.{not-true, eqb-true}
use lib.Dec.{eqb}
use Rattle.file_fault.proofs.AtOnce.{three}
use Rattle.changes_table.proofs.Laws.{head-fine}
use Rattle.changes_table.proofs.fine.is_fine_head.Statement.{statement}
use Rattle.changes_table.proofs.fine.is_fine_head.Tie as tie

returns : tie.Need-returns
returns c =
    let z = c in
    let p = z in
    let d = p in
    λ e kind.
    let each = three d.head_digits-digits.result (not z.all_are-zero.result) (eqb c.letter_at-letter.result 0) e in
    let digits = d.head_digits-digits.ensures each.0 in
    head-fine d.args.rec.now kind
    (rw p.part_of.ensures at (sym z.all_are-zero.ensures ∙ not-true _ each.1))
    digits.0
    digits.1
    (sym c.letter_at-letter.ensures ∙ eqb-true _ 0 each.2)

pub is_fine_head_spec : {M : Type 1} → statement M
is_fine_head_spec =
    tie.close
    (tie.spec (λ c κs. search rules) (λ c κs. search rules) (λ c κs. search rules) (λ c κs. search rules) returns)
