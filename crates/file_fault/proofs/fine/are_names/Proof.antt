-- `file_fault::fine::are_names` meets its contract. Assumes nothing.
use borrow.Author.Rules.{rules}
use Rattle.file_fault.proofs.AtOnce.{names-text}
use Rattle.field.proofs.Tests.{and_left, and_right}
use mathlib.Core.Path.{sym, ◌∙◌}
use Rattle.file_fault.proofs.fine.are_names.Statement.{statement}
use Rattle.file_fault.proofs.fine.are_names.Tie as tie

returns : tie.Need-returns
returns c =
    let other = c in
    let most = other in
    let part = most in
    λ e.
    let front = most.are_text-most.result in
    let back = c.are_text-rest.result in
    names-text part.args.rec.now part.args.name
    (rw part.part_of.ensures at (sym most.are_text-most.ensures ∙ and_left front back e))
    (rw other.part_of-2.ensures at (sym c.are_text-rest.ensures ∙ and_right front back e))

pub are_names_spec : {M : Type 1} → statement M
are_names_spec = tie.close (tie.spec (search rules) (search rules) (search rules) (search rules) (search rules) (search rules) (search rules) returns)
