-- `file_fault::fine::are_places` meets its contract. Assumes nothing.
use borrow.Author.Rules.{rules}
use mathlib.Core.Path.{sym, ◌∙◌}
use Rattle.field.proofs.Tests.{and_left, and_right}
use Rattle.file_fault.proofs.AtOnce.{three-texts}
use Rattle.file_fault.proofs.fine.are_places.Statement.{statement}
use Rattle.file_fault.proofs.fine.are_places.Tie as tie

returns : tie.Need-returns
returns c =
    let q = c in
    let m = q in
    let p = m in
    λ e.
    let most = m.are_text-most.result in
    let rest = c.are_text-rest.result in
    three-texts p.args.rec.now p.args.town
    (rw p.part_of.ensures at (sym m.are_text-most.ensures ∙ and_left most rest e))
    (rw q.part_of-2.ensures at (sym c.are_text-rest.ensures ∙ and_right most rest e))

pub are_places_spec : {M : Type 1} → statement M
are_places_spec = tie.close (tie.spec (search rules) (search rules) (search rules) (search rules) (search rules) (search rules) (search rules) returns)
