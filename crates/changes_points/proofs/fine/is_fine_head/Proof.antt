-- `changes_points::fine::is_fine_head` meets its contract. Assumes nothing.
use borrow.Author.Rules.{rules}
use mathlib.Core.Path.{sym, ◌∙◌}
use mathlib.Core.Bool.{◌&&◌}
use borrow.Author.Tests.{eqb-true}
use lib.Dec.{eqb}
use Rattle.field.proofs.Tests.{and_left, and_right}
use Rattle.changes_points.proofs.Laws.{head-fine, good-outward}
use Rattle.file_fault.proofs.AtOnce.{three}
use Rattle.changes_points.proofs.fine.is_fine_head.Statement.{statement}
use Rattle.changes_points.proofs.fine.is_fine_head.Tie as tie

returns : tie.Need-returns
returns c =
    let l = c in
    let u = l in
    let s = u in
    let behind-part-of2 = s in
    let i = behind-part-of2 in
    let behind-part-of = i in
    let o = behind-part-of in
    λ e.
    let outward = o.is_fine_outward-outward.result in
    let inward = i.is_inward-inward.result in
    let suffix = s.is_suffix-suffix.result in
    let user = eqb u.postcode_type_at-user.result 0 in
    let letter = eqb l.letter_at-letter.result 0 in
    let kind = eqb c.type_at-kind.result 0 in
    let codes =
    three outward inward suffix (and_left (outward && (inward && suffix)) (user && (letter && kind)) e) in
    let marks =
    three user letter kind (and_right (outward && (inward && suffix)) (user && (letter && kind)) e) in
    head-fine o.args.rec.now
    (o.is_fine_outward-outward.ensures codes.0)
    (eqb-true _ 0 (rw behind-part-of.part_of.ensures at (sym i.is_inward-inward.ensures ∙ codes.1)))
    (eqb-true _ 0 (rw behind-part-of2.part_of-2.ensures at (sym s.is_suffix-suffix.ensures ∙ codes.2)))
    (sym u.postcode_type_at-user.ensures ∙ eqb-true _ 0 marks.0)
    (sym l.letter_at-letter.ensures ∙ eqb-true _ 0 marks.1)
    (sym c.type_at-kind.ensures ∙ eqb-true _ 0 marks.2)

is-fine-outward-requires : tie.Need-is_fine_outward-outward-requires
is-fine-outward-requires c κs =
    let at-start = c in
    (search rules, λ e. good-outward at-start.args.before.now (at-start.requires e))

pub is_fine_head_spec : {M : Type 1} → statement M
is_fine_head_spec =
    tie.close
    (tie.spec
    is-fine-outward-requires
    (search rules)
    (search rules)
    (search rules)
    (search rules)
    (search rules)
    (search rules)
    (search rules)
    returns)
