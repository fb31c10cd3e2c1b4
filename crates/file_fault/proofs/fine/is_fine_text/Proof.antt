-- `file_fault::fine::is_fine_text` meets its contract. Assumes nothing.
use borrow.Author.Rules.{rules}
use mathlib.Core.Path.{sym, ◌∙◌}
use native.Mathlib.Omega.{arith}
use Prim.Native.Nat.{◌-◌}
use mathlib.Core.Bool.{not}
use borrow.Author.Tests.{not-true}
use Rattle.field.specs.Text.{text_byte}
use Rattle.field_test.proofs.Laws.{begun-filled}
use Rattle.file_fault.proofs.AtOnce.{three, overlap}
use Rattle.file_fault.proofs.fine.is_fine_text.Statement.{statement}
use Rattle.file_fault.proofs.fine.is_fine_text.Tie as tie

returns : tie.Need-returns
returns c =
    let r = c in
    let b = r in
    let q = b in
    let f = q in
    let p = f in
    let a = p.args in
    λ e.
    let each = three f.are_text-front.result b.are_text-back.result (not c.starts_blank-begins.result) e in
    begun-filled _ (rw r.part_of-3.ensures at (sym c.starts_blank-begins.ensures ∙ not-true _ each.2))
    (overlap a.rec.now text_byte a.start (a.end - 16) a.most a.end
    (omega arith)
    (omega arith)
    (omega arith)
    (rw p.part_of.ensures at (sym f.are_text-front.ensures ∙ each.0))
    (rw q.part_of-2.ensures at (sym b.are_text-back.ensures ∙ each.1)))

pub is_fine_text_spec : {M : Type 1} → statement M
is_fine_text_spec =
    tie.close
    (tie.spec
    (λ c κs. search rules)
    (λ c κs. search rules)
    (λ c. search rules)
    (λ c κs. search rules)
    (λ c κs. search rules)
    (λ c κs. search rules)
    (λ c κs. search rules)
    returns)
