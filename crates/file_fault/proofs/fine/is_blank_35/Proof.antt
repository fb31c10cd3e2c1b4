-- `file_fault::fine::is_blank_35` meets its contract. Assumes nothing.
use borrow.Author.Rules.{rules}
use mathlib.Core.Path.{sym, ◌∙◌}
use native.Mathlib.Omega.{arith}
use Prim.Native.Nat.{◌+◌}
use lib.Dec.{eqb}
use Rattle.field.proofs.Tests.{and_left, and_right}
use Rattle.file_fault.proofs.AtOnce.{overlap}
use Rattle.file_fault.proofs.fine.is_blank_35.Statement.{statement}
use Rattle.file_fault.proofs.fine.is_blank_35.Tie as tie

returns : tie.Need-returns
returns c =
    let q = c in
    let m = q in
    let p = m in
    let a = p.args in
    λ e.
    let most = m.all_are-most.result in
    let rest = c.all_are-rest.result in
    overlap a.rec.now (λ x. eqb x 32) a.start (a.start + 19) (a.start + 32) (a.start + 35)
    (omega arith)
    (omega arith)
    (omega arith)
    (rw p.part_of.ensures at (sym m.all_are-most.ensures ∙ and_left most rest e))
    (rw q.part_of-2.ensures at (sym c.all_are-rest.ensures ∙ and_right most rest e))

pub is_blank_35_spec : {M : Type 1} → statement M
is_blank_35_spec = tie.close (tie.spec (search rules) (search rules) (search rules) (search rules) (search rules) (search rules) (search rules) returns)
