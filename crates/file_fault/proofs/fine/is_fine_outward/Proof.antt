-- `file_fault::fine::is_fine_outward` meets its contract. Assumes nothing.
use borrow.Author.Rules.{rules}
use mathlib.Core.Path.{sym, ap, ◌∙◌}
use Prim.Native.Nat.{◌+◌}
use borrow.Author.Tests.{eqb-true}
use Rattle.field.specs.Text.{part}
use Rattle.field.proofs.Tests.{and_left, and_right}
use Rattle.file_compare.specs.Order.{order}
use Rattle.file_compare.proofs.Order.{order-equal}
use Rattle.field_outward.specs.Outward.{outward_fault}
use Rattle.file_fault.proofs.fine.is_fine_outward.Statement.{statement}
use Rattle.file_fault.proofs.fine.is_fine_outward.Tie as tie

returns : tie.Need-returns-then-known-same_bytes
returns c =
    let s = c in
    let q = s in
    let p = q in
    let a = p in
    let known = a.args.known in
    let last = part a.args.before.now a.args.start (a.args.start + 4) in
    let here = part a.args.rec.now a.args.start (a.args.start + 4) in
    let both = rw (q.part_of-last.ensures, p.part_of-code.ensures) at (sym s.same_bytes.ensures ∙ and_right known s.same_bytes.result c.if-known-same_bytes.true) in
    λ e.
    ap outward_fault (sym (order-equal last here (eqb-true (order last here) 0 both)))
    ∙ a.requires.1 (and_left known s.same_bytes.result c.if-known-same_bytes.true)

returns-2 : tie.Need-returns-else-known-same_bytes
returns-2 c =
    let p = c in
    λ e. rw p.part_of-code.ensures at (sym c.outward_fault.ensures ∙ eqb-true _ 0 e)

pub is_fine_outward_spec : {M : Type 1} → statement M
is_fine_outward_spec = tie.close (tie.spec (search rules) (search rules) (search rules) (search rules) (search rules) (search rules) returns returns-2)
