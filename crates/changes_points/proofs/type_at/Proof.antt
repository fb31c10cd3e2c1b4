-- `changes_points::type_at` meets its contract. Assumes nothing.
use borrow.Author.Rules.{rules}
use mathlib.Core.List.{[], ◌∷◌}
use Rattle.file_fault.proofs.Laws.{one_byte}
use Rattle.changes_points.proofs.type_at.Statement.{statement}
use Rattle.changes_points.proofs.type_at.Tie as tie

returns : tie.Need-returns
returns c =
    let t = c in
    let b = t in
    let a = b.args in
    rw (c.byte_fault.ensures, t.is_point_type.ensures, b.byte_of.ensures, one_byte (49 ∷ 50 ∷ 51 ∷ []) a.rec.now 41)

pub type_at_spec : {M : Type 1} → statement M
type_at_spec =
    tie.close (tie.spec (λ c κs. search rules) (λ c κs. search rules) (λ c κs. search rules) returns)
