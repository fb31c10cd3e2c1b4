-- `file_fault::at::yes_at` meets its contract. Assumes nothing.
use borrow.Author.Rules.{rules}
use mathlib.Core.List.{[], ◌∷◌}
use Rattle.file_fault.proofs.Laws.{one_byte}
use Rattle.file_fault.proofs.at.yes_at.Statement.{statement}
use Rattle.file_fault.proofs.at.yes_at.Tie as tie

returns : tie.Need-returns
returns c =
    let t = c in
    let b = t in
    let a = b.args in
    rw (c.byte_fault.ensures, t.is_yes_or_space.ensures, b.byte_of.ensures, one_byte (89 ∷ 32 ∷ []) a.rec.now a.at)

pub yes_at_spec : {M : Type 1} → statement M
yes_at_spec =
    tie.close (tie.spec (λ c κs. search rules) (λ c κs. search rules) (λ c κs. search rules) returns)
