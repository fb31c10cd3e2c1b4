-- `file_fault::fine::is_fine_department` meets its contract. Assumes nothing.
use borrow.Author.Rules.{rules}
use Rattle.file_fault.proofs.AtOnce.{begun-or-known}
use mathlib.Core.Path.{sym}
use Rattle.file_fault.proofs.fine.is_fine_department.Statement.{statement}
use Rattle.file_fault.proofs.fine.is_fine_department.Tie as tie

returns : tie.Need-returns
returns c =
    let begins = c in
    let part = begins in
    λ e texts.
    begun-or-known begins.starts_blank-begins.result c.is_blank_60.result _
    (rw part.part_of.ensures at (sym begins.starts_blank-begins.ensures)) c.is_blank_60.ensures e texts

pub is_fine_department_spec : {M : Type 1} → statement M
is_fine_department_spec = tie.close (tie.spec (search rules) (search rules) (search rules) (search rules) returns)
