-- `file_fault::fine::is_fine_name` meets its contract. Assumes nothing.
use borrow.Author.Rules.{rules}
use Rattle.field_test.proofs.Laws.{blank-text}
use mathlib.Core.Bool.{false≢true}
use Rattle.file_fault.proofs.AtOnce.{begun-name}
use mathlib.Core.Path.{sym, ◌∙◌}
use Rattle.file_fault.proofs.fine.is_fine_name.Statement.{statement}
use Rattle.file_fault.proofs.fine.is_fine_name.Tie as tie

returns : tie.Need-returns-then-not-starts_blank
returns c =
    let begins = c in
    let part = begins in
    λ e texts.
    begun-name part.args.small _
    (rw part.part_of.ensures at (sym begins.starts_blank.ensures ∙ c.if-not-starts_blank.true)) texts

returns-2 : tie.Need-returns-then-small
returns-2 c = λ e. absurd (false≢true e)

returns-3 : tie.Need-returns
returns-3 c =
    let large = c in
    λ e texts. rw large.if-small.false (blank-text _ (c.is_blank_60.ensures e))

pub is_fine_name_spec : {M : Type 1} → statement M
is_fine_name_spec = tie.close (tie.spec (search rules) (search rules) (search rules) returns returns-2 (search rules) returns-3)
