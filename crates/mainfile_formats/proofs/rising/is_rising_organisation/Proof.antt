-- `mainfile_formats::rising::is_rising_organisation` meets its contract. Assumes nothing.
use borrow.Author.Rules.{rules}
use mathlib.Core.Path.{sym, ◌∙◌}
use Rattle.field.proofs.Tests.{and_left, and_right}
use Rattle.mainfile_formats.proofs.Sequence.{organisation-above}
use Rattle.mainfile_formats.proofs.rising.is_rising_organisation.Statement.{statement}
use Rattle.mainfile_formats.proofs.rising.is_rising_organisation.Tie as tie

returns : tie.Need-returns
returns c =
    let alike = c in
    let behind-part-of2 = alike in
    let behind-part-of = behind-part-of2 in
    let a = behind-part-of.args in
    λ e.
    let over = c.is_rising_key.result in
    organisation-above a.rec.now a.before.now (c.is_rising_key.ensures (and_left over _ e))
    (rw (behind-part-of.part_of.ensures, behind-part-of2.part_of-2.ensures) at (sym alike.same_bytes-same.ensures ∙ and_right over _ e))

pub is_rising_organisation_spec : {M : Type 1} → statement M
is_rising_organisation_spec =
    tie.close
    (tie.spec
    (search rules)
    (search rules)
    (search rules)
    (search rules)
    returns)
