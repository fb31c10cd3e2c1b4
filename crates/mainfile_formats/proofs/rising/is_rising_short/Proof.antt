-- `mainfile_formats::rising::is_rising_short` meets its contract. Assumes nothing.
use borrow.Author.Rules.{rules}
use mathlib.Core.Path.{sym, ◌∙◌}
use borrow.Author.Tests.{not-true}
use Rattle.field.proofs.Tests.{and_left, and_right}
use Rattle.mainfile_formats.proofs.Sequence.{short-above}
use Rattle.mainfile_formats.proofs.rising.is_rising_short.Statement.{statement}
use Rattle.mainfile_formats.proofs.rising.is_rising_short.Tie as tie

returns : tie.Need-returns
returns c =
    let alike = c in
    let behind-part-of2 = alike in
    let behind-part-of = behind-part-of2 in
    let start = behind-part-of in
    let a = start.args in
    λ e.
    let over = c.is_rising_key.result in
    short-above a.rec.now a.before.now a.digits start.requires.0 (c.is_rising_key.ensures (and_left over _ e))
    (rw (behind-part-of.part_of.ensures, behind-part-of2.part_of-2.ensures) at (sym alike.same_bytes-same.ensures ∙ not-true _ (and_right over _ e)))

pub is_rising_short_spec : {M : Type 1} → statement M
is_rising_short_spec =
    tie.close
    (tie.spec
    (search rules)
    (search rules)
    (search rules)
    (search rules)
    returns)
