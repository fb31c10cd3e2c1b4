-- `label_premises::inner::is_absent` meets its contract. Assumes nothing.
use borrow.Author.Rules.{rules}
use mathlib.Core.Path.{sym}
use Rattle.label.proofs.Texts.{empty-length}
use Rattle.label_premises.proofs.inner.is_absent.Statement.{statement}
use Rattle.label_premises.proofs.inner.is_absent.Tie as tie

returns : tie.Need-returns
returns c = rw (sym c.text_of-t.ensures) (empty-length c.text_of-t.result.now)

pub is_absent_spec : {M : Type 1} → statement M
is_absent_spec =
    tie.close (tie.spec (search rules) returns)
