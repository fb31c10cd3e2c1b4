-- `file_formats::inner::is_above` meets its contract. Assumes nothing.
use borrow.Author.Rules.{rules}
use Rattle.file_formats.proofs.inner.is_above.Statement.{statement}
use Rattle.file_formats.proofs.inner.is_above.Tie as tie

returns : tie.Need-returns
returns c = rw c.is_higher-higher.ensures

pub is_above_spec : {M : Type 1} → statement M
is_above_spec = tie.close (tie.spec (λ c κs. search rules) returns)
