-- `file_formats::inner::records_in` meets its contract. Assumes nothing.
use borrow.Author.Rules.{rules}
use Rattle.file.proofs.Laws.{width_some}
use Rattle.file_formats.proofs.inner.records_in.Statement.{statement}
use Rattle.file_formats.proofs.inner.records_in.Tie as tie

div-result : tie.Need-nonzero_div-result
div-result c = rw c.numbers_of-format.ensures.1.0 (width_some c.args.kind)

returns : tie.Need-returns
returns c = rw c.numbers_of-format.ensures.1.0

pub records_in_spec : {M : Type 1} → statement M
records_in_spec = tie.close (tie.spec (λ c κs. search rules) div-result returns)
