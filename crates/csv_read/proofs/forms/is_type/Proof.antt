-- `csv_read::forms::is_type` meets its contract. Assumes nothing.
use borrow.Author.Rules.{rules}
use mathlib.Core.Path.{refl}
use Rattle.csv_read.proofs.forms.is_type.Statement.{statement}
use Rattle.csv_read.proofs.forms.is_type.Tie as tie

returns : tie.Need-returns
returns c = rw (c.same_bytes-large.ensures, c.same_bytes-small.ensures) refl

pub is_type_spec : {M : Type 1} → statement M
is_type_spec = tie.close (tie.spec (search rules) (search rules) returns)
