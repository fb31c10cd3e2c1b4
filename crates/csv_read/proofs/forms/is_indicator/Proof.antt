-- `csv_read::forms::is_indicator` meets its contract. Assumes nothing.
use borrow.Author.Rules.{rules}
use mathlib.Core.Path.{refl}
use Rattle.csv_read.proofs.FormLaws.{same_none}
use Rattle.csv_read.proofs.forms.is_indicator.Statement.{statement}
use Rattle.csv_read.proofs.forms.is_indicator.Tie as tie

returns : tie.Need-returns
returns c =
    let space = c in
    let f = space.args.f.now in
    rw (c.same_bytes-yes.ensures, space.same_bytes-space.ensures, same_none f) refl

pub is_indicator_spec : {M : Type 1} → statement M
is_indicator_spec = tie.close (tie.spec (search rules) (search rules) returns)
