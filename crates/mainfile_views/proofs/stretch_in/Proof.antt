-- `mainfile_views::stretch_in` meets its contract. Assumes nothing.
use borrow.Author.Rules.{rules}
use Rattle.mainfile_views.proofs.stretch_in.Statement.{statement}
use Rattle.mainfile_views.proofs.stretch_in.Tie as tie

returns : tie.Need-returns
returns c =
    let at-end = c in
    let at_first = at-end in
    (at_first.first_in-first.ensures, rw (c.above.ensures, at-end.end_in-end.ensures, at_first.first_in-first.ensures))

pub stretch_in_spec : {M : Type 1} → statement M
stretch_in_spec = tie.close (tie.spec (search rules) (search rules) (search rules) returns)
