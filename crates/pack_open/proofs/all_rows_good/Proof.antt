-- `pack_open::all_rows_good` meets its contract. Assumes nothing.
use borrow.Author.Rules.{rules}
use mathlib.Core.Path.{sym}
use Rattle.pack_open.proofs.all_rows_good.Statement.{statement}
use Rattle.pack_open.proofs.all_rows_good.Tie as tie

returns : tie.Need-returns-then-fine
returns c = sym (c.requires c.if-fine.true)

returns-2 : tie.Need-returns
returns-2 c = c.rows_good.ensures

pub all_rows_good_spec : {M : Type 1} → statement M
all_rows_good_spec = tie.close (tie.spec returns (search rules) returns-2)
