-- `file::follow::needed_by` meets its contract. Assumes nothing.
use Rattle.file.proofs.follow.needed_by.Statement.{statement}
use Rattle.file.proofs.follow.needed_by.Tie as tie

returns : tie.Need-returns-then-large
returns c = simp (c.if-view.true, c.if-large.true)

returns-2 : tie.Need-returns-then-alone
returns-2 c = simp (c.if-view.true, c.if-large.false, c.if-alone.true)

returns-3 : tie.Need-returns-else-alone
returns-3 c = simp (c.if-view.true, c.if-large.false, c.if-alone.false)

returns-4 : tie.Need-returns-else-view
returns-4 c = simp c.if-view.false

pub needed_by_spec : {M : Type 1} → statement M
needed_by_spec = tie.close (tie.spec returns returns-2 returns-3 returns-4)
