-- `mainfile_runs::walk::place_behind` meets its contract. Assumes nothing.
use borrow.Author.Rules.{rules}
use Rattle.mainfile_runs.proofs.Laws.{behind-some, behind-none}
use Rattle.mainfile_runs.proofs.walk.place_behind.Statement.{statement}
use Rattle.mainfile_runs.proofs.walk.place_behind.Tie as tie

returns : tie.Need-returns-then-next-s
returns c =
    let a = c.args in
    behind-some a.s.first a.s.many a.place c.if-next-s.true

returns-2 : tie.Need-returns-else-next-s
returns-2 c =
    let a = c.args in
    behind-none a.s.first a.s.many a.place c.if-next-s.false

pub place_behind_spec : {M : Type 1} → statement M
place_behind_spec = tie.close (tie.spec (search rules) (search rules) returns returns-2)
