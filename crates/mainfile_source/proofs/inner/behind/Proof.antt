-- `mainfile_source::inner::behind` meets its contract. Assumes nothing.
use borrow.Author.Rules.{rules}
use borrow.Author.Tests.{eq-eqb, ne_eqb}
use Rattle.mainfile_source.proofs.inner.behind.Statement.{statement}
use Rattle.mainfile_source.proofs.inner.behind.Tie as tie

returns : tie.Need-returns-then-row-eq0
returns c = simp (eq-eqb _ 0 c.if-row-eq0.true)

returns-2 : tie.Need-returns-else-row-eq0
returns-2 c = simp (ne_eqb _ 0 c.if-row-eq0.false)

pub behind_spec : {M : Type 1} → statement M
behind_spec = tie.close (tie.spec (λ c. search rules) returns returns-2)
