-- `mainfile_views::live_at` meets its contract. Assumes nothing.
use borrow.Author.Rules.{rules}
use mathlib.Core.Path.{sym, ◌∙◌}
use borrow.Author.Tests.{eq-eqb, ne_eqb}
use Rattle.mainfile_views.specs.Range.{live_at}
use Rattle.mainfile_views.proofs.live_at.Statement.{statement}
use Rattle.mainfile_views.proofs.live_at.Tie as tie

returns : tie.Need-returns-then-outward_fault-eq0
unfolding live_at
returns c =
    let t = c in
    rw c.stretch_in-found.ensures.1 (simp (eq-eqb _ 0 (sym t.outward_fault.ensures ∙ t.if-outward_fault-eq0.true)))

returns-2 : tie.Need-returns-else-outward_fault-eq0
unfolding live_at
returns-2 c = rw c.into.ensures (simp (ne_eqb _ 0 (rw c.outward_fault.ensures at c.if-outward_fault-eq0.false)))

pub live_at_spec : {M : Type 1} → statement M
live_at_spec = tie.close (tie.spec (search rules) (search rules) (search rules) returns returns-2)
