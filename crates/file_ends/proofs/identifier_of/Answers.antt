use Rattle.std.proofs.Common.{sym}
use Rattle.file_ends.specs.Ends.{identifier}
use Rattle.file_ends.proofs.identifier_of.Goals as goal

pub returns-then-all_are : goal.returns-then-all_are
unfolding identifier
returns-then-all_are c = simp (sym c.if-all_are.ensures)

pub returns-then-all_are-2 : goal.returns-then-all_are-2
unfolding identifier
returns-then-all_are-2 c = simp (sym c.if-all_are.ensures, sym c.if-all_are-2.ensures)

pub returns-else-all_are-2 : goal.returns-else-all_are-2
unfolding identifier
returns-else-all_are-2 c = simp (sym c.if-all_are.ensures, sym c.if-all_are-2.ensures)
