-- The rows so far end at `at`; they are good if no more bytes before it than were counted may stand in no text, so that the
-- others decide; and a row starts at a place where its bit is set or one of the others starts there.
-- Assumes nothing.
use Rattle.pack_rows.proofs.FineLaws.{Going}
use Rattle.pack_rows.proofs.fine.odds_outside.Given as goal

abbrev pub invariant-loop : goal.invariant-loop
invariant-loop l = Going l.rows l.count l.marks l.kind l.odds l.at l.counter
