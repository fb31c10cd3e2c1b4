-- The row of an address by the place of its record, of any source whose records have places.
-- Assumes nothing.
use Rattle.std.specs.Prelude.{ℕ, cond, List, eqb}
use Rattle.refusal.specs.declared.Reason.TheVariants.{NoSuchNumber}
use Rattle.refusal.specs.Outcome.{Outcome, said}
use Rattle.source.specs.Address.{Lookup, Address}
use Rattle.source.specs.Resolve.{resolve}
use Rattle.csv_paf.specs.Row.{row_outcome}
use Rattle.refusal.specs.Answer.{Answer, refusal}

-- "7: no view or point of that number" where there is no place
unfoldable pub placed_row : Lookup → Address → (place : ℕ) → List ℕ → Outcome Answer
placed_row look a place out =
    cond (eqb place 0) (said (refusal 0 NoSuchNumber) out) (row_outcome a (resolve look a) out)
