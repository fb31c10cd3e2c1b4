-- The label of a view by its place in the point file.
-- Assumes nothing.
use Rattle.std.specs.Prelude.{ℕ, ◌-◌, ◌<◌, ◌≡◌, cond, List, eqb}
use Rattle.refusal.specs.declared.Reason.TheVariants.{NoSuchNumber}
use Rattle.refusal.specs.Outcome.{Outcome, said}
use Rattle.file.specs.Accepted.{Accepted}
use Rattle.file.specs.Check.{records}
use Rattle.file.specs.Formats.{table_format, point_format}
use Rattle.source.specs.Resolve.{Resolved, resolve}
use Rattle.changes_source.specs.Rows.{table_lookup}
use Rattle.changes_source.specs.Addresses.{address_at}
use Rattle.label.specs.Label.{resolved_outcome}
use Rattle.refusal.specs.Answer.{Answer, refusal}

-- the address of the view at a place; its number is not printed
abbrev pub resolved_at : List ℕ → List ℕ → ℕ → Resolved
resolved_at table points place = resolve (table_lookup table) (address_at points 0 place)

-- its label; "7: no view or point of that number" where there is no place
unfoldable pub place_label : (table points : List ℕ) → (place : ℕ) → List ℕ → Outcome Answer
place_label table points place out =
    cond (eqb place 0) (said (refusal 0 NoSuchNumber) out) (resolved_outcome (resolved_at table points place) out)

-- what a caller shows of a place that is not judged again: the table file is accepted, and a place stands before the trailer
pub record ViewPlace (table points : List ℕ) (place : ℕ) : Type 0 where
  pub of_table : Accepted table_format table
  pub high : (place ≡ 0 → ⊥) → place < records point_format points - 1
