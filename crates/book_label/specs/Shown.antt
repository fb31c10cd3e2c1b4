-- What is shown of the delivery points of a book, by where their records start: their labels alone, or their items in a
-- listing.
-- Assumes nothing.
use Rattle.std.specs.Prelude.{ℕ, ◌≡◌, Bool, true, false, cond, List, ◌++◌, eqb}
use Rattle.refusal.specs.declared.Reason.TheVariants.{NoSuchNumber}
use Rattle.refusal.specs.Outcome.{Outcome, said}
use Rattle.file.specs.Accepted.{Accepted}
use Rattle.file.specs.Formats.{table_format}
use Rattle.source.specs.Resolve.{Resolved}
use Rattle.label.specs.Label.{room_outcome, resolved_outcome}
use Rattle.item.specs.Item.{resolved_text}
use Rattle.run.specs.Series.{Asking}
use Rattle.changes_label.specs.Places.{resolved_at}
use Rattle.book_source.specs.Source.{place_line}
use Rattle.book_source.specs.Starts.{records_at, place_before, start_among, Inside}
use Rattle.refusal.specs.Answer.{Answer, refusal}

-- what a delivery point of the book resolves to
abbrev pub resolved_from : (table book : List ℕ) → (at : ℕ) → Resolved
resolved_from table book at = resolved_at table (records_at book at) 0

-- its label; in a listing "`place N`", then the label or the line of its refusal
abbrev pub shown_of : (listed : Bool) → (place : ℕ) → Resolved → List ℕ → Outcome Answer
shown_of true place r out = room_outcome (place_line place ++ resolved_text r) out
shown_of false place r out = resolved_outcome r out

-- "7: no view or point of that number" where none starts
unfoldable pub shown_from : (listed : Bool) → (table book : List ℕ) → (at : ℕ) → List ℕ → Outcome Answer
shown_from listed table book at out =
    cond (eqb at 0) (said (refusal 0 NoSuchNumber) out)
    (shown_of listed (place_before book at) (resolved_from table book at) out)

-- of the k-th of some
abbrev pub shown_among : (listed : Bool) → (table book starts : List ℕ) → Asking
shown_among listed table book starts = λ k out. shown_from listed table book (start_among starts k) out

-- what a caller shows of a place in a book that is not judged again: two records stand there, if it is one
pub record Standing (table book : List ℕ) (at : ℕ) : Type 0 where
  pub of_table : Accepted table_format table
  pub inside : (at ≡ 0 → ⊥) → Inside book at
