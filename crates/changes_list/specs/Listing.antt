-- What a point file lists: its views, a view's letter, the live views of a code.
-- Assumes nothing.
use Rattle.std.specs.Prelude.{ℕ, cond, List, [], eqb, get_or}
use Rattle.field_outward.specs.Outward.{outward_fault}
use Rattle.file_record.specs.Parts.{record_at}
use Rattle.file_record.specs.Names.Point
use Rattle.refusal.specs.declared.Reason.TheVariants.{NoSuchNumber, BadCode}
use Rattle.refusal.specs.Outcome.{after}
use Rattle.file.specs.Check.{checked}
use Rattle.file.specs.Formats.{point_format}
use Rattle.changes_views.specs.Views.{wanted_count, wanted_at}
use Rattle.std.specs.Prelude.{Ok}
use Rattle.refusal.specs.Answer.{Answer, refusal}

-- how many views a point file has
unfoldable pub views_answer : List ℕ → Answer
views_answer points = after (checked point_format points) (Ok (wanted_count [] points))

-- the letter of the record at a place; "7: no view or point of that number" where there is no place
unfoldable pub letter_at : List ℕ → ℕ → Answer
letter_at points place = cond (eqb place 0) (refusal 0 NoSuchNumber) (Ok (get_or (record_at Point.width points place) Point.letter 0))

-- a view's amendment letter
unfoldable pub letter_answer : List ℕ → ℕ → Answer
letter_answer points view = after (checked point_format points) (letter_at points (wanted_at [] points view))

-- how many live views a code has, in an accepted file; "12: outward code malformed"
unfoldable pub live_at : List ℕ → List ℕ → Answer
live_at points code = cond (eqb (outward_fault code) 0) (Ok (wanted_count code points)) (refusal 0 BadCode)

-- the file's own refusal first
unfoldable pub live_answer : List ℕ → List ℕ → Answer
live_answer points code = after (checked point_format points) (live_at points code)
