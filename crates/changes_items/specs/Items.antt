-- The items of a pair of files, by the places of its views.
-- Assumes nothing.
use Rattle.std.specs.Prelude.{ℕ, ◌≡◌, cond, List, ◌++◌, eqb, get_or}
use Rattle.file_record.specs.Parts.{record_at}
use Rattle.file_record.specs.Names.Point
use Rattle.refusal.specs.declared.Reason.TheVariants.{NoSuchNumber}
use Rattle.refusal.specs.Outcome.{Outcome, said}
use Rattle.label.specs.Label.{room_outcome}
use Rattle.item.specs.Lines.{view_line}
use Rattle.item.specs.Item.{resolved_text}
use Rattle.run.specs.Series.{Asking}
use Rattle.changes_views.specs.Views.{wanted_at, view_number}
use Rattle.changes_label.specs.Places.{resolved_at}
use Rattle.refusal.specs.Answer.{Answer, refusal}

-- "the line `view N L`" of the view at a place
abbrev pub line_at : (points : List ℕ) → (view place : ℕ) → List ℕ
line_at points view place = view_line view (get_or (record_at Point.width points place) Point.letter 0)

-- its item under a heading; "7 where no such view is left"
unfoldable pub place_item : (table points : List ℕ) → (place : ℕ) → (heading : List ℕ) → List ℕ → Outcome Answer
place_item table points place heading out =
    cond (eqb place 0) (said (refusal 0 NoSuchNumber) out)
    (room_outcome (heading ++ resolved_text (resolved_at table points place)) out)

-- an item by its number among those that are wanted
abbrev pub places_listed : (table points code : List ℕ) → Asking
places_listed table points code = λ k out.
    place_item table points (wanted_at code points k)
    (line_at points (view_number points (wanted_at code points k)) (wanted_at code points k)) out

-- a number that is carried along is that of the view at a place, where there is one
abbrev pub Numbered : (points : List ℕ) → (view place : ℕ) → Type 0
Numbered points view place = (place ≡ 0 → ⊥) → view ≡ view_number points place
