-- What is written as CSV PAF is read back (document 02, No. 8): "A written row that is read back prints the same label as
-- its view, except where that needs what the row has no field for".
-- Assumes nothing.
use Rattle.std.specs.Prelude.{ℕ, suc, ◌+◌, ◌≤◌, ◌<◌, ◌≡◌, Bool, true, false, not, ◌&&◌, ◌||◌, List, [], ◌∷◌, ◌++◌, length, take}
use Rattle.std.proofs.Math.Option.{Option, none, some}
use Rattle.field.specs.Test.{elem}
use Rattle.field.specs.Text.{trim}
use Rattle.field_outward.specs.Outward.{outward_fault}
use Rattle.field_outward.specs.Inward.{inward_fault, suffix_fault}
use Rattle.refusal.specs.Outcome.{Outcome, said}
use Rattle.run.specs.Packed.{series_bytes}
use Rattle.source.specs.Address.{Lookup, Address, Elements, present}
use Rattle.source.specs.Resolve.{Resolved, elements, refused, forbidden_of, resolve}
use Rattle.source.specs.Same.{AllOf}
use Rattle.label.specs.Lines.{is_empty}
use Rattle.label.specs.Label.{label_of, room_outcome}
use Rattle.ask.specs.Source.{Source}
use Rattle.ask.specs.Labels.{kth, view_label}
use Rattle.csv_paf.specs.Row.{row_text, carried, view_row, view_rows}
use Rattle.csv_paf.specs.File.{csv_judged}
use Rattle.csv_paf.specs.Ask.{filled, csv_label}
use Rattle.pack.specs.Opening.{slot, text_good}
use Rattle.std.specs.Prelude.{Ok, Err}
use Rattle.refusal.specs.Answer.{Answer}
use Rattle.run.specs.Series.{Series}
use Rattle.run.specs.declared.Run.TheVariants.{Stopped, Done}

-- ---- where the label is another one

-- "exactly where concatenation is Y, a sub building and a number are present and no building name is": the number and the
-- sub building are then one front, and a row cannot say so
unfoldable pub lost : Elements → Bool
lost e = e.concatenation && (filled e.sub_building && (present e.number && is_empty e.building))

-- a row of a file prints what is asked for, into every buffer, where nothing is lost, and into none where something is
pub record Prints (csv : List ℕ) (row : ℕ) (gone : Bool) (asked : List ℕ → Outcome Answer) : Type 0 where
  pub same : gone ≡ false → (out : List ℕ) → csv_label csv row out ≡ asked out
  pub other : gone ≡ true → (out : List ℕ) → csv_label csv row out ≡ asked out → ⊥

-- ---- rows

-- what a row is written from
pub record Entry : Type 0 where
  pub type : ℕ
  pub indicator : Bool
  pub suffix : List ℕ
  pub printed : Elements

abbrev pub row_in : Entry → List ℕ
row_in w = row_text w.type w.indicator w.suffix w.printed

-- rows one behind the other
abbrev pub file_of : List Entry → List ℕ
file_of [] = []
file_of (w ∷ ws) = row_in w ++ file_of ws

-- the texts are those of a source: well formed, with no space at either end, no longer than their fields, and nothing of
-- them is refused
pub record ElementsSound (type : ℕ) (e : Elements) : Type 0 where
  pub town : text_good (slot 30 false) e.town ≡ true
  pub dependent_locality : text_good (slot 35 true) e.dependent_locality ≡ true
  pub double_locality : text_good (slot 35 true) e.double_locality ≡ true
  pub thoroughfare : text_good (slot 60 true) e.thoroughfare ≡ true
  pub descriptor : text_good (slot 20 true) e.descriptor ≡ true
  pub dependent : text_good (slot 60 true) e.dependent ≡ true
  pub dependent_descriptor : text_good (slot 20 true) e.dependent_descriptor ≡ true
  pub building : text_good (slot 50 true) e.building ≡ true
  pub sub_building : text_good (slot 30 true) e.sub_building ≡ true
  pub box : text_good (slot 6 true) e.box ≡ true
  pub department : text_good (slot 60 true) e.department ≡ true
  pub organisation : text_good (slot 60 true) e.organisation ≡ true
  pub number : e.number ≤ 9_999
  -- a code without its padding
  pub code : List ℕ
  pub outward : e.outward ≡ trim code
  pub outward_good : outward_fault code ≡ 0
  pub inward : inward_fault e.inward ≡ 0
  -- "a double dependent locality needs a dependent one"
  pub double : not (is_empty e.dependent_locality) || is_empty e.double_locality ≡ true
  -- an organisation of type S has a name
  pub named : type ≡ 83 → not (is_empty e.organisation) || is_empty e.department ≡ true
  -- refusal 8: none of its three rules
  pub mix : forbidden_of (filled e.sub_building) (filled e.building) (present e.number) (filled e.thoroughfare)
      (filled e.descriptor) (filled e.dependent) (filled e.dependent_descriptor)
      ≡ 0

pub record EntrySound (w : Entry) : Type 0 where
  pub type : elem w.type (83 ∷ 76 ∷ []) ≡ true
  pub suffix : suffix_fault w.suffix ≡ 0
  pub texts : ElementsSound w.type w.printed

-- such a row, and not refused with 15
pub record Writable (w : Entry) : Type 0 where
  pub sound : EntrySound w
  pub not_refused : carried w.printed ≡ true

abbrev pub AllWritable : List Entry → Type 0
AllWritable [] = Unit {0}
AllWritable (w ∷ ws) = Writable w × AllWritable ws

-- a row of a file prints the label of what it was written from
abbrev pub PrintsEntry : (csv : List ℕ) (row : ℕ) → Entry → Type 0
PrintsEntry csv row w = Prints csv row (lost w.printed) (room_outcome (label_of w.printed))

-- a row by itself
abbrev pub RowBack : Type 0
RowBack =
    (w : Entry) → Writable w → (csv_judged (row_in w) ≡ Ok 1) × PrintsEntry (row_in w) 1 w

-- rows as a file: it is accepted, and each prints its label, whatever stands before and behind it
abbrev pub FileAccepted : Type 0
FileAccepted = (ws : List Entry) → AllWritable ws → csv_judged (file_of ws) ≡ Ok (length ws)

abbrev pub FileBack : Type 0
FileBack =
    (before : List Entry) (w : Entry) (behind : List Entry) → AllWritable (before ++ (w ∷ behind))
    → PrintsEntry (file_of (before ++ (w ∷ behind))) (suc (length before)) w

-- ---- the views of a source

-- what a view's row is written from
abbrev pub entry_of : Address → Elements → Entry
entry_of a e =
    record { type = a.postcode_type; indicator = a.indicator; suffix = a.suffix; printed = e }

-- of an accepted source: each view that is not refused is sound, live or not
abbrev pub ViewSound : Lookup → Address → Type 0
ViewSound look a = (e : Elements) → resolve look a ≡ elements e → EntrySound (entry_of a e)

abbrev pub ViewsSound : Source → Type 0
ViewsSound s = (n : ℕ) → s.judged ≡ Ok n → AllOf (ViewSound s.look) s.views

-- whether the label of a view needs what a row has no field for
abbrev pub lost_in : Resolved → Bool
lost_in (elements e) = lost e
lost_in (refused why) = false

abbrev pub lost_or : Lookup → Option Address → Bool
lost_or look none = false
lost_or look (some a) = lost_in (resolve look a)

unfoldable pub lost_view : Source → ℕ → Bool
lost_view s view = lost_or s.look (kth s.views view)

-- a row of a file prints the label of a view
abbrev pub PrintsView : (csv : List ℕ) (row : ℕ) → Source → (view : ℕ) → Type 0
PrintsView csv row s view = Prints csv row (lost_view s view) (view_label s view)

-- a row that was written, read back as a file of one row
abbrev pub ViewBack : Source → Type 0
ViewBack s =
    (view bytes : ℕ) (out memory : List ℕ) → view_row s view out ≡ said (Ok bytes) memory
    → (csv_judged (take bytes memory) ≡ Ok 1) × PrintsView (take bytes memory) 1 s view

-- how many rows a run wrote
abbrev pub series_rows : Series → ℕ
series_rows (Err r) = 0
series_rows (Ok (Stopped rows bytes why)) = rows
series_rows (Ok (Done rows bytes)) = rows

-- the bytes that it wrote
abbrev pub written_file : Outcome Series → List ℕ
written_file r = take (series_bytes r.answer 0) r.memory

-- a run of rows, whether it came to its end or stopped, read back as a file: its row behind j others is that of the view
-- behind j others
abbrev pub RunBack : Source → Type 0
RunBack s =
    (first count : ℕ) (out : List ℕ)
    → (csv_judged (written_file (view_rows s first count out)) ≡ Ok (series_rows (view_rows s first count out).answer))
    × ((j : ℕ) → j < series_rows (view_rows s first count out).answer
    → PrintsView (written_file (view_rows s first count out)) (suc j) s (first + j))
