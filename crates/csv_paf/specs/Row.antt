-- A view as a row of CSV PAF (document 02, No. 8; the guide's chapter 20 for fields, order and quoting).
-- Assumes nothing.
use Rattle.std.specs.Prelude.{ℕ, Bool, true, cond, not, ◌&&◌, List, [], ◌∷◌, ◌++◌, eqb, leb, length}
use Rattle.std.proofs.Math.Option.{Option, none, some}
use Rattle.field.specs.Test.{every}
use Rattle.refusal.specs.declared.Reason.TheVariants.{NoSuchNumber, Uncarried}
use Rattle.refusal.specs.Outcome.{Outcome, said, afterwards}
use Rattle.run.specs.Series.{run_from}
use Rattle.source.specs.Address.{Lookup, Address, Elements}
use Rattle.source.specs.Resolve.{Resolved, elements, refused, resolve}
use Rattle.label.specs.Lines.{spaced, street, number_text}
use Rattle.label.specs.Label.{room_outcome}
use Rattle.ask.specs.Source.{Source}
use Rattle.ask.specs.Labels.{kth}
use Rattle.refusal.specs.Answer.{Answer, refusal}
use Rattle.run.specs.Series.{Series}

-- "Small User Organisation Indicator. Can have the values 'Y' or space"
abbrev pub indicator_mark : Bool → ℕ
indicator_mark y = cond y 89 32

-- the sixteen fields: "Postcode", "Post Town", "Dependent Locality", "Double Dependent Locality", "Thoroughfare &
-- Descriptor", "Dependent Thoroughfare & Descriptor", "Building Number", "Building Name", "Sub Building Name", "PO Box",
-- "Department Name", "Organisation Name", "UDPRN", "Postcode Type", "SU Organisation Indicator", "Delivery Point Suffix";
-- "A field that no view can fill is written empty": the UDPRN
unfoldable pub row_fields : (type : ℕ) (indicator : Bool) (suffix : List ℕ) → Elements → List (List ℕ)
row_fields type indicator suffix e =
    spaced e.outward e.inward
    ∷ e.town
    ∷ e.dependent_locality
    ∷ e.double_locality
    ∷ street e.thoroughfare e.descriptor
    ∷ street e.dependent e.dependent_descriptor
    ∷ number_text e.number
    ∷ e.building
    ∷ e.sub_building
    ∷ e.box
    ∷ e.department
    ∷ e.organisation
    ∷ []
    ∷ (type ∷ [])
    ∷ (indicator_mark indicator ∷ [])
    ∷ suffix
    ∷ []

-- "All fields are of variable length and delimited with comma's", "All records end with CR LF", "No fields are quoted and
-- no characters are escaped"
abbrev pub joined : List (List ℕ) → List ℕ
joined [] = 13 ∷ 10 ∷ []
joined (f ∷ []) = f ++ (13 ∷ 10 ∷ [])
joined (f ∷ g ∷ fs) = f ++ (44 ∷ joined (g ∷ fs))

unfoldable pub row_text : (type : ℕ) (indicator : Bool) (suffix : List ℕ) → Elements → List ℕ
row_text type indicator suffix e = joined (row_fields type indicator suffix e)

-- of a view
abbrev pub row_of : Address → Elements → List ℕ
row_of a e = row_text a.postcode_type a.indicator a.suffix e

-- a byte that this quoting carries: no comma and no double quote
abbrev pub plain_byte : ℕ → Bool
plain_byte b = not (eqb b 44) && not (eqb b 34)

abbrev pub plain : List ℕ → Bool
plain text = every plain_byte text

abbrev pub all_plain : List (List ℕ) → Bool
all_plain [] = true
all_plain (t ∷ ts) = plain t && all_plain ts

-- the texts of a view
abbrev pub row_texts : Elements → List (List ℕ)
row_texts e =
    e.town
    ∷ e.dependent_locality
    ∷ e.double_locality
    ∷ e.thoroughfare
    ∷ e.descriptor
    ∷ e.dependent
    ∷ e.dependent_descriptor
    ∷ e.building
    ∷ e.sub_building
    ∷ e.box
    ∷ e.department
    ∷ e.organisation
    ∷ []

-- a name and its descriptor in one field: "Thoroughfare & Descriptor .. 80"
abbrev pub street_fits : List ℕ → List ℕ → Bool
street_fits name descriptor = leb (length (street name descriptor)) 80

-- not refused with 15: "field longer than the guide allows, or with a comma or quote its quoting can't carry"
unfoldable pub carried : Elements → Bool
carried e =
    all_plain (row_texts e)
    && (street_fits e.thoroughfare e.descriptor && street_fits e.dependent e.dependent_descriptor)

-- "Writing: the label's own, 15, then 10"
unfoldable pub written_outcome : (row : List ℕ) → Elements → List ℕ → Outcome Answer
written_outcome row e out = cond (carried e) (room_outcome row out) (said (refusal 0 Uncarried) out)

abbrev pub row_outcome : Address → Resolved → List ℕ → Outcome Answer
row_outcome a (elements e) out = written_outcome (row_of a e) e out
row_outcome a (refused why) out = said (refusal 0 why) out

abbrev pub row_or : Lookup → Option Address → List ℕ → Outcome Answer
row_or look none out = said (refusal 0 NoSuchNumber) out
row_or look (some a) out = row_outcome a (resolve look a) out

unfoldable pub kth_row : Lookup → List Address → ℕ → List ℕ → Outcome Answer
kth_row look addresses k out = row_or look (kth addresses k) out

-- the row of a view, of any source
unfoldable pub view_row : Source → (view : ℕ) → List ℕ → Outcome Answer
view_row s view out = afterwards refusal s.judged out (kth_row s.look s.views view out)

-- a run of rows
unfoldable pub view_rows : Source → (first count : ℕ) → List ℕ → Outcome Series
view_rows s first count out = afterwards refusal s.judged out (run_from (view_row s) first count out)
