-- What a writer does to a lent buffer, and the pieces of which a line from dependent thoroughfare to post town is made.
-- Assumes nothing.
use Rattle.std.specs.Prelude.{ℕ, ◌+◌, ◌≡◌, Bool, true, false, ◌&&◌, List, [], ◌∷◌, ◌++◌, length, take, drop}
use Rattle.source.specs.Address.{Elements}
use Rattle.label.specs.declared.Span.{Span}
use Rattle.label.specs.declared.Spans.{Spans}
use Rattle.label.specs.declared.shape.Lines.{Lines}
use Rattle.label.specs.declared.shape.Front.{Front}
use Rattle.label.specs.Lines.{is_empty, line, box_line, spaced, street_line, number_text, fronted, places}
use Rattle.label.specs.Label.{ended}
use Rattle.label.specs.Spans.{text_in2, elements_in}

-- `text` stands in the front of the buffer, whose rest is as it was; the answer is the text's length
pub record Wrote (text entry : List ℕ) (r : ℕ) (exit : List ℕ) : Type 0 where
  pub size : r ≡ length text
  pub is : exit ≡ text ++ drop (length text) entry

-- `text` stands at `at`, and all else is as it was; the answer is the place after it
pub record Put (text entry : List ℕ) (at r : ℕ) (exit : List ℕ) : Type 0 where
  pub size : r ≡ at + length text
  pub is : exit ≡ take at entry ++ (text ++ drop (at + length text) entry)

-- a space and the text, where there is one
abbrev pub tail_text : List ℕ → List ℕ
tail_text [] = []
tail_text (x ∷ xs) = 32 ∷ x ∷ xs

-- a front: the number, a text at once after it, and a second text after a space
abbrev pub front_text : (a b : List ℕ) → Front → List ℕ
front_text a b f = number_text f.number ++ (text_in2 a b f.text ++ tail_text (text_in2 a b f.beside))

-- a front as it stands before a line: a space after it, and nothing where it is not pending
abbrev pub lead : Bool → List ℕ → List ℕ
lead false f = []
lead true [] = []
lead true (x ∷ xs) = (x ∷ xs) ++ (32 ∷ [])

-- a line from dependent thoroughfare to post town, behind what is before it
abbrev pub place_line : Bool → List ℕ → (name tail : List ℕ) → List (List ℕ)
place_line p f [] tail = []
place_line p f (x ∷ xs) tail = (lead p f ++ ((x ∷ xs) ++ tail_text tail)) ∷ []

-- a front is pending until a line was written
abbrev pub front_after : Front → (name : List ℕ) → Front
front_after f name =
    record { pending = f.pending && is_empty name; number = f.number; text = f.text; beside = f.beside }

-- the lines behind a front that may be pending
abbrev pub behind_front : Bool → List ℕ → List (List ℕ) → List (List ℕ)
behind_front false f ls = ls
behind_front true f ls = fronted f ls

-- the last of the places: "double dependent locality; dependent locality; post town"
abbrev pub localities : Elements → List (List ℕ)
localities e = line e.double_locality ++ (line e.dependent_locality ++ line e.town)

-- the lines before the premises
abbrev pub head_lines : Elements → List (List ℕ)
head_lines e = line e.organisation ++ (line e.department ++ box_line e.box)

-- the premises lines of a row of the table
abbrev pub row_lines : (a b : List ℕ) → Lines → List (List ℕ)
row_lines a b l =
    street_line (text_in2 a b l.upper) (text_in2 a b l.beside) ++ line (text_in2 a b l.lower)

-- the bytes that the writers put, of spans in the slices a and b
abbrev pub tail_in : (a b : List ℕ) → Span → List ℕ
tail_in a b s = tail_text (text_in2 a b s)

abbrev pub lead_in : (a b : List ℕ) → Front → List ℕ
lead_in a b f = lead f.pending (front_text a b f)

abbrev pub line_in : (a b : List ℕ) → Span → List ℕ
line_in a b s = ended (line (text_in2 a b s))

abbrev pub box_in : (a b : List ℕ) → Span → List ℕ
box_in a b s = ended (box_line (text_in2 a b s))

abbrev pub pair_in : (a b : List ℕ) → Span → Span → List ℕ
pair_in a b s t = ended (spaced (text_in2 a b s) (text_in2 a b t) ∷ [])

abbrev pub place_in : (a b : List ℕ) → Front → (name tail : Span) → List ℕ
place_in a b f name tail = ended (place_line f.pending (front_text a b f) (text_in2 a b name) (text_in2 a b tail))

abbrev pub head_in : (a b : List ℕ) → Spans → List ℕ
head_in a b e = ended (head_lines (elements_in a b e))

abbrev pub premises_in : (a b : List ℕ) → Lines → List ℕ
premises_in a b l = ended (row_lines a b l)

abbrev pub localities_in : (a b : List ℕ) → Front → Spans → List ℕ
localities_in a b f e = ended (behind_front f.pending (front_text a b f) (localities (elements_in a b e)))

abbrev pub places_in : (a b : List ℕ) → Front → Spans → List ℕ
places_in a b f e = ended (behind_front f.pending (front_text a b f) (places (elements_in a b e)))
