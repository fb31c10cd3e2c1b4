-- Document 01's "One run, complete": the bytes that the program writes for a pair of files, of at most 300 records each.
-- Assumes nothing.
use Rattle.std.specs.Prelude.{ℕ, zero, suc, cond, List, [], ◌∷◌, ◌++◌, eqb, ltb, length, get_or}
use Rattle.refusal.specs.declared.Reason.TheVariants.{NoSuchNumber}
use Rattle.file_record.specs.Parts.{record_at}
use Rattle.file_record.specs.Names.Point
use Rattle.file.specs.Check.{checked}
use Rattle.file.specs.Formats.{table_format, point_format}
use Rattle.changes_views.specs.Views.{wanted_count, wanted_at}
use Rattle.item.specs.Lines.{spaced_number, view_line, refused_line}
use Rattle.item.specs.Item.{resolved_text}
use Rattle.changes_label.specs.Places.{resolved_at}
use Rattle.std.specs.Prelude.{Ok, Err}
use Rattle.refusal.specs.Answer.{Answer}

-- the words `pair`, `table`, `points`, `long`
abbrev pub pair_word : List ℕ
pair_word = 112 ∷ 97 ∷ 105 ∷ 114 ∷ []

abbrev pub table_word : List ℕ
table_word = 116 ∷ 97 ∷ 98 ∷ 108 ∷ 101 ∷ []

abbrev pub points_word : List ℕ
points_word = 112 ∷ 111 ∷ 105 ∷ 110 ∷ 116 ∷ 115 ∷ []

abbrev pub long_word : List ℕ
long_word = 108 ∷ 111 ∷ 110 ∷ 103 ∷ []

-- "then the label, or `refused`, number, detail", of the view at a place, 0 being no place
unfoldable pub view_text : List ℕ → List ℕ → ℕ → List ℕ
view_text table points place =
    cond (eqb place 0) (refused_line NoSuchNumber) (resolved_text (resolved_at table points place))

-- "For each view: `view`, number, letter; then the label"
unfoldable pub block : List ℕ → List ℕ → ℕ → List ℕ
block table points k =
    view_line k (get_or (record_at Point.width points (wanted_at [] points k)) Point.letter 0)
    ++ view_text table points (wanted_at [] points k)

-- the views from 1 up to a number
abbrev pub blocks : List ℕ → List ℕ → ℕ → List ℕ
blocks table points zero = []
blocks table points (suc k) = blocks table points k ++ block table points (suc k)

-- "First line: `pair`, table records, point records, views"; then each view
unfoldable pub pair_text : List ℕ → List ℕ → ℕ → ℕ → List ℕ
pair_text table points t p =
    pair_word
    ++ (spaced_number t
    ++ (spaced_number p
    ++ (spaced_number (wanted_count [] points) ++ ((10 ∷ []) ++ blocks table points (wanted_count [] points)))))

-- "A refused file gives the one line `table` or `points`, `refused`, number, detail"
abbrev pub file_text : List ℕ → Answer → (ℕ → List ℕ) → List ℕ
file_text word (Ok n) next = next n
file_text word (Err r) next = word ++ ((32 ∷ []) ++ refused_line r.reason)

-- "One longer than 300 records gives `table long` or `points long`"
abbrev pub long_text : List ℕ → List ℕ
long_text word = word ++ (32 ∷ long_word ++ (10 ∷ []))

-- what is written once the table file is taken
unfoldable pub points_text : List ℕ → List ℕ → ℕ → List ℕ
points_text table points t =
    cond (ltb 50_400 (length points)) (long_text points_word)
    (file_text points_word (checked point_format points) (pair_text table points t))

-- the run: "the table file first"
unfoldable pub report_of : List ℕ → List ℕ → List ℕ
report_of table points =
    cond (ltb 50_700 (length table)) (long_text table_word)
    (file_text table_word (checked table_format table) (points_text table points))
