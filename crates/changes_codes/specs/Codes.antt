-- The outward codes of a point file: "the outward codes with live views, rising, each 4 bytes and its count in 4 bytes, most
-- significant first; value: how many codes; refusals 1 to 6, then 10".
-- Assumes nothing.
use Rattle.std.specs.Prelude.{ℕ, cond, List, [], ◌∷◌, ◌++◌}
use Rattle.file_record.specs.Parts.{record_at}
use Rattle.file_record.specs.Names.Point
use Rattle.refusal.specs.Outcome.{Outcome, afterwards}
use Rattle.file.specs.Check.{checked}
use Rattle.file.specs.Formats.{point_format}
use Rattle.changes_views.specs.Views.{is_live, wanted_in}
use Rattle.pack.specs.Numbers.{number_at}
use Rattle.tally.specs.Tally.{Entry, tally}
use Rattle.tally_bytes.specs.Entries.{one_entry, entries_outcome}
use Rattle.refusal.specs.Answer.{Answer, refusal}

-- the outward code of a record, as the number of its four bytes, "most significant first": so the order of codes as bytes is
-- the order of their numbers
abbrev pub code_of : List ℕ → ℕ
code_of rec = number_at rec Point.outward 4

-- of the views at these places, the codes of the live ones in file order
abbrev pub live_codes : List ℕ → List ℕ → List ℕ
live_codes points [] = []
live_codes points (place ∷ places) =
    cond (is_live (record_at Point.width points place))
    (code_of (record_at Point.width points place) ∷ live_codes points places)
    (live_codes points places)

-- the codes of all live views
abbrev pub all_codes : List ℕ → List ℕ
all_codes points = live_codes points (wanted_in [] points)

-- "the outward codes with live views, rising"
abbrev pub codes_in : List ℕ → List Entry
codes_in points = tally (all_codes points)

-- the bytes of entries as the code has them: codes in one list, counts in another
abbrev pub pair_bytes : List ℕ → List ℕ → List ℕ
pair_bytes [] ns = []
pair_bytes (c ∷ cs) [] = []
pair_bytes (c ∷ cs) (n ∷ ns) = one_entry c n ++ pair_bytes cs ns

-- "refusals 1 to 6, then 10": the file's own first
unfoldable pub codes_outcome : (points out : List ℕ) → Outcome Answer
codes_outcome points out = afterwards refusal (checked point_format points) out (entries_outcome (codes_in points) out)
