-- The outward codes of an address file, as those of a point file: "the outward codes with live views, rising, each 4
-- bytes and its count in 4 bytes, most significant first; value: how many codes".
-- Assumes nothing.
use Rattle.std.specs.Prelude.{ℕ, zero, suc, List, [], ◌∷◌}
use Rattle.file_record.specs.Parts.{record_at}
use Rattle.mainfile_record.specs.Address as At
use Rattle.refusal.specs.Outcome.{Outcome, afterwards}
use Rattle.file.specs.Check.{checked}
use Rattle.file.specs.Mainfile.{addresses}
use Rattle.mainfile_views.specs.Range.{views_in}
use Rattle.pack.specs.Numbers.{number_at}
use Rattle.tally.specs.Tally.{Entry, tally}
use Rattle.tally_bytes.specs.Entries.{entries_outcome}
use Rattle.refusal.specs.Answer.{Answer, refusal}

-- the outward code of record i, as the number of its four bytes, "most significant first": so the order of codes as
-- bytes is the order of their numbers
abbrev pub code_in : (file : List ℕ) → ℕ → ℕ
code_in file i = number_at (record_at At.width file i) At.outward 4

-- "A view is an address record, numbered from 1 in file order; every one is live": the codes of k of them from i on
abbrev pub codes_from : (file : List ℕ) → (k i : ℕ) → List ℕ
codes_from file zero i = []
codes_from file (suc k) i = code_in file i ∷ codes_from file k (suc i)

-- the codes of all addresses
abbrev pub all_codes : List ℕ → List ℕ
all_codes file = codes_from file (views_in file) 1

-- "the outward codes .., rising"
abbrev pub codes_in : List ℕ → List Entry
codes_in file = tally (all_codes file)

-- the refusals of the file, then 10
unfoldable pub codes_outcome : (file out : List ℕ) → Outcome Answer
codes_outcome file out = afterwards refusal (checked addresses file) out (entries_outcome (codes_in file) out)
