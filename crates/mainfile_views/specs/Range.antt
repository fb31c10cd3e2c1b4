-- The addresses of an outward code: a range of records, and how many they are.
-- Assumes nothing.
use Rattle.std.specs.Prelude.{ℕ, ◌-◌, ◌/◌, cond, List, eqb, length}
use Rattle.refusal.specs.declared.Reason.TheVariants.{BadCode}
use Rattle.refusal.specs.Outcome.{after}
use Rattle.field.specs.Text.{part}
use Rattle.field_outward.specs.Outward.{outward_fault}
use Rattle.file_record.specs.Parts.{record_at}
use Rattle.file_compare.specs.Order.{order}
use Rattle.mainfile_record.specs.Address as At
use Rattle.file.specs.Check.{checked}
use Rattle.file.specs.Mainfile.{addresses}
use Rattle.shelf.specs.Search.{upper_of}
use Rattle.std.specs.Prelude.{Ok}
use Rattle.refusal.specs.Answer.{Answer, refusal}

-- where an order puts a code: 0 below another, 1 the same, 2 above it
abbrev pub rank : ℕ → ℕ
rank o = cond (eqb o 1) 0 (cond (eqb o 0) 1 2)

module _ (file code : List ℕ) where
  -- how the outward code of record i stands to a code
  abbrev pub rank_at : ℕ → ℕ
  rank_at i = rank (order (part (record_at At.width file i) At.outward At.inward) code)

-- the place of the trailer
abbrev pub last_of : List ℕ → ℕ
last_of file = length file / At.width - 1

-- "A view is an address record, numbered from 1 in file order": how many there are
abbrev pub views_in : List ℕ → ℕ
views_in file = length file / At.width - 2

module _ (file code : List ℕ) where
  -- the first record that is not below the code, and the first that is above it
  unfoldable pub first_in : ℕ
  first_in = upper_of (rank_at file code) (last_of file) 0

  unfoldable pub end_in : ℕ
  end_in = upper_of (rank_at file code) (last_of file) 1

  abbrev pub many_in : ℕ
  many_in = end_in - first_in

  -- "12: outward code malformed"
  unfoldable pub live_at : Answer
  live_at = cond (eqb (outward_fault code) 0) (Ok many_in) (refusal 0 BadCode)

  -- the file's own refusal first
  unfoldable pub live_answer : Answer
  live_answer = after (checked addresses file) live_at
