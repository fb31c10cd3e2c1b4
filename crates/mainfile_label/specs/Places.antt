-- The label of an address of a set by its record's number.
-- Assumes nothing.
use Rattle.std.specs.Prelude.{ℕ, zero, suc, ◌+◌, ◌-◌, ◌/◌, ◌≤◌, ◌<◌, cond, List, eqb, ltb, length}
use Rattle.refusal.specs.declared.Reason.TheVariants.{NoSuchNumber}
use Rattle.refusal.specs.Outcome.{Outcome, said}
use Rattle.file_record.specs.Parts.{record_at}
use Rattle.mainfile_record.specs.Address as At
use Rattle.source.specs.Resolve.{Resolved, resolve}
use Rattle.label.specs.Label.{resolved_outcome}
use Rattle.mainfile.specs.Set.{Set}
use Rattle.mainfile.specs.Rows.{set_lookup}
use Rattle.mainfile.specs.Addresses.{address_of}
use Rattle.mainfile.specs.Accepted.{AcceptedSet}
use Rattle.refusal.specs.Answer.{Answer, refusal}

-- the record of the k-th of so many that stand together, counted from 1; 0 where there is none
abbrev pub place_among : (first many k : ℕ) → ℕ
place_among first many zero = 0
place_among first many (suc j) = cond (ltb j many) (first + j) 0

-- the address of a record; its number is not printed
abbrev pub resolved_at : Set → ℕ → Resolved
resolved_at s place =
    resolve (set_lookup s) (address_of 0 (record_at At.width s.addresses place) s.organisations)

-- its label; "7: no view or point of that number" where there is no place
unfoldable pub place_label : Set → (place : ℕ) → List ℕ → Outcome Answer
place_label s place out =
    cond (eqb place 0) (said (refusal 0 NoSuchNumber) out) (resolved_outcome (resolved_at s place) out)

-- what a caller shows of a place: the files are accepted, and a place stands before the trailer
pub record AddressPlace (s : Set) (place : ℕ) : Type 0 where
  pub accepted : AcceptedSet s
  pub high : place < length s.addresses / At.width - 1

-- what a caller shows of records that stand together: the files are accepted, and header and trailer are none of them
pub record Between (s : Set) (first many : ℕ) : Type 0 where
  pub accepted : AcceptedSet s
  pub low : 1 ≤ first
  pub high : first + many < length s.addresses / At.width
