-- Rows of CSV PAF of a set, by the numbers of its address records.
-- Assumes nothing.
use Rattle.std.specs.Prelude.{ℕ, List}
use Rattle.refusal.specs.Outcome.{Outcome}
use Rattle.run.specs.Series.{Asking}
use Rattle.file_record.specs.Parts.{record_at}
use Rattle.mainfile_record.specs.Address as At
use Rattle.source.specs.Address.{Address}
use Rattle.mainfile.specs.Set.{Set}
use Rattle.mainfile.specs.Rows.{set_lookup}
use Rattle.mainfile.specs.Addresses.{address_of}
use Rattle.mainfile_label.specs.Places.{place_among}
use Rattle.csv_write.specs.Placed.{placed_row}
use Rattle.refusal.specs.Answer.{Answer}

-- the address of a record, whose number is not written
abbrev pub address_at : Set → (place : ℕ) → Address
address_at s place = address_of 0 (record_at At.width s.addresses place) s.organisations

-- the row of an address record
abbrev pub place_row : Set → (place : ℕ) → List ℕ → Outcome Answer
place_row s place out = placed_row (set_lookup s) (address_at s place) place out

-- of the k-th of so many records that stand together
abbrev pub rows_among : Set → (first many : ℕ) → Asking
rows_among s first many = λ k out. place_row s (place_among first many k) out
