-- The records of a slot, from where they start, are those of the slot.
-- Assumes nothing.
use Prim.Native.Nat.{ℕ, ◌+◌, ◌-◌, ◌*◌, ◌/◌, ◌≤◌, ◌<◌}
use mathlib.Core.Path.{◌≡◌, sym, ap, ap₂, ◌∙◌}
use mathlib.Core.List.{List}
use native.Mathlib.Omega.{arith}
use lib.ListN.{length}
use Rattle.field.specs.Text.{part}
use Rattle.file_record.specs.Parts.{record_at}
use Rattle.file_record.proofs.Records.{part_length, part-part, record-here}
use Rattle.pack.specs.Numbers.{number_from, number_at}
use Rattle.book.specs.Layout.{slots, slot_width, book_length, slot_at, place_of, view_of, follower_of}
use Rattle.book.proofs.Laid.{slot-here}
use Rattle.book_source.specs.Starts.{start_of, records_at, place_before, Inside}

module _ (book : List ℕ) (at : ℕ) (inside : Inside book at) where
  pub records-long : length (records_at book at) ≡ 336
  records-long = part_length book at (at + 336) (omega arith) inside.high ∙ (let z : at + 336 - at ≡ 336 = omega arith in z)

  -- record 0 is the view's, 1 the follower's
  pub two_records : length (records_at book at) / 168 ≡ 2
  two_records = ap (◌/ 168) records-long

  pub record-in : (i : ℕ) → i < 2 → record_at 168 (records_at book at) i ≡ part book (at + i * 168) (at + (i * 168 + 168))
  record-in i h =
      record-here 168 (records_at book at) i (omega (arith, two_records))
      ∙ part-part book at 336 (i * 168) (i * 168 + 168) (omega arith)

module _ (book : List ℕ) (long : length book ≡ book_length) (s : ℕ) (low : s < slots) where
  pub slot-inside : Inside book (start_of s)
  slot-inside = record { low = omega arith; high = omega (arith, long) }

  slot-part : (from to : ℕ) → to ≤ slot_width → part (slot_at book s) from to ≡ part book (s * 338 + from) (s * 338 + to)
  slot-part from to h =
      ap (λ (l : List ℕ). part l from to) (slot-here book long s low) ∙ part-part book (s * 338) 338 from to h

  slot-record : (i from to : ℕ) → i < 2 → from ≡ 2 + i * 168 → to ≡ 2 + (i * 168 + 168)
      → part (slot_at book s) from to ≡ record_at 168 (records_at book (start_of s)) i
  slot-record i from to h e f =
      let a : s * 338 + from ≡ start_of s + i * 168 = omega arith in
      let b : s * 338 + to ≡ start_of s + (i * 168 + 168) = omega arith in
      slot-part from to (omega arith) ∙ (ap₂ (part book) a b ∙ sym (record-in book (start_of s) slot-inside i h))

  pub slot-view : view_of (slot_at book s) ≡ record_at 168 (records_at book (start_of s)) 0
  slot-view = slot-record 0 2 170 (omega arith) (omega arith) (omega arith)

  pub slot-follower : follower_of (slot_at book s) ≡ record_at 168 (records_at book (start_of s)) 1
  slot-follower = slot-record 1 170 338 (omega arith) (omega arith) (omega arith)

  pub slot-place : place_of (slot_at book s) ≡ place_before book (start_of s)
  unfolding number_at
  slot-place =
      let a : s * 338 + 0 ≡ start_of s - 2 = omega arith in
      let b : s * 338 + 2 ≡ start_of s - 2 + 2 = omega arith in
      ap (number_from 0) (slot-part 0 2 (omega arith) ∙ ap₂ (part book) a b)
