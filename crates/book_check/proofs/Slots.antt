-- Slots as parts of a book.
-- Assumes nothing.
use Prim.Native.Nat.{ℕ, ◌+◌, ◌*◌, ◌/◌, ◌≤◌, ◌<◌}
use mathlib.Core.Path.{◌≡◌, refl, sym, ap, ◌∙◌}
use mathlib.Core.Bool.{Bool, true, false}
use mathlib.Core.List.{List}
use native.Mathlib.Omega.{arith}
use borrow.Author.Tests.{eqb-true}
use lib.ListN.{length}
use Rattle.field.specs.Text.{part}
use Rattle.field_word.specs.Word.{word, Word}
use Rattle.file_record.proofs.Records.{part_length, part-part, record-part}
use Rattle.file_compare.specs.Order.{order, same}
use Rattle.file_compare.proofs.Order.{order-equal}
use Rattle.pack.specs.Numbers.{number_from, number_at}
use Rattle.book.specs.Layout.{slots, slot_width, book_length, slot_at, place_of, view_of}
use Rattle.book.specs.Book.{identity}
use Rattle.book_check.specs.Identity.{identity_length}

module _ (book : List ℕ) (s : ℕ) (long : length book ≡ book_length) (h : s < slots) where
  pub here : s < length book / slot_width
  here = rw long h

  pub slot-part : (from to : ℕ) → to ≤ slot_width
      → part (slot_at book s) from to ≡ part book (s * slot_width + from) (s * slot_width + to)
  slot-part from to k = record-part slot_width book s here from to k

  pub slot-place : number_at book (s * slot_width) 2 ≡ place_of (slot_at book s)
  unfolding number_at
  slot-place =
      let front : s * slot_width + 0 ≡ s * slot_width = omega arith in
      let parts : part (slot_at book s) 0 2 ≡ part book (s * slot_width) (s * slot_width + 2) =
      rw front at (slot-part 0 2 (omega arith)) in
      ap (number_from 0) (sym parts)

  slot-identity : part book (s * slot_width + 25) (s * slot_width + 42) ≡ identity (view_of (slot_at book s))
  slot-identity = sym (part-part (slot_at book s) 2 168 23 40 (omega arith) ∙ slot-part 25 42 (omega arith))

  -- the same by where it starts and ends
  pub identity-part : (from to : ℕ) → from ≡ s * slot_width + 25 → to ≡ s * slot_width + 42
      → part book from to ≡ identity (view_of (slot_at book s))
  identity-part from to e f = rw (e, f) slot-identity

  pub identity-long : length (identity (view_of (slot_at book s))) ≡ identity_length
  identity-long =
      ap length (sym slot-identity)
      ∙ (part_length book (s * slot_width + 25) (s * slot_width + 42) (omega arith) (omega arith) ∙ omega arith)

-- bytes that are another word there are others
pub other-words : (a b : List ℕ) (from to x y : ℕ) → Word (part a from to) x → Word (part b from to) y → (x ≡ y → ⊥)
    → same a b ≡ false
other-words a b from to x y v w differ = by-test (same a b) refl
  where
    by-test : (t : Bool) → same a b ≡ t → same a b ≡ false
    by-test true e =
        let alike : a ≡ b = order-equal a b (eqb-true (order a b) 0 e) in
        absurd (differ (v.is ∙ (ap (λ (l : List ℕ). word (part l from to)) alike ∙ sym w.is)))
    by-test false e = e
