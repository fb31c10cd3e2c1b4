-- What an event does to a book, by the tests in the code's order.
-- Assumes nothing.
use Prim.Native.Nat.{ℕ, suc, ◌-◌, ◌≤◌, ◌<◌}
use mathlib.Core.Path.{◌≡◌, sym, ap, ap₂, ◌∙◌}
use mathlib.Core.List.{List}
use borrow.Author.Tests.{lt-ltb, le-ltb}
use Rattle.refusal.specs.declared.Reason.TheVariants.{Later}
use Rattle.refusal.specs.declared.LaterReason.TheVariants.{InsertedTwice, NotPresent, NoFreeSlot}
use Rattle.refusal.specs.Outcome.{said}
use Rattle.refusal.proofs.Outcomes.{said-as}
use Rattle.book.specs.Layout.{slots, slot_at, count_of, laid}
use Rattle.book.specs.Book.{identity, keeper}
use Rattle.book.specs.Meaning.{Present}
use Rattle.book.specs.Event.{
  free_in,
  slot_inserted,
  slot_removed,
  slot_replaced,
  place_kept,
  insertion,
  removal,
  replacement,
}
use Rattle.std.specs.Prelude.{Ok}
use Rattle.refusal.specs.Answer.{refusal}

module _ (book : List ℕ) (e : Present) where
  abbrev by : ℕ
  by = keeper (slot_at book) (identity e.view)

  pub insertion-twice : by < slots → insertion book e ≡ said (refusal 0 (Later InsertedTwice)) book
  unfolding insertion
  insertion-twice h = simp (lt-ltb by slots h)

  module _ (absent : slots ≤ by) where
    pub insertion-full : slots ≤ free_in (slot_at book) → insertion book e ≡ said (refusal 0 (Later NoFreeSlot)) book
    unfolding insertion
    insertion-full h = simp (le-ltb by slots absent, le-ltb (free_in (slot_at book)) slots h)

    insertion-is : free_in (slot_at book) < slots
        → insertion book e ≡ said (Ok (suc (count_of book))) (laid (slot_inserted book e) (suc (count_of book)))
    unfolding insertion
    insertion-is h = simp (le-ltb by slots absent, lt-ltb (free_in (slot_at book)) slots h)

    pub insertion-done : free_in (slot_at book) < slots → (count : ℕ) (exit : List ℕ) → count ≡ suc (count_of book)
        → exit ≡ laid (slot_inserted book e) count
        → said (Ok count) exit ≡ insertion book e
    insertion-done h count exit p q =
        said-as (ap Ok p) (q ∙ ap (laid (slot_inserted book e)) p) ∙ sym (insertion-is h)

-- of a delivery point that is not present, and of one that is
module _ (book id : List ℕ) where
  abbrev kept : ℕ
  kept = keeper (slot_at book) id

  pub removal-none : slots ≤ kept → removal book id ≡ said (refusal 0 (Later NotPresent)) book
  unfolding removal
  removal-none h = simp (le-ltb kept slots h)

  removal-is : kept < slots
      → removal book id ≡ said (Ok (place_kept book id)) (laid (slot_removed book (place_kept book id)) (count_of book - 1))
  unfolding removal
  removal-is h = simp (lt-ltb kept slots h)

  pub removal-done : kept < slots → (place count : ℕ) (exit : List ℕ) → place ≡ place_kept book id → count ≡ count_of book - 1
      → exit ≡ laid (slot_removed book place) count
      → said (Ok place) exit ≡ removal book id
  removal-done h place count exit p q r =
      said-as (ap Ok p) (r ∙ ap₂ (λ (k n : ℕ). laid (slot_removed book k) n) p q) ∙ sym (removal-is h)

module _ (book : List ℕ) (e : Present) where
  abbrev own : ℕ
  own = place_kept book (identity e.view)

  pub replacement-none : slots ≤ by book e → replacement book e ≡ said (refusal 0 (Later NotPresent)) book
  unfolding replacement
  replacement-none h = simp (le-ltb (by book e) slots h)

  replacement-is : by book e < slots
      → replacement book e ≡ said (Ok own) (laid (slot_replaced book own e) (count_of book))
  unfolding replacement
  replacement-is h = simp (lt-ltb (by book e) slots h)

  pub replacement-done : by book e < slots → (place count : ℕ) (exit : List ℕ) → place ≡ own → count ≡ count_of book
      → exit ≡ laid (slot_replaced book place e) count
      → said (Ok place) exit ≡ replacement book e
  replacement-done h place count exit p q r =
      said-as (ap Ok p) (r ∙ ap₂ (λ (k n : ℕ). laid (slot_replaced book k e) n) p q) ∙ sym (replacement-is h)
