-- When bytes are a book: "28 not a book (laid out otherwise, a view not live, a malformed record, a follower malformed, missing
-- or stray by document 01's rule, or a delivery point twice)" (document 02, No. 10).
-- Assumes nothing.
use Rattle.std.specs.Prelude.{ℕ, Bool, cond, not, ◌&&◌, ◌||◌, List, leb, ltb, eqb, length}
use Rattle.field.specs.Test.{only}
use Rattle.field.specs.Text.{part}
use Rattle.file_record.specs.Names.Point
use Rattle.file_compare.specs.Order.{same}
use Rattle.file_fault.specs.Point.{point_fault}
use Rattle.file.specs.Formats.{needed, follows}
use Rattle.changes_views.specs.Views.{is_view, is_live}
use Rattle.refusal.specs.declared.Reason.TheVariants.{Later}
use Rattle.refusal.specs.declared.LaterReason.TheVariants.{NotABook}
use Rattle.book.specs.Layout.{slots, book_length, slot_at, count_of, place_of, view_of, follower_of}
use Rattle.book.specs.Search.{first_from, all_from}
use Rattle.std.specs.Prelude.{Ok}
use Rattle.refusal.specs.Answer.{Answer, refusal}

-- "A delivery point is known by postcode type, address key and organisation key": bytes 24 to 40 of a record
abbrev pub identity : (rec : List ℕ) → List ℕ
identity rec = part rec Point.postcode_type Point.letter

-- "a follower malformed, missing or stray by document 01's rule": one that is due, with its owner's first 41 bytes; "zeros
-- where there is none"
unfoldable pub followed : (rec next : List ℕ) → Bool
followed rec next =
    cond (eqb (needed rec) 0) (only 0 next) (eqb (point_fault next) 0 && follows rec next)

-- "a view not live, a malformed record"
unfoldable pub well_kept : (rec next : List ℕ) → Bool
well_kept rec next = eqb (point_fault rec) 0 && (is_view rec && (is_live rec && followed rec next))

-- of slots, each by its number
module _ (slot : ℕ → List ℕ) where
  -- "0 free"
  abbrev pub used : ℕ → Bool
  used s = not (eqb (place_of (slot s)) 0)

  -- the slot that has a place, the first if there are more; 256 where there is none
  abbrev pub has_place : ℕ → ℕ → Bool
  has_place p s = eqb (place_of (slot s)) p

  unfoldable pub holder : ℕ → ℕ
  holder p = first_from (has_place p) slots 0

  -- the slot that keeps a delivery point, likewise
  abbrev pub keeps : List ℕ → ℕ → Bool
  keeps id s = used s && same (identity (view_of (slot s))) id

  unfoldable pub keeper : List ℕ → ℕ
  keeper id = first_from (keeps id) slots 0

  -- "1 up to the count, each once": a place is at most the count and the first of its kind, and there is each of them
  abbrev pub well_placed : (count s : ℕ) → Bool
  well_placed count s = leb (place_of (slot s)) count && (eqb (holder (place_of (slot s))) s || not (used s))

  abbrev pub is_held : ℕ → Bool
  is_held p = ltb (holder p) slots

  -- a free slot is zeros; a used one has a view and what follows it, and no other before it has its delivery point
  unfoldable pub slot_fine : ℕ → Bool
  slot_fine s =
      cond (used s)
      (well_kept (view_of (slot s)) (follower_of (slot s)) && eqb (keeper (identity (view_of (slot s)))) s)
      (only 0 (slot s))

  unfoldable pub slots_good : (count : ℕ) → Bool
  slots_good count =
      all_from (well_placed count) slots 0 && (all_from is_held count 1 && all_from slot_fine slots 0)

unfoldable pub is_book : List ℕ → Bool
is_book book =
    eqb (length book) book_length && (leb (count_of book) slots && slots_good (slot_at book) (count_of book))

-- how many delivery points it has; 28
unfoldable pub book_judged : List ℕ → Answer
book_judged book = cond (is_book book) (Ok (count_of book)) (refusal 0 (Later NotABook))
