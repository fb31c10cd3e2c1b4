-- What the writers do to the bytes of a book.
-- Assumes nothing.
use Rattle.std.specs.Prelude.{ℕ, ◌≤◌, ◌<◌, ◌≡◌, cond, List, eqb, length}
use denote.MutBor.{MutBor}
use Rattle.file_record.specs.Names.Point
use Rattle.book.specs.Layout.{slots, book_length, slot_at}
use Rattle.book.specs.Meaning.{Present}

-- a slot of what is as long as a book
pub record SlotIn (book : List ℕ) (s : ℕ) : Type 0 where
  pub long : length book ≡ book_length
  pub low : s < slots

-- what is to be kept: a view's record and its follower's
abbrev pub present : (view follower : List ℕ) → Present
present view follower = record { view = view; follower = follower }

pub record Records (view follower : List ℕ) : Type 0 where
  pub view_long : length view ≡ Point.width
  pub follower_long : length follower ≡ Point.width

-- slot s is `text` then, and the others are as they were
pub record SlotSet (text : List ℕ) (s : ℕ) (entry exit : List ℕ) : Type 0 where
  pub long : length exit ≡ book_length
  pub slot : (t : ℕ) → t < slots → slot_at exit t ≡ cond (eqb t s) text (slot_at entry t)

-- the first n slots are those that f says, and the others are as they were
pub record Upto (f : ℕ → List ℕ) (n : ℕ) (entry exit : List ℕ) : Type 0 where
  pub long : length exit ≡ book_length
  pub done : (s : ℕ) → s < n → slot_at exit s ≡ f s
  pub rest : (s : ℕ) → n ≤ s → s < slots → slot_at exit s ≡ slot_at entry s

-- a step gives a slot that is as it was the bytes that f says
abbrev pub Gives : (step : MutBor (List ℕ) → ℕ → MutBor (List ℕ) → Type 0) → (f : ℕ → List ℕ) → (entry : List ℕ) → Type 0
Gives step f entry =
    (b b' : MutBor (List ℕ)) (s : ℕ) → SlotIn b.now s → slot_at b.now s ≡ slot_at entry s → step b s b' → SlotSet (f s) s b.now b'.now
