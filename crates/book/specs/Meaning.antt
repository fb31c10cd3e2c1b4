-- What a book means: the delivery points that are present, in order of place.
-- Assumes nothing.
use Rattle.std.specs.Prelude.{ℕ, zero, suc, List, [], ◌∷◌}
use Rattle.book.specs.Layout.{slot_at, count_of, view_of, follower_of}
use Rattle.book.specs.Book.{holder}

-- a view's record and its follower's, zeros where there is none
pub record Present : Type 0 where
  pub view : List ℕ
  pub follower : List ℕ

abbrev pub present_in : (slot : List ℕ) → Present
present_in slot = record { view = view_of slot; follower = follower_of slot }

-- those of n places from p on
abbrev pub present_from : (slot : ℕ → List ℕ) → (n p : ℕ) → List Present
present_from slot zero p = []
present_from slot (suc n) p = present_in (slot (holder slot p)) ∷ present_from slot n (suc p)

-- "places list exactly what the accepted events say is present, in order of insertion"
unfoldable pub means : List ℕ → List Present
means book = present_from (slot_at book) (count_of book) 1
