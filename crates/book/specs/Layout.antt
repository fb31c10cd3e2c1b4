-- The bytes of a book: "256 slots, each a place 2 bytes (0 free, otherwise 1 up to the count, each once), a view's record 168
-- and its follower's 168, zeros where there is none; then the count 2; numbers as in a pack" (document 02, No. 10).
-- Assumes nothing.
use Rattle.std.specs.Prelude.{ℕ, zero, suc, List, [], ◌∷◌, ◌++◌}
use Rattle.field.specs.Text.{part}
use Rattle.file_record.specs.Parts.{record_at}
use Rattle.pack.specs.Numbers.{bytes_of, number_at}

abbrev pub slots : ℕ
slots = 256

abbrev pub slot_width : ℕ
slot_width = 338

-- where a slot's records start
abbrev pub view_at : ℕ
view_at = 2

abbrev pub follower_at : ℕ
follower_at = 170

-- where the count stands
abbrev pub count_at : ℕ
count_at = 86_528

-- "A book is 86,530 lent bytes"
abbrev pub book_length : ℕ
book_length = 86_530

-- ---- a book read

-- slot s, counted from 0
abbrev pub slot_at : List ℕ → ℕ → List ℕ
slot_at book s = record_at slot_width book s

abbrev pub count_of : List ℕ → ℕ
count_of book = number_at book count_at 2

abbrev pub place_of : (slot : List ℕ) → ℕ
place_of slot = number_at slot 0 2

abbrev pub view_of : (slot : List ℕ) → List ℕ
view_of slot = part slot view_at follower_at

abbrev pub follower_of : (slot : List ℕ) → List ℕ
follower_of slot = part slot follower_at slot_width

-- ---- a book laid out

abbrev pub zeros : ℕ → List ℕ
zeros zero = []
zeros (suc n) = 0 ∷ zeros n

-- n slots from slot s on
abbrev pub slots_from : (ℕ → List ℕ) → (n s : ℕ) → List ℕ
slots_from slot zero s = []
slots_from slot (suc n) s = slot s ++ slots_from slot n (suc s)

-- all slots, then the count
unfoldable pub laid : (slot : ℕ → List ℕ) → (count : ℕ) → List ℕ
laid slot count = slots_from slot slots 0 ++ bytes_of 2 count
