-- Events: "A call names an event by its first view in an accepted point file: I adds in the lowest free slot, D removes, a B
-- whose next view is the C of the same delivery point replaces" (document 02, No. 10).
-- Assumes nothing.
use Rattle.std.specs.Prelude.{ℕ, zero, suc, ◌+◌, ◌-◌, Bool, cond, not, ◌&&◌, List, [], ◌∷◌, ◌++◌, ltb, eqb, length, get_or, drop}
use Rattle.std.proofs.Math.Option.{Option, none, some}
use Rattle.file_record.specs.Parts.{record_at}
use Rattle.file_record.specs.Names.Point
use Rattle.file_compare.specs.Order.{same}
use Rattle.file.specs.Check.{checked}
use Rattle.file.specs.Formats.{needed, point_format}
use Rattle.changes_views.specs.Views.{last_of, wanted_at, next_wanted}
use Rattle.pack.specs.Numbers.{bytes_of}
use Rattle.refusal.specs.declared.Reason.{Reason}
use Rattle.refusal.specs.declared.Reason.TheVariants.{NoSuchNumber, Later}
use Rattle.refusal.specs.declared.LaterReason.TheVariants.{InsertedTwice, NotPresent, Unpaired, NoFreeSlot}
use Rattle.refusal.specs.Outcome.{Outcome, said, afterwards}
use Rattle.book.specs.Layout.{slots, slot_width, view_at, slot_at, count_of, place_of, zeros, laid}
use Rattle.book.specs.Search.{first_from}
use Rattle.book.specs.Book.{identity, used, holder, keeper, book_judged}
use Rattle.book.specs.Meaning.{Present}
use Rattle.std.specs.Prelude.{Ok}
use Rattle.refusal.specs.Answer.{Answer, refusal}

pub data Event : Type 0 where
  insert : Present → Event
  remove : (id : List ℕ) → Event
  replace : Present → Event

-- ---- which event a view names

-- the view at a place of a point file, and its follower where it needs one
unfoldable pub present_at : (points : List ℕ) → ℕ → Present
present_at points place =
    record {
      view = record_at Point.width points place;
      follower =
          cond (eqb (needed (record_at Point.width points place)) 0) (zeros Point.width)
          (record_at Point.width points (place + 1));
    }

module _ (points : List ℕ) (place : ℕ) where
  abbrev pub record_of : List ℕ
  record_of = record_at Point.width points place

  abbrev pub letter_at : ℕ
  letter_at = get_or record_of Point.letter 0

-- "the next view is missing, is not C or is another delivery point's (the next view: the B's follower is skipped)"
module _ (points : List ℕ) (place : ℕ) where
  abbrev pub next_view : ℕ
  next_view = next_wanted [] points (place + 1)

  unfoldable pub paired : Bool
  paired =
      ltb next_view (last_of points)
      && (eqb (letter_at points next_view) 67
      && same (identity (record_of points next_view)) (identity (record_of points place)))

  -- none: "19 B without its C, or a C named"
  unfoldable pub event_at : Option Event
  event_at =
      cond (eqb (letter_at points place) 73) (some (insert (present_at points place)))
      (cond (eqb (letter_at points place) 68) (some (remove (identity (record_of points place))))
      (cond (eqb (letter_at points place) 66 && paired) (some (replace (present_at points next_view))) none))

-- ---- what an event does to what is present

pub data Step : Type 0 where
  -- refused, and nothing is changed
  unchanged : Reason → Step
  -- the place concerned, and what is present then
  changed : (place : ℕ) → List Present → Step

-- the place of a delivery point among some, from p on; 0 where it is not present
abbrev pub place_from : (id : List ℕ) → (p : ℕ) → List Present → ℕ
place_from id p [] = 0
place_from id p (e ∷ more) = cond (same (identity e.view) id) p (place_from id (suc p) more)

-- what is present without place p, and with another at place p
abbrev pub without : (p : ℕ) → List Present → List Present
without p [] = []
without zero (e ∷ more) = e ∷ more
without (suc zero) (e ∷ more) = more
without (suc (suc p)) (e ∷ more) = e ∷ without (suc p) more

abbrev pub replaced : (p : ℕ) → Present → List Present → List Present
replaced p new [] = []
replaced zero new (e ∷ more) = e ∷ more
replaced (suc zero) new (e ∷ more) = new ∷ more
replaced (suc (suc p)) new (e ∷ more) = e ∷ replaced (suc p) new more

-- "17 inserted twice; 18 not present; 20 all slots in use"
abbrev pub step_of : Event → List Present → Step
step_of (insert e) present =
    cond (eqb (place_from (identity e.view) 1 present) 0)
    (cond (ltb (length present) slots)
    (changed (suc (length present)) (present ++ (e ∷ [])))
    (unchanged (Later NoFreeSlot)))
    (unchanged (Later InsertedTwice))
step_of (remove id) present =
    cond (eqb (place_from id 1 present) 0) (unchanged (Later NotPresent))
    (changed (place_from id 1 present) (without (place_from id 1 present) present))
step_of (replace e) present =
    cond (eqb (place_from (identity e.view) 1 present) 0) (unchanged (Later NotPresent))
    (changed (place_from (identity e.view) 1 present)
    (replaced (place_from (identity e.view) 1 present) e present))

-- ---- what an event does to the bytes of a book

abbrev pub slot_bytes : (place : ℕ) → Present → List ℕ
slot_bytes place e = bytes_of 2 place ++ (e.view ++ e.follower)

-- "the lowest free slot"; 256 where there is none
unfoldable pub free_in : (slot : ℕ → List ℕ) → ℕ
free_in slot = first_from (λ s. not (used slot s)) slots 0

-- a slot that has one place less
abbrev pub lowered : (slot : List ℕ) → List ℕ
lowered slot = bytes_of 2 (place_of slot - 1) ++ drop view_at slot

module _ (book : List ℕ) where
  -- the lowest free slot gets the records and the place behind all others
  abbrev pub slot_inserted : Present → ℕ → List ℕ
  slot_inserted e s = cond (eqb s (free_in (slot_at book))) (slot_bytes (suc (count_of book)) e) (slot_at book s)

  -- "its slot is zeroed, later places fall by one"
  abbrev pub slot_removed : (p s : ℕ) → List ℕ
  slot_removed p s =
      cond (eqb (place_of (slot_at book s)) p) (zeros slot_width)
      (cond (ltb p (place_of (slot_at book s))) (lowered (slot_at book s)) (slot_at book s))

  -- "a replacement keeps its place"
  abbrev pub slot_replaced : (p : ℕ) → Present → ℕ → List ℕ
  slot_replaced p e s = cond (eqb (place_of (slot_at book s)) p) (slot_bytes p e) (slot_at book s)

  -- "a call moves places 1, 2 and so on into the first slots"
  abbrev pub slot_tidied : ℕ → List ℕ
  slot_tidied s = cond (ltb s (count_of book)) (slot_at book (holder (slot_at book) (suc s))) (zeros slot_width)

  -- the place of a delivery point that is present
  abbrev pub place_kept : (id : List ℕ) → ℕ
  place_kept id = place_of (slot_at book (keeper (slot_at book) id))

  abbrev pub is_kept : (id : List ℕ) → Bool
  is_kept id = ltb (keeper (slot_at book) id) slots

  unfoldable pub insertion : Present → Outcome Answer
  insertion e =
      cond (is_kept (identity e.view)) (said (refusal 0 (Later InsertedTwice)) book)
      (cond (ltb (free_in (slot_at book)) slots)
      (said (Ok (suc (count_of book))) (laid (slot_inserted e) (suc (count_of book))))
      (said (refusal 0 (Later NoFreeSlot)) book))

  unfoldable pub removal : (id : List ℕ) → Outcome Answer
  removal id =
      cond (is_kept id) (said (Ok (place_kept id)) (laid (slot_removed (place_kept id)) (count_of book - 1)))
      (said (refusal 0 (Later NotPresent)) book)

  unfoldable pub replacement : Present → Outcome Answer
  replacement e =
      cond (is_kept (identity e.view))
      (said (Ok (place_kept (identity e.view))) (laid (slot_replaced (place_kept (identity e.view)) e) (count_of book)))
      (said (refusal 0 (Later NotPresent)) book)

  abbrev pub event_done : Option Event → Outcome Answer
  event_done none = said (refusal 0 (Later Unpaired)) book
  event_done (some (insert e)) = insertion e
  event_done (some (remove id)) = removal id
  event_done (some (replace e)) = replacement e

  -- "7: no view or point of that number"
  abbrev pub event_from : (points : List ℕ) → (place : ℕ) → Outcome Answer
  event_from points place =
      cond (eqb place 0) (said (refusal 0 NoSuchNumber) book) (event_done (event_at points place))

  -- "28; the point file's own refusals; 7; 19; 17, 18, 20"
  unfoldable pub event_outcome : (points : List ℕ) → (view : ℕ) → Outcome Answer
  event_outcome points view =
      afterwards refusal (book_judged book) book
      (afterwards refusal (checked point_format points) book (event_from points (wanted_at [] points view)))

  -- "places 1, 2 and so on stand in the first slots, in order; value the count. 28."
  unfoldable pub tidy_outcome : Outcome Answer
  tidy_outcome =
      afterwards refusal (book_judged book) book (said (Ok (count_of book)) (laid slot_tidied (count_of book)))
