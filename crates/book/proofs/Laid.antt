-- A book laid out and read back: its slots, its count, and what stands in a slot; and a book with one part put anew.
-- Assumes nothing.
use Prim.Native.Nat.{ℕ, zero, suc, ◌+◌, ◌-◌, ◌*◌, ◌/◌, ◌≤◌, ◌<◌}
use mathlib.Core.Path.{◌≡◌, refl, sym, ap, ap₂, subst, ◌∙◌}
use mathlib.Core.Bool.{Bool, true, false, cond}
use mathlib.Core.List.{List, [], ◌∷◌, ◌++◌, append_assoc, append-nil}
use native.Mathlib.Omega.{arith}
use native.Mathlib.Nat.{zero-mul, suc-mul, zero-add, add-zero}
use borrow.Author.Tests.{leb-true, leb-false, eq-eqb, ne_eqb}
use lib.Dec.{leb, eqb}
use lib.ListN.{length, take, drop, take-append-drop, length-append, length-drop, drop_of_length-le}
use lib.Seq.{drop-drop, take-append-le, drop-append-le, length-take-le, drop_at, take_at, take_all}
use Rattle.field.specs.Test.{only}
use Rattle.field.specs.Text.{part}
use Rattle.field.proofs.Parts.{part_join}
use Rattle.file_record.specs.Names.Point
use Rattle.file_record.proofs.Records.{record-here, record-length, record-part}
use Rattle.file_compare.proofs.Order.{by_bytes}
use Rattle.pack.specs.Numbers.{bytes_of, number_from, number_at}
use Rattle.pack_carries.proofs.Numbers.{bytes-long}
use Rattle.pack_carries.proofs.Stands.{Stands, stands-all, stands-end, stands-first, stands-second, stands-part, stands-number}
use Rattle.book.specs.Layout.{
  slots,
  slot_width,
  view_at,
  follower_at,
  count_at,
  book_length,
  slot_at,
  count_of,
  place_of,
  view_of,
  follower_of,
  zeros,
  slots_from,
  laid,
}
use Rattle.book.specs.Meaning.{Present, present_in}
use Rattle.book.specs.Event.{slot_bytes, lowered}
use Rattle.book.proofs.Search.{equal-or}

-- ---- slots of any width, one behind the other

module _ (w : ℕ) (f : ℕ → List ℕ) where
  abbrev AllWide : (n s : ℕ) → Type 0
  AllWide n s = (t : ℕ) → s ≤ t → t < s + n → length (f t) ≡ w

  slots-long : (n s : ℕ) → AllWide n s → length (slots_from f n s) ≡ n * w
  slots-long zero s wide = omega arith
  slots-long (suc n) s wide =
      length-append (f s) (slots_from f n (suc s))
      ∙ omega (
        arith,
        suc-mul n w,
        wide s (omega arith) (omega arith),
        slots-long n (suc s) (λ t p q. wide t (omega arith) (omega arith)),
      )

  -- behind k of them stand the others
  slots-drop : (k n s : ℕ) (back : List ℕ) → AllWide k s
      → drop (k * w) (slots_from f (k + n) s ++ back) ≡ slots_from f n (s + k) ++ back
  slots-drop zero n s back wide = rw (zero-mul w, zero-add n, add-zero s)
  slots-drop (suc k) n s back wide =
      let size : suc k * w ≡ w + k * w = omega (arith, suc-mul k w) in
      let many : suc k + n ≡ suc (k + n) = omega arith in
      let place : s + suc k ≡ suc s + k = omega arith in
      let rest = slots_from f (k + n) (suc s) ++ back in
      rw (size, many, place, append_assoc (f s) (slots_from f (k + n) (suc s)) back)
      (sym (drop-drop (k * w) w (f s ++ rest))
      ∙ (ap (drop (k * w)) (drop_at (f s) rest w (wide s (omega arith) (omega arith)))
      ∙ slots-drop k n (suc s) back (λ t p q. wide t (omega arith) (omega arith))))

  slots_at : (k n : ℕ) (back : List ℕ) → AllWide (suc k) 0
      → part (slots_from f (k + suc n) 0 ++ back) (k * w) (k * w + w) ≡ f k
  slots_at k n back wide =
      let size : k * w + w - k * w ≡ w = omega arith in
      let rest = slots_from f n (suc (0 + k)) in
      let behind = slots-drop k (suc n) 0 back (λ t p q. wide t p (omega arith)) in
      rw (size, behind, append_assoc (f (0 + k)) rest back, zero-add k)
      (take_at (f k) (slots_from f n (suc k) ++ back) w (wide k (omega arith) (omega arith)))

pub slots_same : (f g : ℕ → List ℕ) (n s : ℕ) → ((t : ℕ) → s ≤ t → t < s + n → f t ≡ g t)
    → slots_from f n s ≡ slots_from g n s
slots_same f g zero s each = refl
slots_same f g (suc n) s each =
    ap₂ ◌++◌ (each s (omega arith) (omega arith))
    (slots_same f g n (suc s) (λ t p q. each t (omega arith) (omega arith)))

-- bytes are their own parts, one behind the other
module _ (w : ℕ) (file : List ℕ) where
  abbrev piece : ℕ → List ℕ
  piece t = part file (t * w) (t * w + w)

  pieces : (n s : ℕ) → drop (s * w) file ≡ slots_from piece n s ++ drop ((s + n) * w) file
  pieces zero s = rw (add-zero s)
  pieces (suc n) s =
      let size : s * w + w - s * w ≡ w = omega arith in
      let next : s * w + w ≡ suc s * w = omega (arith, suc-mul s w) in
      let place : s + suc n ≡ suc s + n = omega arith in
      let rest = slots_from piece n (suc s) in
      sym (take-append-drop w (drop (s * w) file))
      ∙ (ap₂ ◌++◌ (ap (λ k. take k (drop (s * w) file)) (sym size))
      (drop-drop w (s * w) file ∙ (ap (λ k. drop k file) next ∙ pieces n (suc s)))
      ∙ (sym (append_assoc (piece s) rest (drop ((suc s + n) * w) file))
      ∙ ap (λ k. (piece s ++ rest) ++ drop (k * w) file) (sym place)))

  pub pieces_are : (f : ℕ → List ℕ) (n : ℕ) (back : List ℕ) → ((t : ℕ) → t < n → piece t ≡ f t)
      → drop (n * w) file ≡ back
      → file ≡ slots_from f n 0 ++ back
  pieces_are f n back each end =
      ap (λ k. drop k file) (sym (zero-mul w))
      ∙ (pieces n 0
      ∙ ap₂ ◌++◌ (slots_same piece f n 0 (λ t p q. each t (omega arith)))
      (ap (λ k. drop (k * w) file) (zero-add n) ∙ end))

-- ---- a book

-- the slots of what is as long as a book
module _ (book : List ℕ) (long : length book ≡ book_length) where
  here : (s : ℕ) → s < slots → s < length book / slot_width
  here s h = rw long h

  pub slot-here : (s : ℕ) → s < slots → slot_at book s ≡ part book (s * slot_width) (s * slot_width + slot_width)
  slot-here s h = record-here slot_width book s (here s h)

  pub slot-long : (s : ℕ) → s < slots → length (slot_at book s) ≡ slot_width
  slot-long s h = record-length slot_width book s (here s h)

  -- it is laid out of its slots and of its last two bytes
  pub laid-is : (f : ℕ → List ℕ) (n : ℕ) → ((s : ℕ) → s < slots → slot_at book s ≡ f s)
      → part book count_at book_length ≡ bytes_of 2 n
      → book ≡ laid f n
  unfolding laid
  laid-is f n each count =
      pieces_are slot_width book f slots (bytes_of 2 n) (λ s h. sym (slot-here s h) ∙ each s h)
      (sym (take_all 2 (drop count_at book) (omega (arith, length-drop count_at book))) ∙ count)

pub laid_same : (f g : ℕ → List ℕ) (n : ℕ) → ((s : ℕ) → s < slots → f s ≡ g s) → laid f n ≡ laid g n
unfolding laid
laid_same f g n each = ap (◌++ bytes_of 2 n) (slots_same f g slots 0 (λ s p q. each s q))

module _ (f : ℕ → List ℕ) (n : ℕ) (wide : (s : ℕ) → s < slots → length (f s) ≡ slot_width) where
  pub laid-long : length (laid f n) ≡ book_length
  unfolding laid
  laid-long =
      length-append (slots_from f slots 0) (bytes_of 2 n)
      ∙ omega (arith, slots-long slot_width f slots 0 (λ t p q. wide t q))

  pub laid-slot : (s : ℕ) → s < slots → slot_at (laid f n) s ≡ f s
  unfolding laid
  laid-slot s h =
      slot-here (laid f n) laid-long s h
      ∙ (ap (λ k. part (slots_from f k 0 ++ bytes_of 2 n) (s * slot_width) (s * slot_width + slot_width)) split
      ∙ slots_at slot_width f s (slots - suc s) (bytes_of 2 n) (λ t p q. wide t (omega arith)))
    where
      split : slots ≡ s + suc (slots - suc s)
      split = omega arith

  count-stands : Stands (laid f n) count_at (bytes_of 2 n)
  unfolding laid
  count-stands =
      subst (λ k. Stands (slots_from f slots 0 ++ bytes_of 2 n) k (bytes_of 2 n))
      (slots-long slot_width f slots 0 (λ t p q. wide t q))
      (stands-end (slots_from f slots 0) (bytes_of 2 n))

  pub laid-count : n < 65_536 → count_of (laid f n) ≡ n
  laid-count small = stands-number 2 n small count-stands

  pub laid-last : part (laid f n) count_at book_length ≡ bytes_of 2 n
  laid-last = stands-part count-stands 2 refl

-- ---- a part put anew

-- what is behind the end of a part does not count
front-part : (p x : List ℕ) (a e : ℕ) → e ≤ length p → part (p ++ x) a e ≡ part p a e
front-part p x a e h = by-test (leb a e) refl
  where
    by-test : (t : Bool) → leb a e ≡ t → part (p ++ x) a e ≡ part p a e
    by-test true q =
        let low : a ≤ e = leb-true a e q in
        let size = length-drop a p in
        rw (drop-append-le a p x (omega arith)) (take-append-le (e - a) (drop a p) x (omega arith))
    by-test false q = rw (let z : e - a ≡ 0 = omega (arith, leb-false a e q) in z)

-- as label's `Put` says it, of bytes that fit
module _ (entry new : List ℕ) (at : ℕ) (exit : List ℕ) (fits : at + length new ≤ length entry)
    (is : exit ≡ take at entry ++ (new ++ drop (at + length new) entry)) where
  abbrev before : List ℕ
  before = take at entry

  abbrev behind : List ℕ
  behind = drop (at + length new) entry

  before-long : length before ≡ at
  before-long = length-take-le at entry (omega arith)

  pub put-long : length exit ≡ length entry
  put-long =
      ap length is
      ∙ (length-append before (new ++ behind)
      ∙ omega (arith, before-long, length-append new behind, length-drop (at + length new) entry))

  pub put-part : part exit at (at + length new) ≡ new
  put-part =
      let size : at + length new - at ≡ length new = omega arith in
      ap (λ l. part l at (at + length new)) is
      ∙ rw (size, drop_at before (new ++ behind) at before-long) (take_at new behind (length new) refl)

  pub put-before : (a e : ℕ) → e ≤ at → part exit a e ≡ part entry a e
  put-before a e h =
      let fit : e ≤ length before = omega (arith, before-long) in
      ap (λ l. part l a e) is
      ∙ (front-part before (new ++ behind) a e fit
      ∙ (sym (front-part before (drop at entry) a e fit) ∙ ap (λ l. part l a e) (take-append-drop at entry)))

  pub put-behind : (a e : ℕ) → at + length new ≤ a → part exit a e ≡ part entry a e
  put-behind a e h = ap (take (e - a)) (from (at + length new) (a - (at + length new)) refl (omega arith))
    where
      all : drop (at + length new) exit ≡ behind
      all =
          ap (drop (at + length new)) (is ∙ sym (append_assoc before new behind))
          ∙ drop_at (before ++ new) behind (at + length new) (length-append before new ∙ omega (arith, before-long))

      from : (m k : ℕ) → m ≡ at + length new → m + k ≡ a → drop a exit ≡ drop a entry
      from m k p q =
          rw (sym q) (sym (drop-drop k m exit) ∙ (ap (drop k) (rw p all) ∙ drop-drop k m entry))

-- two slots stand apart
apart : (s t : ℕ) → s < t → s * slot_width + slot_width ≤ t * slot_width
apart s t h = omega arith

module _ (book new : List ℕ) (exit : List ℕ) (long : length book ≡ book_length) where
  -- a part of slot s put anew, from its byte o on: the slot is put so, and no other is touched
  module _ (s o : ℕ) (low : s < slots) (narrow : o + length new ≤ slot_width)
      (is : exit ≡ take (s * slot_width + o) book ++ (new ++ drop (s * slot_width + o + length new) book)) where
    abbrev start : ℕ
    start = s * slot_width

    fits : start + o + length new ≤ length book
    fits = omega arith

    pub put-within-long : length exit ≡ book_length
    put-within-long = put-long book new (start + o) exit fits is ∙ long

    -- the parts of the slot before and behind what is put
    front-is : part book start (start + o) ≡ take o (slot_at book s)
    front-is =
        let z : start + 0 ≡ start = omega arith in
        let all : o ≡ o - 0 = omega arith in
        sym
        (ap (λ k. take k (slot_at book s)) all
        ∙ (record-part slot_width book s (here book long s low) 0 o (omega arith) ∙ ap (λ k. part book k (start + o)) z))

    back_is : part book (start + o + length new) (start + slot_width) ≡ drop (o + length new) (slot_at book s)
    back_is =
        let m = o + length new in
        let z : start + m ≡ start + o + length new = omega arith in
        let size = length-drop m (slot_at book s) in
        ap (λ k. part book k (start + slot_width)) (sym z)
        ∙ (sym (record-part slot_width book s (here book long s low) m slot_width (omega arith))
        ∙ take_all (slot_width - m) (drop m (slot_at book s)) (omega (arith, slot-long book long s low)))

    slot_is : part exit start (start + slot_width)
        ≡ take o (slot_at book s) ++ (new ++ drop (o + length new) (slot_at book s))
    slot_is =
        let at = start + o in
        part_join exit start at (start + slot_width) (omega arith) (omega arith)
        ∙ ap₂ ◌++◌ (put-before book new at exit fits is start at (omega arith) ∙ front-is)
        (part_join exit at (at + length new) (start + slot_width) (omega arith) (omega arith)
        ∙ ap₂ ◌++◌ (put-part book new at exit fits is)
        (put-behind book new at exit fits is (at + length new) (start + slot_width) (omega arith) ∙ back_is))

    other-is : (t : ℕ) → t < slots → (t ≡ s → ⊥)
        → part exit (t * slot_width) (t * slot_width + slot_width) ≡ part book (t * slot_width) (t * slot_width + slot_width)
    other-is t h other =
        let at = t * slot_width in
        by_bytes t s (λ l. put-before book new (start + o) exit fits is at (at + slot_width) (omega (arith, apart t s l)))
        (λ e. absurd (other e))
        (λ l. put-behind book new (start + o) exit fits is at (at + slot_width) (omega (arith, apart s t l)))

    pub put-within : (t : ℕ) → t < slots
        → slot_at exit t
        ≡ cond (eqb t s) (take o (slot_at book t) ++ (new ++ drop (o + length new) (slot_at book t))) (slot_at book t)
    put-within t h =
        slot-here exit put-within-long t h
        ∙ equal-or t s (λ e. rw (eq-eqb t s e, e) slot_is)
        (λ n. rw (ne_eqb t s n) (other-is t h n ∙ sym (slot-here book long t h)))

    pub put-within-count : part exit count_at book_length ≡ part book count_at book_length
    put-within-count = put-behind book new (start + o) exit fits is count_at book_length (omega arith)

  -- a whole slot put anew
  module _ (s : ℕ) (low : s < slots) (wide : length new ≡ slot_width)
      (is : exit ≡ take (s * slot_width) book ++ (new ++ drop (s * slot_width + length new) book)) where
    narrow : 0 + length new ≤ slot_width
    narrow = omega arith

    from_start : exit ≡ take (s * slot_width + 0) book ++ (new ++ drop (s * slot_width + 0 + length new) book)
    from_start = rw (add-zero (s * slot_width)) is

    pub put-slot-long : length exit ≡ book_length
    put-slot-long = put-within-long s 0 low narrow from_start

    pub put-slot : (t : ℕ) → t < slots → slot_at exit t ≡ cond (eqb t s) new (slot_at book t)
    put-slot t h =
        let gone : drop (0 + length new) (slot_at book t) ≡ [] =
        drop_of_length-le (slot_at book t) {i = 0 + length new} (omega (arith, slot-long book long t h)) in
        put-within s 0 low narrow from_start t h
        ∙ ap (λ l. cond (eqb t s) l (slot_at book t)) (ap (new ++◌) gone ∙ append-nil new)

    pub put-slot-count : part exit count_at book_length ≡ part book count_at book_length
    put-slot-count = put-within-count s 0 low narrow from_start

  -- the count of a book put anew
  module _ (wide : length new ≡ 2) (is : exit ≡ take count_at book ++ (new ++ drop (count_at + length new) book)) where
    count_fits : count_at + length new ≤ length book
    count_fits = omega arith

    pub put-count-long : length exit ≡ book_length
    put-count-long = put-long book new count_at exit count_fits is ∙ long

    pub put_count : part exit count_at book_length ≡ new
    put_count = subst (λ k. part exit count_at (count_at + k) ≡ new) wide (put-part book new count_at exit count_fits is)

    pub put-count-slot : (t : ℕ) → t < slots → slot_at exit t ≡ slot_at book t
    put-count-slot t h =
        slot-here exit put-count-long t h
        ∙ (put-before book new count_at exit count_fits is (t * slot_width) (t * slot_width + slot_width) (omega arith)
        ∙ sym (slot-here book long t h))

-- a slot and then the count put anew
pub put_both : (book new : List ℕ) (n s : ℕ) (middle exit : List ℕ) → length book ≡ book_length → s < slots
    → length new ≡ slot_width
    → middle ≡ take (s * slot_width) book ++ (new ++ drop (s * slot_width + length new) book)
    → exit ≡ take count_at middle ++ (bytes_of 2 n ++ drop (count_at + length (bytes_of 2 n)) middle)
    → exit ≡ laid (λ t. cond (eqb t s) new (slot_at book t)) n
put_both book new n s middle exit long low wide first second =
    let middle-long = put-slot-long book new middle long s low wide first in
    laid-is exit (put-count-long middle (bytes_of 2 n) exit middle-long refl second)
    (λ t. cond (eqb t s) new (slot_at book t)) n
    (λ t h.
    put-count-slot middle (bytes_of 2 n) exit middle-long refl second t h
    ∙ put-slot book new middle long s low wide first t h)
    (put_count middle (bytes_of 2 n) exit middle-long refl second)

-- ---- zeros

pub zeros-long : (n : ℕ) → length (zeros n) ≡ n
zeros-long zero = refl
zeros-long (suc n) = ap suc (zeros-long n)

pub zeros-only : (n : ℕ) → only 0 (zeros n) ≡ true
zeros-only zero = refl
zeros-only (suc n) = zeros-only n

zeros-add : (m n : ℕ) → zeros (m + n) ≡ zeros m ++ zeros n
zeros-add zero n = rw (zero-add n)
zeros-add (suc m) n = ap zeros (let z : suc m + n ≡ suc (m + n) = omega arith in z) ∙ ap (0 ∷◌) (zeros-add m n)

pub zeros-part : (n a e : ℕ) → a ≤ e → e ≤ n → part (zeros n) a e ≡ zeros (e - a)
zeros-part n a e low high =
    let rest = (e - a) + (n - e) in
    let split : n ≡ a + rest = omega arith in
    ap (λ k. part (zeros k) a e) split
    ∙ rw (zeros-add a rest, drop_at (zeros a) (zeros rest) a (zeros-long a), zeros-add (e - a) (n - e))
    (take_at (zeros (e - a)) (zeros (n - e)) (e - a) (zeros-long (e - a)))

pub zeros-number : (n a : ℕ) → a + 2 ≤ n → number_at (zeros n) a 2 ≡ 0
unfolding number_at
zeros-number n a h =
    ap (number_from 0) (zeros-part n a (a + 2) (omega arith) h ∙ ap zeros (let z : a + 2 - a ≡ 2 = omega arith in z))

pub zeros-place : place_of (zeros slot_width) ≡ 0
zeros-place = zeros-number slot_width 0 (omega arith)

pub zeros-view : view_of (zeros slot_width) ≡ zeros Point.width
zeros-view = zeros-part slot_width view_at follower_at (omega arith) (omega arith)

pub zeros-follower : follower_of (zeros slot_width) ≡ zeros Point.width
zeros-follower = zeros-part slot_width follower_at slot_width (omega arith) (omega arith)

-- ---- what stands in a slot

module _ (p : ℕ) (e : Present) where
  abbrev bytes : List ℕ
  bytes = slot_bytes p e

  place-stands : Stands bytes 0 (bytes_of 2 p)
  place-stands = stands-first (bytes_of 2 p) (e.view ++ e.follower) (stands-all bytes)

  pub slot-place : p < 65_536 → place_of bytes ≡ p
  slot-place small = stands-number 2 p small place-stands

  module _ (view : length e.view ≡ Point.width) where
    records-stand : Stands bytes view_at (e.view ++ e.follower)
    records-stand = stands-second (bytes_of 2 p) (e.view ++ e.follower) 2 view_at refl refl (stands-all bytes)

    pub slot-view : view_of bytes ≡ e.view
    slot-view = stands-part (stands-first e.view e.follower records-stand) Point.width view

    module _ (follower : length e.follower ≡ Point.width) where
      pub slot-follower : follower_of bytes ≡ e.follower
      slot-follower =
          stands-part (stands-second e.view e.follower Point.width follower_at view refl records-stand) Point.width
          follower

      pub slot-present : present_in bytes ≡ e
      slot-present = λ i. record { view = slot-view i; follower = slot-follower i }

      pub slot-wide : length bytes ≡ slot_width
      slot-wide =
          length-append (bytes_of 2 p) (e.view ++ e.follower)
          ∙ omega (arith, length-append e.view e.follower, bytes-long 2 p)

-- a slot with its place lowered has the same records
module _ (slot : List ℕ) where
  pub lowered-place : place_of slot ≤ 65_536 → place_of (lowered slot) ≡ place_of slot - 1
  lowered-place small =
      stands-number 2 (place_of slot - 1) (omega arith)
      (stands-first (bytes_of 2 (place_of slot - 1)) (drop view_at slot) (stands-all (lowered slot)))

  lowered-drop : drop view_at (lowered slot) ≡ drop view_at slot
  lowered-drop = drop_at (bytes_of 2 (place_of slot - 1)) (drop view_at slot) 2 refl

  pub lowered-view : view_of (lowered slot) ≡ view_of slot
  lowered-view = ap (take Point.width) lowered-drop

  pub lowered-follower : follower_of (lowered slot) ≡ follower_of slot
  lowered-follower =
      ap (take Point.width)
      (sym (drop-drop Point.width view_at (lowered slot))
      ∙ (ap (drop Point.width) lowered-drop ∙ drop-drop Point.width view_at slot))

  pub lowered-present : present_in (lowered slot) ≡ present_in slot
  lowered-present = λ i. record { view = lowered-view i; follower = lowered-follower i }

  pub lowered-wide : length slot ≡ slot_width → length (lowered slot) ≡ slot_width
  lowered-wide wide =
      length-append (bytes_of 2 (place_of slot - 1)) (drop view_at slot)
      ∙ omega (arith, length-drop view_at slot, bytes-long 2 (place_of slot - 1))
