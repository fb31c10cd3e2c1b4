-- Laws of slots written, and of the count behind them.
-- Assumes nothing.
use Prim.Native.Nat.{ℕ, suc, ◌+◌, ◌-◌, ◌*◌, ◌≤◌, ◌<◌}
use mathlib.Core.Path.{◌≡◌, refl, sym, ap, ap₂, ◌∙◌}
use mathlib.Core.Bool.{true, cond}
use mathlib.Core.List.{List, [], ◌++◌, append_assoc, append-nil}
use native.Mathlib.Omega.{arith}
use lib.Dec.{eqb}
use lib.ListN.{length, take, drop, replicate, take-append-drop, length-append, length-drop, length-replicate, drop_of_length-le}
use lib.Seq.{drop-drop, drop-append-le}
use Rattle.label.specs.Put.{Put}
use Rattle.pack.specs.Numbers.{bytes_of}
use Rattle.book.specs.Layout.{slots, slot_width, count_at, slot_at, count_of, place_of, laid}
use Rattle.book.specs.Event.{free_in, slot_bytes, slot_inserted}
use Rattle.book.specs.Book.{holder, is_book}
use Rattle.book.specs.Meaning.{Present}
use Rattle.book.proofs.Laid.{slot-here, slot-long, laid-is, put-slot-long, put-slot, put-count-long, put_count, put-count-slot}
use Rattle.book.proofs.Good.{book-facts, holder-found}
use Rattle.book_change.specs.Slotted.{SlotIn, SlotSet, Upto}

module _ (book exit : List ℕ) (s : ℕ) (at : SlotIn book s) where
  abbrev start : ℕ
  start = s * slot_width

  abbrev Is : List ℕ → Type 0
  Is text = exit ≡ take start book ++ (text ++ drop (start + length text) book)

  -- a whole slot is put
  whole_set : (text : List ℕ) → length text ≡ slot_width → Is text → SlotSet text s book exit
  whole_set text wide is =
      record {
        long = put-slot-long book text exit at.long s at.low wide is;
        slot = put-slot book text exit at.long s at.low wide is;
      }

  pub put-set : {text : List ℕ} {r : ℕ} → length text ≡ slot_width → Put text book start r exit → SlotSet text s book exit
  put-set {text} wide v = whole_set text wide v.is

  -- its front is put: its back is what it was
  module _ (text : List ℕ) (short : length text ≤ slot_width) where
    abbrev back : List ℕ
    back = drop (length text) (slot_at book s)

    wide : length (text ++ back) ≡ slot_width
    wide =
        length-append text back
        ∙ omega (arith, length-drop (length text) (slot_at book s), slot-long book at.long s at.low)

    slot_is : slot_at book s ≡ take slot_width (drop start book)
    slot_is =
        slot-here book at.long s at.low
        ∙ ap (λ (n : ℕ). take n (drop start book)) (let z : start + slot_width - start ≡ slot_width = omega arith in z)

    split : drop (start + length text) book ≡ back ++ drop (start + length (text ++ back)) book
    split =
        let fits : length text ≤ length (take slot_width (drop start book)) =
        omega (arith, ap length slot_is, slot-long book at.long s at.low) in
        let end : start + slot_width ≡ start + length (text ++ back) = omega (arith, wide) in
        sym (drop-drop (length text) start book)
        ∙ (ap (drop (length text)) (sym (take-append-drop slot_width (drop start book)))
        ∙ (drop-append-le (length text) (take slot_width (drop start book)) (drop slot_width (drop start book)) fits
        ∙ ap₂ ◌++◌ (ap (drop (length text)) (sym slot_is))
        (drop-drop slot_width start book ∙ ap (λ (n : ℕ). drop n book) end)))

    pub put_front : {r : ℕ} → Put text book start r exit → SlotSet (text ++ back) s book exit
    put_front v =
        whole_set (text ++ back) wide
        (v.is
        ∙ ap (λ (l : List ℕ). take start book ++ l)
        (ap (λ (l : List ℕ). text ++ l) split
        ∙ sym (append_assoc text back (drop (start + length (text ++ back)) book))))

module _ {f : ℕ → List ℕ} {entry : List ℕ} where
  -- all slots and the count
  pub upto-laid : (c : ℕ) {r : ℕ} {mid exit : List ℕ} → Upto f slots entry mid → Put (bytes_of 2 c) mid count_at r exit
      → exit ≡ laid f c
  upto-laid c {r} {mid} {exit} u v =
      laid-is exit (put-count-long mid (bytes_of 2 c) exit u.long refl v.is) f c
      (λ s h. put-count-slot mid (bytes_of 2 c) exit u.long refl v.is s h ∙ u.done s (omega arith))
      (put_count mid (bytes_of 2 c) exit u.long refl v.is)

-- one slot is all that an insertion changes
module _ (book mid : List ℕ) (e : Present) {count free : ℕ} where
  pub inserted : count ≡ suc (count_of book) → free ≡ free_in (slot_at book) → SlotSet (slot_bytes count e) free book mid
      → Upto (slot_inserted book e) slots book mid
  inserted p q v =
      record {
        long = v.long;
        done =
            λ s h.
            v.slot s h ∙ ap₂ (λ (n k : ℕ). cond (eqb s k) (slot_bytes n e) (slot_at book s)) p q;
        rest = λ s h k. absurd (omega arith);
      }

-- of a book each place up to its count is held
pub held_below : (book : List ℕ) → is_book book ≡ true → (p : ℕ) → 1 ≤ p → p ≤ count_of book → holder (slot_at book) p < slots
held_below book e p low high =
    let h = (book-facts book e).good.held p low high in
    let found : holder (slot_at book) (place_of (slot_at book h.0)) ≤ h.0 = holder-found (slot_at book) h.0 h.1 in
    let found-p : holder (slot_at book) p ≤ h.0 = rw h.2 at found in
    omega (arith, found-p, h.1)

-- bytes that are copied over as many
pub copy-room : (n : ℕ) (l : List ℕ) → length l ≡ n → 0 + length l ≤ length (replicate {A = ℕ} n 0)
copy-room n l size = omega (arith, length-replicate {A = ℕ} n 0)

pub copied : (n : ℕ) (l x : List ℕ) {r : ℕ} → length l ≡ n → Put l (replicate n 0) 0 r x → x ≡ l
copied n l x size v =
    let none : drop {A = ℕ} (0 + length l) (replicate n 0) ≡ [] =
    drop_of_length-le (replicate {A = ℕ} n 0) {i = 0 + length l} (omega (arith, length-replicate {A = ℕ} n 0)) in
    v.is ∙ (ap (λ (z : List ℕ). l ++ z) none ∙ append-nil l)
