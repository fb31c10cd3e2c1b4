-- A text that is put at a place of the buffer stands there, and what is before it stays.
-- Assumes nothing.
use Prim.Native.Nat.{ℕ, ◌+◌, ◌-◌, ◌≤◌}
use mathlib.Core.Path.{◌≡◌, refl, sym, ap, ◌∙◌}
use mathlib.Core.List.{List, ◌++◌}
use native.Mathlib.Omega.{arith}
use lib.ListN.{length, take, drop, length-append, length-drop}
use lib.Seq.{take_at, drop_at, length-take-le}
use Rattle.field.specs.Text.{part}
use Rattle.file_record.proofs.Records.{part-part}
use Rattle.label.specs.Put.{Put}
use Rattle.mainfile_texts.specs.Gathered.{Kept, Stood, Same}

-- a part that ends within a front
part-front : (l : List ℕ) (at x y : ℕ) → y ≤ at → part (take at l) x y ≡ part l x y
part-front l at x y h =
    let front : 0 + at - 0 ≡ at = omega arith in
    let from : 0 + x ≡ x = omega arith in
    let to : 0 + y ≡ y = omega arith in
    rw (front, from, to) at (part-part l 0 at x y h)

pub put-kept : {text entry exit : List ℕ} {at r : ℕ} (n : ℕ) → Put text entry at r exit → at + length text ≤ length entry
    → n ≡ length text → Kept text entry at (length text) n exit
put-kept {text} {entry} {exit} {at} {r} n put room size =
    let rest = drop (at + length text) entry in
    let front = length-take-le at entry (omega arith) in
    let far : at + n - at ≡ length text = omega arith in
    record {
      small = omega arith;
      long =
          omega (
            arith,
            ap length put.is,
            length-append (take at entry) (text ++ rest),
            length-append text rest,
            length-drop (at + length text) entry,
            front,
          );
      here =
          rw (put.is, far, drop_at (take at entry) (text ++ rest) at front)
          (take_at text rest (length text) refl);
      before =
          λ x y h.
          sym (part-front exit at x y h)
          ∙ (rw (put.is, take_at (take at entry) (text ++ rest) at front) (part-front entry at x y h));
    }

-- ---- texts behind each other

-- the same text, said otherwise, in a field of so many bytes
pub kept-as : {text other entry exit : List ℕ} {at n r : ℕ} (width : ℕ) → Kept text entry at n r exit → text ≡ other → n ≤ width
    → Kept other entry at width r exit
kept-as width kept e h =
    record {
      small = omega (arith, kept.small);
      long = kept.long;
      here = kept.here ∙ e;
      before = kept.before;
    }

module _ {text entry exit : List ℕ} {at width r : ℕ} where
  pub kept_same : (from : ℕ) → Kept text entry at width r exit → from ≤ at → Same from entry exit
  kept_same from kept h = record { long = kept.long; before = λ x y k. kept.before x y (omega arith) }

  pub kept-stood : (to : ℕ) → Kept text entry at width r exit → at + width ≤ to → Stood exit at r to text
  kept-stood to kept h = record { within = omega (arith, kept.small); is = kept.here }

pub same_then : {entry texts exit : List ℕ} {from : ℕ} → Same from entry texts → Same from texts exit → Same from entry exit
same_then s t = record { long = t.long ∙ s.long; before = λ x y h. t.before x y h ∙ s.before x y h }

pub same-less : {entry exit : List ℕ} {from less : ℕ} → Same from entry exit → less ≤ from → Same less entry exit
same-less s h = record { long = s.long; before = λ x y k. s.before x y (omega arith) }

-- what stands before a place stays there
pub stays : {texts exit text : List ℕ} {at r to place : ℕ} (end : ℕ) → Same place texts exit → to ≤ place → to ≤ end
    → Stood texts at r to text → Stood exit at r end text
stays {at = at} {r = r} end same h k stood =
    record {
      within = omega (arith, stood.within);
      is = same.before at (at + r) (omega (arith, stood.within)) ∙ stood.is;
    }
