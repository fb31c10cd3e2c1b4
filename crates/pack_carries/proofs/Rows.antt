-- The rows of a pack, read where they stand: each is accepted, and gives the texts that were packed.
-- Assumes nothing.
use Prim.Native.Nat.{ℕ, zero, suc, ◌+◌, ◌≤◌, ◌<◌}
use mathlib.Core.Path.{◌≡◌, refl, sym, ap, ap₂, ◌∙◌}
use mathlib.Core.Bool.{Bool, true, false, not, ◌&&◌, ◌||◌}
use mathlib.Core.List.{List, [], ◌∷◌, ◌++◌}
use native.Mathlib.Omega.{arith}
use borrow.Author.Tests.{eq-eqb, eqb-true, le-leb}
use lib.Dec.{eqb, leb}
use lib.ListN.{length, get_or, length-append}
use Rattle.field.specs.Text.{part}
use Rattle.field.proofs.Tests.{and_left, and_right}
use Rattle.label.specs.Lines.{is_empty}
use Rattle.pack.specs.Layout.{Entry, texts_bytes, entry_bytes, entries_bytes}
use Rattle.source.specs.Address.{kind_of}
use Rattle.pack.specs.Opening.{Slot, slots_of, text_good, text_end, text_at, texts_end, texts_good, text_place, row_kind, row_end, row_text, double_good, row_good, rows_good}
use Rattle.pack.specs.Sound.{slots_good, RowSound}
use Rattle.pack_carries.proofs.Stands.{Stands, stands-first, stands-second, stands-fits, stands-part, stands-byte, stands-next}

pub record EntrySound (e : Entry) : Type 0 where
  pub known : kind_of e.stands_for ≤ 6
  pub row : RowSound (kind_of e.stands_for) e.texts

-- "types 1 to 6 never falling"
abbrev pub EntriesSound : ℕ → List Entry → Type 0
EntriesSound low [] = Unit {0}
EntriesSound low (e ∷ es) =
    (low ≤ kind_of e.stands_for) × (EntrySound e × EntriesSound (kind_of e.stands_for) es)

pub and_both : {s t : Bool} → s ≡ true → t ≡ true → s && t ≡ true
and_both p q = ap₂ ◌&&◌ p q

pub slots-long : (ss : List Slot) (ts : List (List ℕ)) → slots_good ss ts ≡ true → length ts ≡ length ss
slots-long [] [] e = refl
slots-long [] (t ∷ ts) e = let z : ◌≡◌ {A = ℕ} 0 1 = cc in absurd (omega arith)
slots-long (s ∷ ss) [] e = let z : ◌≡◌ {A = ℕ} 0 1 = cc in absurd (omega arith)
slots-long (s ∷ ss) (t ∷ ts) e = ap suc (slots-long ss ts (and_right (text_good s t) (slots_good ss ts) e))

module _ (rows : List ℕ) where
  -- ---- texts
  module _ (at : ℕ) (t more : List ℕ) (h : Stands rows at (length t ∷ (t ++ more))) where
    text-end : text_end rows at ≡ at + 1 + length t
    text-end = ap (λ n. at + 1 + n) (stands-byte (length t) (t ++ more) h)

    pub text-at : text_at rows at ≡ t
    text-at =
        ap (part rows (at + 1)) text-end
        ∙ stands-part (stands-first t more (stands-next (length t) (t ++ more) h)) (length t) refl

    pub text-behind : Stands rows (text_end rows at) more
    text-behind =
        stands-second t more (length t) (text_end rows at) refl (sym text-end) (stands-next (length t) (t ++ more) h)

  texts-end : (ss : List Slot) (ts : List (List ℕ)) (at : ℕ) → length ts ≡ length ss → Stands rows at (texts_bytes ts)
      → texts_end rows ss at ≡ at + length (texts_bytes ts)
  texts-end [] [] at e h = omega arith
  texts-end [] (t ∷ ts) at e h = absurd (omega arith)
  texts-end (s ∷ ss) [] at e h = absurd (omega arith)
  texts-end (s ∷ ss) (t ∷ ts) at e h =
      texts-end ss ts (text_end rows at) (omega arith) (text-behind at t (texts_bytes ts) h)
      ∙ omega (arith, text-end at t (texts_bytes ts) h, length-append t (texts_bytes ts))

  texts-good : (ss : List Slot) (ts : List (List ℕ)) (at : ℕ) → slots_good ss ts ≡ true → Stands rows at (texts_bytes ts)
      → texts_good rows ss at ≡ true
  texts-good [] [] at e h = refl
  texts-good [] (t ∷ ts) at e h = let z : ◌≡◌ {A = ℕ} 0 1 = cc in absurd (omega arith)
  texts-good (s ∷ ss) [] at e h = let z : ◌≡◌ {A = ℕ} 0 1 = cc in absurd (omega arith)
  texts-good (s ∷ ss) (t ∷ ts) at e h =
      and_both (ap (text_good s) (text-at at t (texts_bytes ts) h) ∙ and_left (text_good s t) (slots_good ss ts) e)
      (texts-good ss ts (text_end rows at) (and_right (text_good s t) (slots_good ss ts) e) (text-behind at t (texts_bytes ts) h))

  text-nth : (n : ℕ) (ts : List (List ℕ)) (at : ℕ) → n < length ts → Stands rows at (texts_bytes ts)
      → text_at rows (text_place rows n at) ≡ get_or ts n []
  text-nth n [] at l h = absurd (omega arith)
  text-nth zero (t ∷ ts) at l h = text-at at t (texts_bytes ts) h
  text-nth (suc n) (t ∷ ts) at l h = text-nth n ts (text_end rows at) (omega arith) (text-behind at t (texts_bytes ts) h)

  -- ---- a row
  module _ (e : Entry) (at : ℕ) (g : EntrySound e) (h : Stands rows at (entry_bytes e)) where
    pub row-kind : row_kind rows at ≡ kind_of e.stands_for
    row-kind = stands-byte (kind_of e.stands_for) (texts_bytes e.texts) h

    pub texts-stand : Stands rows (at + 1) (texts_bytes e.texts)
    texts-stand = stands-next (kind_of e.stands_for) (texts_bytes e.texts) h

    pub row-long : length e.texts ≡ length (slots_of (kind_of e.stands_for))
    row-long = slots-long (slots_of (kind_of e.stands_for)) e.texts g.row.fit

    pub row-end : row_end rows at ≡ at + length (entry_bytes e)
    row-end =
        ap (λ k. texts_end rows (slots_of k) (at + 1)) row-kind
        ∙ (texts-end (slots_of (kind_of e.stands_for)) e.texts (at + 1) row-long texts-stand ∙ omega arith)

    pub row-text : (n : ℕ) → n < length e.texts → row_text rows at n ≡ get_or e.texts n []
    row-text n l = text-nth n e.texts (at + 1) l texts-stand

    row-double : double_good rows at ≡ true
    row-double =
        ap (λ k. not (eqb k 1) || (not (is_empty (row_text rows at 1)) || is_empty (row_text rows at 2))) row-kind
        ∙ by-test (eqb (kind_of e.stands_for) 1) refl
      where
        by-test : (t : Bool) → eqb (kind_of e.stands_for) 1 ≡ t
            → not t || (not (is_empty (row_text rows at 1)) || is_empty (row_text rows at 2)) ≡ true
        by-test true q =
            let one : kind_of e.stands_for ≡ 1 = eqb-true (kind_of e.stands_for) 1 q in
            let three : length e.texts ≡ 3 = row-long ∙ ap (λ k. length (slots_of k)) one in
            rw (row-text 1 (omega arith), row-text 2 (omega arith)) (g.row.double one)
        by-test false q = refl

    row-good : (low : ℕ) → low ≤ kind_of e.stands_for → row_good rows low at ≡ true
    unfolding row_good
    row-good low l =
        and_both (ap (leb low) row-kind ∙ le-leb low (kind_of e.stands_for) l)
        (and_both (ap (λ k. leb k 6) row-kind ∙ le-leb (kind_of e.stands_for) 6 g.known)
        (and_both (le-leb (row_end rows at) (length rows) (omega (arith, row-end, stands-fits h)))
        (and_both
        (ap (λ k. texts_good rows (slots_of k) (at + 1)) row-kind
        ∙ texts-good (slots_of (kind_of e.stands_for)) e.texts (at + 1) g.row.fit texts-stand)
        row-double)))

  -- ---- all rows
  module _ (e : Entry) (es : List Entry) (at : ℕ) (g : EntrySound e) (h : Stands rows at (entries_bytes (e ∷ es))) where
    pub first-stands : Stands rows at (entry_bytes e)
    first-stands = stands-first (entry_bytes e) (entries_bytes es) h

    pub others-stand : Stands rows (row_end rows at) (entries_bytes es)
    others-stand =
        stands-second (entry_bytes e) (entries_bytes es) (length (entry_bytes e)) (row_end rows at) refl
        (sym (row-end e at g first-stands)) h

  pub rows-good : (es : List Entry) (low at : ℕ) → EntriesSound low es → Stands rows at (entries_bytes es)
      → at + length (entries_bytes es) ≡ length rows
      → rows_good rows (length es) low at ≡ true
  rows-good [] low at g h l = eq-eqb at (length rows) (omega arith)
  rows-good (e ∷ es) low at g h l =
      let s = first-stands e es at g.1.0 h in
      and_both (row-good e at g.1.0 s low g.0)
      (ap (λ k. rows_good rows (length es) k (row_end rows at)) (row-kind e at g.1.0 s)
      ∙ rows-good es (kind_of e.stands_for) (row_end rows at) g.1.1 (others-stand e es at g.1.0 h)
      (omega (arith, row-end e at g.1.0 s, length-append (entry_bytes e) (entries_bytes es))))
