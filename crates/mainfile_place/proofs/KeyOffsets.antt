-- The offset of a row, by where the rows of its file stand, is that by the starts of all rows.
-- Assumes nothing.
use Prim.Native.Nat.{ℕ, zero, suc, ◌+◌, ◌-◌, ◌≤◌, ◌<◌}
use mathlib.Core.Path.{◌≡◌, refl, sym, ap, ◌∙◌}
use mathlib.Core.Bool.{Bool, true, false, cond, not, ◌||◌, true≢false}
use mathlib.Core.List.{List, [], ◌∷◌}
use native.Mathlib.Omega.{arith}
use borrow.Author.Tests.{eq-eqb, eqb-false, ltb-true, ltb-false}
use lib.Dec.{eqb, ltb}
use lib.ListN.{length, get_or, get_or-eq_default}
use Rattle.field.specs.Test.{elem}
use Rattle.source.specs.Address.{present}
use Rattle.shelf.specs.Stock.{Stock}
use Rattle.pack.specs.Names.{absent}
use Rattle.build.specs.Rows.{is_marked, bytes_to}
use Rattle.build.specs.Placed.{starts_from, starts_of}
use Rattle.build.specs.Bytes.{key_offset, offsets_for}
use Rattle.build.proofs.Starts.{starts-at}
use Rattle.mainfile.specs.Set.{Set}
use Rattle.mainfile.specs.Rows.{kind_stock, set_stock}
use Rattle.mainfile_source.specs.Rows.{rows_ahead, behind_by}
use Rattle.mainfile_source.proofs.Joined.{behind-none}
use Rattle.mainfile_mark.specs.Marks.{kind_marks, set_marks, set_rows}
use Rattle.mainfile_mark.proofs.Packed.{accepted-ended}
use Rattle.mainfile_place.specs.Blocks.{kind_bytes, offset_from, RowsPlaced}
use Rattle.mainfile_place.proofs.Standing.{Stands, KindStands, stands-1, stands-2, stands-3, stands-4, stands-5}

-- ---- one row

module _ (st : Stock) (marks : List ℕ) where
  -- no row, and so no start
  none_first : get_or (starts_of st marks) 0 0 - 1 ≡ 0
  unfolding starts_of
  none_first = by-long (length marks)
    where
      by-mark : (t : Bool) → cond t (suc (bytes_to st marks (0 - 1))) 0 - 1 ≡ 0
      by-mark true = refl
      by-mark false = refl

      by-long : (k : ℕ) → get_or (starts_from st marks k 0) 0 0 - 1 ≡ 0
      by-long zero = refl
      by-long (suc k) = by-mark (is_marked marks 0)

  -- a marked row has a mark
  marked-within : (i : ℕ) → is_marked marks i ≡ true → i < length marks
  marked-within i e = by-test (ltb i (length marks)) refl
    where
      by-test : (t : Bool) → ltb i (length marks) ≡ t → i < length marks
      by-test true h = ltb-true i (length marks) h
      by-test false h =
          let out = ltb-false i (length marks) h in
          absurd (true≢false (sym e ∙ ap (λ m. not (eqb m 0)) (get_or-eq_default marks 0 {n = i} (omega (arith, out)))))

  marked_start : (i : ℕ) → is_marked marks i ≡ true → get_or (starts_of st marks) i 0 ≡ suc (bytes_to st marks (i - 1))
  marked_start i e =
      starts-at st marks i (marked-within i e) ∙ ap (λ t. cond t (suc (bytes_to st marks (i - 1))) 0) e

  module _ {rows bytes : ℕ} {part : Stock} {own : List ℕ} (stands : Stands st marks rows bytes part own) where
    offset-is : (key row : ℕ) → row < part.last
        → (1 ≤ behind_by rows row → is_marked marks (behind_by rows row) ≡ true)
        → offset_from part own bytes key row ≡ key_offset (starts_of st marks) key (behind_by rows row)
    offset-is key row h m = by_key (present key)
      where
        by_row : (t : Bool) → eqb row 0 ≡ t → (1 ≤ cond t 0 (rows + row) → is_marked marks (cond t 0 (rows + row)) ≡ true)
            → cond t 0 (bytes + bytes_to part own (row - 1)) ≡ get_or (starts_of st marks) (cond t 0 (rows + row)) 0 - 1
        by_row true e n = sym none_first
        by_row false e n =
            let some = eqb-false row 0 e in
            let low : 1 ≤ rows + row = omega (arith, some) in
            let back : rows + row - 1 ≡ rows + (row - 1) = omega (arith, some) in
            omega (
              arith,
              marked_start (rows + row) (n low),
              ap (bytes_to st marks) back,
              stands.each (row - 1) (omega arith),
            )

        by_key : (t : Bool)
            → cond t (cond (eqb row 0) 0 (bytes + bytes_to part own (row - 1))) absent
            ≡ cond t (get_or (starts_of st marks) (behind_by rows row) 0 - 1) absent
        by_key true = by_row (eqb row 0) refl m
        by_key false = refl

-- ---- seven rows

-- one of a list
elem_at : (xs : List ℕ) (i : ℕ) → i < length xs → elem (get_or xs i 0) xs ≡ true
elem_at [] i h = absurd (omega arith)
elem_at (x ∷ xs) zero h = rw (eq-eqb x x refl)
elem_at (x ∷ xs) (suc i) h = rw (elem_at xs i (omega arith)) (or-true (eqb (get_or xs i 0) x))
  where
    or-true : (b : Bool) → b || true ≡ true
    or-true true = refl
    or-true false = refl

-- the offsets of seven keys and seven rows
offsets-seven : (starts keys : List ℕ) (a b c d f g h : ℕ) → length keys ≡ 7
    → offsets_for starts keys (a ∷ b ∷ c ∷ d ∷ f ∷ g ∷ h ∷ [])
    ≡ key_offset starts (get_or keys 0 0) a
    ∷ key_offset starts (get_or keys 1 0) b
    ∷ key_offset starts (get_or keys 2 0) c
    ∷ key_offset starts (get_or keys 3 0) d
    ∷ key_offset starts (get_or keys 4 0) f
    ∷ key_offset starts (get_or keys 5 0) g
    ∷ key_offset starts (get_or keys 6 0) h
    ∷ []
offsets-seven starts [] a b c d f g h e = absurd (omega arith)
offsets-seven starts (k ∷ []) a b c d f g h e = absurd (omega arith)
offsets-seven starts (k ∷ l ∷ []) a b c d f g h e = absurd (omega arith)
offsets-seven starts (k ∷ l ∷ m ∷ []) a b c d f g h e = absurd (omega arith)
offsets-seven starts (k ∷ l ∷ m ∷ n ∷ []) a b c d f g h e = absurd (omega arith)
offsets-seven starts (k ∷ l ∷ m ∷ n ∷ o ∷ []) a b c d f g h e = absurd (omega arith)
offsets-seven starts (k ∷ l ∷ m ∷ n ∷ o ∷ p ∷ []) a b c d f g h e = absurd (omega arith)
offsets-seven starts (k ∷ l ∷ m ∷ n ∷ o ∷ p ∷ q ∷ []) a b c d f g h e = refl
offsets-seven starts (k ∷ l ∷ m ∷ n ∷ o ∷ p ∷ q ∷ r ∷ more) a b c d f g h e = absurd (omega arith)

-- seven numbers, one by one
seven-as : {a b c d f g h a' b' c' d' f' g' h' : ℕ} → a ≡ a' → b ≡ b' → c ≡ c' → d ≡ d' → f ≡ f' → g ≡ g' → h ≡ h'
    → a ∷ b ∷ c ∷ d ∷ f ∷ g ∷ h ∷ [] ≡ a' ∷ b' ∷ c' ∷ d' ∷ f' ∷ g' ∷ h' ∷ []
seven-as p q r s t u v = rw (p, q, r, s, t, u, v)

module _ (s : Set) (b₁ b₂ b₃ b₄ b₅ c₁ c₂ c₃ c₄ c₅ rows : List ℕ)
    (p : RowsPlaced s b₁ b₂ b₃ b₄ b₅ c₁ c₂ c₃ c₄ c₅ rows) where
  abbrev marks : List ℕ
  marks = set_marks s b₁ b₂ b₃ b₄ b₅

  abbrev starts : List ℕ
  starts = starts_of (set_stock s) marks

  abbrev row : ℕ → ℕ
  row i = get_or rows i 0

  -- the offset of a key's row, by the marked rows of the files before its own
  abbrev pub own_offset : (kind : ℕ) → (bits : List ℕ) → (bytes key row : ℕ) → ℕ
  own_offset kind bits bytes key row = offset_from (kind_stock s kind) (kind_marks s kind bits) bytes key row

  marked-at : (i : ℕ) → i < 7 → 1 ≤ get_or (set_rows s rows) i 0 → is_marked marks (get_or (set_rows s rows) i 0) ≡ true
  marked-at i h low = p.marked (get_or (set_rows s rows) i 0) low (elem_at (set_rows s rows) i (omega arith))

  own_is : (kind : ℕ) (bits : List ℕ) (bytes : ℕ)
      → KindStands s b₁ b₂ b₃ b₄ b₅ (accepted-ended s p.accepted) kind bits bytes
      → (key row : ℕ) → row < (kind_stock s kind).last
      → (1 ≤ behind_by (rows_ahead s kind) row → is_marked marks (behind_by (rows_ahead s kind) row) ≡ true)
      → own_offset kind bits bytes key row ≡ key_offset starts key (behind_by (rows_ahead s kind) row)
  own_is kind bits bytes stands key row h m = offset-is (set_stock s) marks stands key row h m

  pub offsets-placed : (keys : List ℕ) → length keys ≡ 7 → (r₀ r₁ r₂ r₃ r₄ r₅ r₆ : ℕ)
      → r₀ ≡ own_offset 1 b₁ 0 (get_or keys 0 0) (row 0)
      → r₁ ≡ own_offset 2 b₂ (kind_bytes s 1 b₁) (get_or keys 1 0) (row 1)
      → r₂ ≡ own_offset 3 b₃ (kind_bytes s 1 b₁ + kind_bytes s 2 b₂) (get_or keys 2 0) (row 2)
      → r₃ ≡ own_offset 2 b₂ (kind_bytes s 1 b₁) (get_or keys 3 0) (row 3)
      → r₄ ≡ own_offset 3 b₃ (kind_bytes s 1 b₁ + kind_bytes s 2 b₂) (get_or keys 4 0) (row 4)
      → r₅ ≡ own_offset 4 b₄ (kind_bytes s 1 b₁ + kind_bytes s 2 b₂ + kind_bytes s 3 b₃) (get_or keys 5 0) (row 5)
      → r₆ ≡ own_offset 5 b₅ (kind_bytes s 1 b₁ + kind_bytes s 2 b₂ + kind_bytes s 3 b₃ + kind_bytes s 4 b₄) (get_or keys 6 0) (row 6)
      → r₀ ∷ r₁ ∷ r₂ ∷ r₃ ∷ r₄ ∷ r₅ ∷ r₆ ∷ [] ≡ offsets_for starts keys (set_rows s rows)
  offsets-placed keys seven r₀ r₁ r₂ r₃ r₄ r₅ r₆ e₀ e₁ e₂ e₃ e₄ e₅ e₆ =
      let e = accepted-ended s p.accepted in
      let there = p.there in
      let none = behind-none (row 0) in
      seven-as
      (e₀
      ∙ (own_is 1 b₁ 0 (stands-1 s b₁ b₂ b₃ b₄ b₅ e) (get_or keys 0 0) (row 0) there.locality
      (λ low. rw (sym none) (marked-at 0 (omega arith) (rw none low)))
      ∙ ap (key_offset starts (get_or keys 0 0)) (sym none)))
      (e₁ ∙ own_is 2 b₂ _ (stands-2 s b₁ b₂ b₃ b₄ b₅ e) (get_or keys 1 0) (row 1) there.thoroughfare (marked-at 1 (omega arith)))
      (e₂ ∙ own_is 3 b₃ _ (stands-3 s b₁ b₂ b₃ b₄ b₅ e) (get_or keys 2 0) (row 2) there.descriptor (marked-at 2 (omega arith)))
      (e₃ ∙ own_is 2 b₂ _ (stands-2 s b₁ b₂ b₃ b₄ b₅ e) (get_or keys 3 0) (row 3) there.dependent (marked-at 3 (omega arith)))
      (e₄ ∙ own_is 3 b₃ _ (stands-3 s b₁ b₂ b₃ b₄ b₅ e) (get_or keys 4 0) (row 4) there.second (marked-at 4 (omega arith)))
      (e₅ ∙ own_is 4 b₄ _ (stands-4 s b₁ b₂ b₃ b₄ b₅ e) (get_or keys 5 0) (row 5) there.building (marked-at 5 (omega arith)))
      (e₆ ∙ own_is 5 b₅ _ (stands-5 s b₁ b₂ b₃ b₄ b₅ e) (get_or keys 6 0) (row 6) there.sub_building (marked-at 6 (omega arith)))
      ∙ sym
      (offsets-seven starts keys (row 0) (behind_by (rows_ahead s 2) (row 1)) (behind_by (rows_ahead s 3) (row 2))
      (behind_by (rows_ahead s 2) (row 3)) (behind_by (rows_ahead s 3) (row 4)) (behind_by (rows_ahead s 4) (row 5))
      (behind_by (rows_ahead s 5) (row 6)) seven)
