-- The rows of seven keys, each looked for in the file of its kind, and their places among all rows of the set.
-- Assumes nothing.
use Prim.Native.Nat.{ℕ, zero, suc, ◌+◌, ◌-◌, ◌≤◌, ◌<◌}
use mathlib.Core.Path.{◌≡◌, refl, sym, ap, ◌∙◌}
use mathlib.Core.Bool.{Bool, true, false, cond}
use mathlib.Core.List.{List, [], ◌∷◌}
use native.Mathlib.Omega.{arith}
use native.Mathlib.Nat.{div-le_self}
use lib.ListN.{length, get_or}
use Rattle.source.specs.Address.{present, Asked, key_kinds, asked_by, ref}
use Rattle.source.specs.Delivery.{Small, rows_for}
use Rattle.shelf.specs.declared.Shelf.{Shelf}
use Rattle.shelf.specs.Shelf.{row_of}
use Rattle.shelf.specs.Search.{found}
use Rattle.shelf.proofs.Last.{found-is-row, found_before}
use Rattle.mainfile.specs.Set.{Set}
use Rattle.mainfile.specs.Rows.{shelf_of, file_of, kind_stock, set_stock}
use Rattle.mainfile.specs.Accepted.{AcceptedRows}
use Rattle.mainfile_source.specs.Rows.{rows_by, kind_found, rows_ahead, behind_by}
use Rattle.mainfile_source.proofs.Shelves.{kind-never}
use Rattle.mainfile_source.proofs.Joined.{set-row-1, set-row-2, set-row-3, set-row-4, set-row-5, behind-none}

-- a way that does not look at the kind
for-by : (row : ℕ → ℕ) (asks : List Asked) → rows_for row asks ≡ rows_by (λ kind. row) asks
for-by row [] = refl
for-by row (a ∷ more) = rw (for-by row more)

-- what key i of a kind finds
abbrev pub row_or : (ℕ → ℕ → ℕ) → (kind key : ℕ) → ℕ
row_or row kind key = cond (present key) (row kind (ref kind key)) 0

-- seven keys
pub rows-seven : (row : ℕ → ℕ → ℕ) (keys : List ℕ) → length keys ≡ 7
    → rows_by row (asked_by key_kinds keys)
    ≡ row_or row 1 (get_or keys 0 0)
    ∷ row_or row 2 (get_or keys 1 0)
    ∷ row_or row 3 (get_or keys 2 0)
    ∷ row_or row 2 (get_or keys 3 0)
    ∷ row_or row 3 (get_or keys 4 0)
    ∷ row_or row 4 (get_or keys 5 0)
    ∷ row_or row 5 (get_or keys 6 0)
    ∷ []
rows-seven row [] e = absurd (omega arith)
rows-seven row (a ∷ []) e = absurd (omega arith)
rows-seven row (a ∷ b ∷ []) e = absurd (omega arith)
rows-seven row (a ∷ b ∷ c ∷ []) e = absurd (omega arith)
rows-seven row (a ∷ b ∷ c ∷ d ∷ []) e = absurd (omega arith)
rows-seven row (a ∷ b ∷ c ∷ d ∷ f ∷ []) e = absurd (omega arith)
rows-seven row (a ∷ b ∷ c ∷ d ∷ f ∷ g ∷ []) e = absurd (omega arith)
rows-seven row (a ∷ b ∷ c ∷ d ∷ f ∷ g ∷ h ∷ more) e = refl

-- keys of eight digits
seven-small : (keys : List ℕ) → length keys ≡ 7 → Small keys → (i : ℕ) → get_or keys i 0 < 100_000_000
seven-small [] e small i = omega arith
seven-small (k ∷ ks) e small zero = small.0
seven-small (k ∷ ks) e small (suc i) = later ks small.1 i
  where
    later : (ks : List ℕ) → Small ks → (i : ℕ) → get_or ks i 0 < 100_000_000
    later [] small i = omega arith
    later (k ∷ ks) small zero = small.0
    later (k ∷ ks) small (suc i) = later ks small.1 i

-- a row stands within its file
found-short : (s : Shelf) (file : List ℕ) (r : ℕ) → found s file r ≤ length file
found-short s file r = omega (arith, found_before s file r, div-le_self (length file) s.width)

pub rows_short : (s : Set) (most : ℕ) → ((kind : ℕ) → length (file_of s kind) ≤ most) → (asks : List Asked) (i : ℕ)
    → get_or (rows_by (kind_found s) asks) i 0 ≤ most
rows_short s most short [] i = omega arith
rows_short s most short (a ∷ more) zero = by-test (present a.key)
  where
    by-test : (t : Bool) → cond t (kind_found s a.kind (ref a.kind a.key)) 0 ≤ most
    by-test true =
        omega (arith, found-short (shelf_of a.kind) (file_of s a.kind) (ref a.kind a.key), short a.kind)
    by-test false = omega arith
rows_short s most short (a ∷ more) (suc i) = rows_short s most short more i

-- where accepted, what the search finds is the row in force, and it stands behind the rows of the files before
module _ (s : Set) (ok : AcceptedRows s) where
  pub kind-found : (kind r : ℕ) → kind_found s kind r ≡ (kind_stock s kind).row r
  kind-found kind r = found-is-row (shelf_of kind) (file_of s kind) r (kind-never s ok kind)

  placed : (kind key : ℕ) → (set_stock s).row (ref kind key) ≡ behind_by (rows_ahead s kind) ((kind_stock s kind).row (ref kind key))
      → behind_by (rows_ahead s kind) (row_or (kind_found s) kind key) ≡ row_or (λ kind. (set_stock s).row) kind key
  placed kind key is = by-test (present key)
    where
      by-test : (t : Bool)
          → behind_by (rows_ahead s kind) (cond t (kind_found s kind (ref kind key)) 0)
          ≡ cond t ((set_stock s).row (ref kind key)) 0
      by-test true = ap (behind_by (rows_ahead s kind)) (kind-found kind (ref kind key)) ∙ sym is
      by-test false = refl

  module _ (keys : List ℕ) (seven : length keys ≡ 7) (small : Small keys) where
    abbrev key : ℕ → ℕ
    key i = get_or keys i 0

    fits : (i : ℕ) → key i < 100_000_000
    fits i = seven-small keys seven small i

    pub set-rows : (rows : List ℕ) → rows ≡ rows_by (kind_found s) (asked_by key_kinds keys)
        → get_or rows 0 0
        ∷ behind_by (rows_ahead s 2) (get_or rows 1 0)
        ∷ behind_by (rows_ahead s 3) (get_or rows 2 0)
        ∷ behind_by (rows_ahead s 2) (get_or rows 3 0)
        ∷ behind_by (rows_ahead s 3) (get_or rows 4 0)
        ∷ behind_by (rows_ahead s 4) (get_or rows 5 0)
        ∷ behind_by (rows_ahead s 5) (get_or rows 6 0)
        ∷ []
        ≡ rows_for (set_stock s).row (asked_by key_kinds keys)
    set-rows rows e =
        let first : row_or (kind_found s) 1 (key 0) ≡ row_or (λ kind. (set_stock s).row) 1 (key 0) =
        behind-none (row_or (kind_found s) 1 (key 0)) ∙ placed 1 (key 0) (set-row-1 s (key 0) (fits 0)) in
        rw (
          for-by (set_stock s).row (asked_by key_kinds keys),
          rows-seven (λ kind. (set_stock s).row) keys seven,
          e,
          rows-seven (kind_found s) keys seven,
          first,
          placed 2 (key 1) (set-row-2 s (key 1) (fits 1)),
          placed 3 (key 2) (set-row-3 s (key 2) (fits 2)),
          placed 2 (key 3) (set-row-2 s (key 3) (fits 3)),
          placed 3 (key 4) (set-row-3 s (key 4) (fits 4)),
          placed 4 (key 5) (set-row-4 s (key 5) (fits 5)),
          placed 5 (key 6) (set-row-5 s (key 6) (fits 6)),
        ) refl
