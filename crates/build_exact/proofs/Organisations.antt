-- The rows of the organisations of the packed delivery points, and where each stands.
-- Assumes nothing.
use Prim.Native.Nat.{ℕ, suc, ◌+◌, ◌<◌}
use mathlib.Core.Path.{◌≡◌, refl, sym, ap, ap₂, ◌∙◌}
use mathlib.Core.Bool.{Bool, true, false, cond}
use mathlib.Core.List.{List, [], ◌∷◌, ◌++◌, append_assoc, append-nil}
use native.Mathlib.Omega.{arith}
use borrow.Author.Tests.{eq-eqb, ne_eqb}
use lib.ListN.{length, length-append}
use Rattle.source.specs.Address.{Organisation, none_needed, named, lacking, Address, ref, kind_of}
use Rattle.pack.specs.Numbers.{bytes_of}
use Rattle.pack.specs.Names.{absent}
use Rattle.pack.specs.Layout.{Entry, entry, organisation_entry, organisation_entries, texts_bytes, entry_bytes, entries_bytes, organisation_ref, offset_of, ref_bytes}
use Rattle.build.specs.Plan.{Packed, organisation_bytes, organisation_row, organisation_rows, organisation_count}
use Rattle.build.specs.Bytes.{organisation_offset}
use Rattle.build_exact.specs.Started.{PackedSays, AllSay, none_says, one_says, Rising}

-- the rows of two lists, one behind the other
pub entries-join : (es fs : List Entry) → entries_bytes (es ++ fs) ≡ entries_bytes es ++ entries_bytes fs
entries-join [] fs = refl
entries-join (e ∷ es) fs =
    rw (entries-join es fs) (sym (append_assoc (entry_bytes e) (entries_bytes es) (entries_bytes fs)))

-- an organisation from whether it is there, and whether it is lacking
abbrev organisation_by : Bool → Bool → (name department : List ℕ) → Organisation
organisation_by organised lack name department = cond organised (named name department) (cond lack lacking none_needed)

-- ---- one

module _ {own others : List ℕ} {d : Packed} {a : Address} (s : PackedSays own others d a) where
  row_is : d.view < 100_000_000
      → entries_bytes (organisation_entry a.view a.organisation) ≡ organisation_row others d.point
  unfolding organisation_bytes
  row_is small =
      ap (λ (o : Organisation). entries_bytes (organisation_entry a.view o)) (sym s.says.organisation)
      ∙ by_tests d.point.organised d.point.lacking _ _
    where
      by_tests : (t u : Bool) (name department : List ℕ)
          → entries_bytes (organisation_entry a.view (organisation_by t u name department))
          ≡ cond t (6 ∷ texts_bytes (name ∷ department ∷ [])) []
      by_tests true u name department =
          let six : kind_of (ref 6 a.view) ≡ 6 = omega (arith, s.view) in
          ap₂ ◌∷◌ six (append-nil (texts_bytes (name ∷ department ∷ [])))
      by_tests false true name department = refl
      by_tests false false name department = refl

  row_count : (n : ℕ)
      → length (organisation_entry a.view a.organisation) + n ≡ cond d.point.organised (suc n) n
  row_count n =
      ap (λ (o : Organisation). length (organisation_entry a.view o) + n) (sym s.says.organisation)
      ∙ by_tests d.point.organised d.point.lacking _ _
    where
      by_tests : (t u : Bool) (name department : List ℕ)
          → length (organisation_entry a.view (organisation_by t u name department)) + n ≡ cond t (suc n) n
      by_tests true u name department = omega arith
      by_tests false true name department = omega arith
      by_tests false false name department = omega arith

  -- its offset, where the first row for it stands at `at`
  pub organisation-ref : (es rest : List Entry) (at : ℕ)
      → offset_of es (ref 6 a.view)
      ≡ at + offset_of (organisation_entry a.view a.organisation ++ rest) (ref 6 a.view)
      → ref_bytes es (organisation_ref a.view a.organisation) ≡ bytes_of 4 (organisation_offset d.point at)
  organisation-ref es rest at =
      rw (← s.says.organisation) (by_tests d.point.organised d.point.lacking _ _)
    where
      r : ℕ
      r = ref 6 a.view

      by_tests : (t u : Bool) (name department : List ℕ)
          → offset_of es r ≡ at + offset_of (organisation_entry a.view (organisation_by t u name department) ++ rest) r
          → ref_bytes es (organisation_ref a.view (organisation_by t u name department)) ≡ bytes_of 4 (cond t at absent)
      by_tests true u name department h =
          let first : offset_of es r ≡ at + 0 = (rw (eq-eqb r r refl) at h) in
          ap (bytes_of 4) (omega arith)
      by_tests false true name department h = refl
      by_tests false false name department h = refl

-- ---- all

pub organisations-bytes : {own others : List ℕ} {ds : List Packed} {as' : List Address} (low : ℕ)
    → AllSay own others ds as' → Rising low ds → entries_bytes (organisation_entries as') ≡ organisation_rows others ds
organisations-bytes low none_says h = refl
organisations-bytes {ds = d ∷ ds} {as' = a ∷ as'} low (one_says s rest) h =
    entries-join (organisation_entry a.view a.organisation) (organisation_entries as')
    ∙ ap₂ ◌++◌ (row_is s h.1.0) (organisations-bytes d.view rest h.1.1)

pub organisations-count : {own others : List ℕ} {ds : List Packed} {as' : List Address} → AllSay own others ds as'
    → length (organisation_entries as') ≡ organisation_count ds
organisations-count none_says = refl
organisations-count {ds = d ∷ ds} {as' = a ∷ as'} (one_says s rest) =
    length-append (organisation_entry a.view a.organisation) (organisation_entries as')
    ∙ (ap (λ n. length (organisation_entry a.view a.organisation) + n) (organisations-count rest)
    ∙ row_count s (organisation_count ds))

-- the row of another view is passed by
pass-by : (view r : ℕ) → ref 6 view < r → (o : Organisation) (es : List Entry)
    → offset_of (organisation_entry view o ++ es) r
    ≡ length (entries_bytes (organisation_entry view o)) + offset_of es r
pass-by view r h none_needed es = omega arith
pass-by view r h (named name department) es =
    let row = entry_bytes (entry (ref 6 view) (name ∷ department ∷ [])) in
    simp (ne_eqb (ref 6 view) r (λ z. omega arith)) (omega (arith, length-append row []))
pass-by view r h lacking es = omega arith

-- behind a view the rows of organisations stand from `at` on, those of these addresses
abbrev pub Standing : List Entry → ℕ → ℕ → List Address → Type 0
Standing es at low as' = (r : ℕ) → ref 6 low < r → offset_of es r ≡ at + offset_of (organisation_entries as') r

-- those of the others stand behind the first
pub stand-on : {own others : List ℕ} {d : Packed} {a : Address} (es : List Entry) (at low : ℕ) (as' : List Address)
    → PackedSays own others d a
    → low < d.view
    → d.view < 100_000_000
    → Standing es at low (a ∷ as')
    → Standing es (at + length (organisation_row others d.point)) d.view as'
stand-on {a = a} es at low as' s above small stand r h =
    omega (
      arith,
      stand r (omega arith),
      pass-by a.view r (omega (arith, s.view)) a.organisation (organisation_entries as'),
      ap length (row_is s small),
    )
