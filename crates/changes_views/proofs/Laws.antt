-- Laws of the wanted records of a point file: the step to the next one, the k-th, and how many there are.
-- Assumes nothing.
use Prim.Native.Nat.{ℕ, zero, suc, ◌+◌, ◌-◌, ◌/◌, ◌≤◌, ◌<◌}
use mathlib.Core.Path.{◌≡◌, refl, sym, ap, ◌∙◌}
use mathlib.Core.Bool.{Bool, true, false, cond, ◌&&◌, ◌||◌}
use mathlib.Core.List.{List, [], ◌∷◌}
use native.Mathlib.Omega.{arith}
use native.Mathlib.Numerals.{add-one}
use borrow.Author.Tests.{ltb-true, ltb-false}
use lib.Dec.{ltb, eqb}
use lib.ListN.{length, get_or, get_or-eq_default}
use Rattle.field.proofs.Tests.{or-false}
use Rattle.file_record.specs.Parts.{record_at}
use Rattle.changes_views.specs.Views.{is_view, in_code, wanted, last_of, wanted_from, wanted_in, wanted_count, wanted_at, next_from, next_wanted, places_from}

-- whether a record is wanted, by the tests in the code's order
pub wanted-other : (code rec : List ℕ) → is_view rec ≡ false → wanted code rec ≡ false
unfolding wanted
wanted-other code rec e = simp e

pub wanted-any : (code rec : List ℕ) → is_view rec ≡ true → length code ≡ 0 → wanted code rec ≡ true
unfolding wanted
wanted-any [] rec e z = simp e
wanted-any (x ∷ xs) rec e z = absurd (omega arith)

pub wanted-live : (code rec : List ℕ) → is_view rec ≡ true → (length code ≡ 0 → ⊥)
    → wanted code rec ≡ (eqb (get_or rec 40 0) 73 || eqb (get_or rec 40 0) 67) && in_code code rec
unfolding wanted
wanted-live [] rec e n = absurd (n refl)
wanted-live (x ∷ xs) rec e n = simp (e, or-false (eqb (get_or rec 40 0) 67))

module _ (code file : List ℕ) where
  -- k records from i on: by whether the first is wanted, then for those behind it
  from-range : (k i : ℕ) → (i ≤ next_from code file k i) × (next_from code file k i ≤ i + k)
  from-range zero i = (omega arith, omega arith)
  from-range (suc k) i =
      by-test (wanted code (record_at 168 file i)) (next_from code file k (suc i)) (from-range k (suc i))
    where
      by-test : (t : Bool) (n : ℕ) → (suc i ≤ n) × (n ≤ suc i + k) → (i ≤ cond t i n) × (cond t i n ≤ i + suc k)
      by-test true n h = (omega arith, omega arith)
      by-test false n h = (omega arith, omega arith)

  from-none : (k i : ℕ) → i + k ≤ next_from code file k i → wanted_from code file k i ≡ []
  from-none zero i h = refl
  from-none (suc k) i h =
      by-test (wanted code (record_at 168 file i)) (next_from code file k (suc i)) (wanted_from code file k (suc i))
      (from-none k (suc i)) h
    where
      by-test : (t : Bool) (n : ℕ) (ps : List ℕ) → (suc i + k ≤ n → ps ≡ []) → i + suc k ≤ cond t i n
          → cond t (i ∷ ps) ps ≡ []
      by-test true n ps more h = absurd (omega arith)
      by-test false n ps more h = more (omega arith)

  from_some : (k i : ℕ) → next_from code file k i < i + k
      → wanted_from code file k i
      ≡ next_from code file k i
      ∷ wanted_from code file (i + k - suc (next_from code file k i)) (suc (next_from code file k i))
  from_some zero i h = absurd (omega arith)
  from_some (suc k) i h =
      by-test (wanted code (record_at 168 file i)) (next_from code file k (suc i)) (from_some k (suc i)) h
    where
      same_end : suc i + k ≡ i + suc k
      same_end = omega arith

      rest : i + suc k - suc i ≡ k
      rest = omega arith

      by-test : (t : Bool) (n : ℕ)
          → (n < suc i + k → wanted_from code file k (suc i) ≡ n ∷ wanted_from code file (suc i + k - suc n) (suc n))
          → cond t i n < i + suc k
          → cond t (i ∷ wanted_from code file k (suc i)) (wanted_from code file k (suc i))
          ≡ cond t i n ∷ wanted_from code file (i + suc k - suc (cond t i n)) (suc (cond t i n))
      by-test true n more h = rw rest
      by-test false n more h = rw (more (omega arith), same_end)

  -- from the first that is wanted on, that is the first
  from-from : (k i : ℕ)
      → next_from code file (i + k - next_from code file k i) (next_from code file k i) ≡ next_from code file k i
  from-from zero i = rw (let z : i + 0 - i ≡ 0 = omega arith in z)
  from-from (suc k) i =
      by-test (wanted code (record_at 168 file i)) refl (next_from code file k (suc i)) (from-from k (suc i))
    where
      whole : i + suc k - i ≡ suc k
      whole = omega arith

      same_end : suc i + k ≡ i + suc k
      same_end = omega arith

      by-test : (t : Bool) → wanted code (record_at 168 file i) ≡ t → (n : ℕ)
          → next_from code file (suc i + k - n) n ≡ n
          → next_from code file (i + suc k - cond t i n) (cond t i n) ≡ cond t i n
      by-test true e n more = rw whole (simp e)
      by-test false e n more = rw (sym same_end) more

  -- each of them is wanted, and stands among the k records
  from_all : (k i n : ℕ) → n < length (wanted_from code file k i)
      → (i ≤ get_or (wanted_from code file k i) n 0)
      × (get_or (wanted_from code file k i) n 0 < i + k)
      × (wanted code (record_at 168 file (get_or (wanted_from code file k i) n 0)) ≡ true)
  from_all zero i n h = absurd (omega arith)
  from_all (suc k) i n h =
      by-test (wanted code (record_at 168 file i)) refl (wanted_from code file k (suc i)) (from_all k (suc i)) n h
    where
      by-test : (t : Bool) → wanted code (record_at 168 file i) ≡ t → (ps : List ℕ)
          → ((m : ℕ) → m < length ps
          → (suc i ≤ get_or ps m 0) × (get_or ps m 0 < suc i + k) × (wanted code (record_at 168 file (get_or ps m 0)) ≡ true))
          → (m : ℕ)
          → m < length (cond t (i ∷ ps) ps)
          → (i ≤ get_or (cond t (i ∷ ps) ps) m 0)
          × (get_or (cond t (i ∷ ps) ps) m 0 < i + suc k)
          × (wanted code (record_at 168 file (get_or (cond t (i ∷ ps) ps) m 0)) ≡ true)
      by-test true e ps more zero h = (omega arith, omega arith, e)
      by-test true e ps more (suc m) h =
          let r = more m (omega arith) in (omega (arith, r.0), omega (arith, r.1), r.2)
      by-test false e ps more m h = let r = more m h in (omega (arith, r.0), omega (arith, r.1), r.2)

  pub from-bound : (k i : ℕ) → length (wanted_from code file k i) ≤ k
  from-bound zero i = omega arith
  from-bound (suc k) i =
      by-test (wanted code (record_at 168 file i)) (wanted_from code file k (suc i)) (from-bound k (suc i))
    where
      by-test : (t : Bool) (ps : List ℕ) → length ps ≤ k → length (cond t (i ∷ ps) ps) ≤ suc k
      by-test true ps h = omega arith
      by-test false ps h = omega arith

  -- the step by the record at i, as the code goes
  pub next-stop : (i : ℕ) → i < last_of file → wanted code (record_at 168 file i) ≡ true → next_wanted code file i ≡ i
  unfolding next_wanted
  next-stop i h e = rw (let k : last_of file - i ≡ suc (last_of file - suc i) = omega arith in k) (simp e)

  pub next-step : (i : ℕ) → i < last_of file → wanted code (record_at 168 file i) ≡ false
      → next_wanted code file i ≡ next_wanted code file (i + 1)
  unfolding next_wanted
  next-step i h e =
      rw (let k : last_of file - i ≡ suc (last_of file - suc i) = omega arith in k) (simp (e, add-one i))

  pub next-end : (i : ℕ) → last_of file ≤ i → next_wanted code file i ≡ i
  unfolding next_wanted
  next-end i h = rw (let z : last_of file - i ≡ 0 = omega arith in z)

  pub next-range : (i : ℕ)
      → (i ≤ next_wanted code file i) × (i ≤ last_of file → next_wanted code file i ≤ last_of file)
  unfolding next_wanted
  next-range i =
      let r = from-range (last_of file - i) i in
      (r.0, λ (h : i ≤ last_of file). omega (arith, r.1))

  pub next-next : (i : ℕ) → next_wanted code file (next_wanted code file i) ≡ next_wanted code file i
  unfolding next_wanted
  next-next i =
      let n = next_from code file (last_of file - i) i in
      let k : last_of file - n ≡ i + (last_of file - i) - n = omega (arith, (from-range (last_of file - i) i).0) in
      ap (λ (m : ℕ). next_from code file m n) k ∙ from-from (last_of file - i) i

  -- the step and the places from i on
  pub next-none : (i : ℕ) → last_of file ≤ next_wanted code file i → wanted_from code file (last_of file - i) i ≡ []
  unfolding next_wanted
  next-none i h = from-none (last_of file - i) i (omega (arith, (from-range (last_of file - i) i).0))

  pub next-some : (i : ℕ) → next_wanted code file i < last_of file
      → wanted_from code file (last_of file - i) i
      ≡ next_wanted code file i
      ∷ wanted_from code file (last_of file - (next_wanted code file i + 1)) (next_wanted code file i + 1)
  unfolding next_wanted
  next-some i h =
      let n = next_from code file (last_of file - i) i in
      let low = (from-range (last_of file - i) i).0 in
      let k : i + (last_of file - i) - suc n ≡ last_of file - suc n = omega (arith, low) in
      from_some (last_of file - i) i (omega (arith, low))
      ∙ rw (add-one n) (ap (λ (m : ℕ). n ∷ wanted_from code file m (suc n)) k)

  pub next-skip : (i : ℕ)
      → wanted_from code file (last_of file - i) i
      ≡ wanted_from code file (last_of file - next_wanted code file i) (next_wanted code file i)
  next-skip i = by-test (ltb (next_wanted code file i) (last_of file)) refl
    where
      by-test : (t : Bool) → ltb (next_wanted code file i) (last_of file) ≡ t
          → wanted_from code file (last_of file - i) i
          ≡ wanted_from code file (last_of file - next_wanted code file i) (next_wanted code file i)
      by-test true e =
          let h : next_wanted code file i < last_of file = ltb-true (next_wanted code file i) (last_of file) e in
          let again = rw (next-next i) at (next-some (next_wanted code file i)) in
          next-some i h ∙ sym (again h)
      by-test false e =
          let h : last_of file ≤ next_wanted code file i = ltb-false (next_wanted code file i) (last_of file) e in
          let again = rw (next-next i) at (next-none (next_wanted code file i)) in
          next-none i h ∙ sym (again h)

  -- the places from one that is wanted to the next
  pub places-start : wanted_in code file ≡ places_from code file (next_wanted code file 1)
  unfolding wanted_in
  places-start = next-skip 1

  pub places-step : (i : ℕ) → next_wanted code file i ≡ i → i < last_of file
      → places_from code file i ≡ i ∷ places_from code file (next_wanted code file (i + 1))
  places-step i e h = some h ∙ ap (λ (ps : List ℕ). i ∷ ps) (next-skip (i + 1))
    where
      some : i < last_of file
          → wanted_from code file (last_of file - i) i ≡ i ∷ wanted_from code file (last_of file - (i + 1)) (i + 1)
      some = rw e at (next-some i)

  pub places-end : (i : ℕ) → last_of file ≤ i → places_from code file i ≡ []
  places-end i h = rw (let z : last_of file - i ≡ 0 = omega arith in z)

  pub count-bound : wanted_count code file ≤ length file / 168
  unfolding wanted_count wanted_in
  count-bound = omega (arith, from-bound (last_of file - 1) 1)

  -- the k-th from the place `at` on, which is the 0-th
  pub at_some : (at k : ℕ) → 0 < k → next_wanted code file (at + 1) < last_of file
      → get_or (at ∷ wanted_from code file (last_of file - (at + 1)) (at + 1)) k 0
      ≡ get_or
      (next_wanted code file (at + 1)
      ∷ wanted_from code file (last_of file - (next_wanted code file (at + 1) + 1)) (next_wanted code file (at + 1) + 1))
      (k - 1)
      0
  at_some at zero p h = absurd (omega arith)
  at_some at (suc k) p h = rw (next-some (at + 1) h, let z : suc k - 1 ≡ k = omega arith in z)

  pub at_none : (at k : ℕ) → 0 < k → last_of file ≤ next_wanted code file (at + 1)
      → get_or (at ∷ wanted_from code file (last_of file - (at + 1)) (at + 1)) k 0 ≡ 0
  at_none at zero p h = absurd (omega arith)
  at_none at (suc k) p h = rw (next-none (at + 1) h)

  -- what the k-th place is
  pub wanted-at-wanted : (k : ℕ) → 1 ≤ k → k ≤ wanted_count code file
      → (1 ≤ wanted_at code file k)
      × (wanted_at code file k < last_of file)
      × (wanted code (record_at 168 file (wanted_at code file k)) ≡ true)
  unfolding wanted_at wanted_count wanted_in
  wanted-at-wanted zero p h = absurd (omega arith)
  wanted-at-wanted (suc k) p h =
      let r = from_all (last_of file - 1) 1 k (omega arith) in
      (r.0, omega (arith, r.1, from-bound (last_of file - 1) 1), r.2)

  pub wanted-at-zero : wanted_at code file 0 ≡ 0
  unfolding wanted_at
  wanted-at-zero = refl

  pub wanted-at-none : (k : ℕ) → wanted_count code file < k → wanted_at code file k ≡ 0
  unfolding wanted_at wanted_count
  wanted-at-none k h = get_or-eq_default (0 ∷ wanted_in code file) 0 {n = k} (omega arith)

-- the wanted among so many records, counted one by one
pub count_step : (code file : List ℕ) (many i : ℕ) → i < many
    → length (wanted_from code file (many - i) (i + 1))
    ≡ cond (wanted code (record_at 168 file (i + 1))) 1 0 + length (wanted_from code file (many - (i + 1)) (i + 1 + 1))
count_step code file many i h =
    rw (let k : many - i ≡ suc (many - (i + 1)) = omega arith in k, add-one (i + 1))
    (by-test (wanted code (record_at 168 file (i + 1))) (wanted_from code file (many - (i + 1)) (suc (i + 1))))
  where
    by-test : (t : Bool) (ps : List ℕ) → length (cond t ((i + 1) ∷ ps) ps) ≡ cond t 1 0 + length ps
    by-test true ps = omega arith
    by-test false ps = omega arith
