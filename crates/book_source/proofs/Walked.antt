-- The delivery points of a book, in order of place, are those that stand where the walk starts them.
-- Assumes nothing.
use Prim.Native.Nat.{ℕ, zero, suc, ◌+◌, ◌-◌, ◌≤◌, ◌<◌}
use mathlib.Core.Path.{◌≡◌, refl, sym, ap, ap₂, subst, ◌∙◌}
use mathlib.Core.Bool.{Bool, true, false, cond, ◌&&◌, ◌||◌}
use mathlib.Core.List.{List, [], ◌∷◌, ◌++◌}
use native.Mathlib.Omega.{arith}
use lib.Dec.{eqb}
use lib.ListN.{length, get_or, take, set}
use lib.Seq.{get_or-take}
use Rattle.field_outward.specs.Outward.{outward_fault}
use Rattle.field.proofs.Tests.{and_left, and_right}
use Rattle.changes_views.specs.Views.{is_view, is_live, in_code, is_empty, wanted}
use Rattle.changes_source.specs.Addresses.{address_of}
use Rattle.ask.specs.Source as ask
use Rattle.book.specs.Layout.{slots, slot_at, count_of, place_of, view_of, follower_of}
use Rattle.file_record.specs.Parts.{record_at}
use Rattle.file_fault.specs.Point.{point_fault}
use Rattle.book.specs.Book.{followed, well_kept, holder}
use Rattle.book.specs.Meaning.{present_from, means}
use Rattle.book.proofs.Good.{holder-of, holder-found, BookFacts}
use Rattle.book_source.specs.Source.{addresses_from, addresses_of}
use Rattle.book_source.specs.Starts.{start_of, place_before, start_of_place, address_from, addresses_at, wanted_from, starts_from, starts_in, start_among, Inside, AllInside, ByPlace}
use Rattle.book_source.proofs.Records.{slot-inside, slot-view, slot-follower, slot-place}

module _ (book : List ℕ) (facts : BookFacts book) where
  abbrev slot : ℕ → List ℕ
  slot = slot_at book

  pub held : (p : ℕ) → 1 ≤ p → p ≤ count_of book → holder slot p < slots
  held p h k =
      let (s, low, e) = facts.good.held p h k in
      subst (λ q. holder slot q < slots) e (omega (arith, holder-found slot s low))

  -- the i-th of those by place, of which so many are taken
  pub taken_is : (places : List ℕ) → ByPlace book places → (n i : ℕ) → n ≡ count_of book → i < n
      → get_or (take n places) i 0 ≡ start_of_place book (suc i)
  taken_is places by n i e h =
      get_or-take n places i 0 h ∙ by i (omega (arith, e, facts.few)) (held (suc i) (omega arith) (omega (arith, e)))

  pub place_inside : (p : ℕ) → 1 ≤ p → p ≤ count_of book → Inside book (start_of_place book p)
  place_inside p h k = slot-inside book facts.long (holder slot p) (held p h k)

  -- the address at a place
  address_is : (p : ℕ) → 1 ≤ p → p ≤ count_of book
      → address_of p (view_of (slot (holder slot p))) (follower_of (slot (holder slot p))) ≡ address_from book (start_of_place book p)
  address_is p h k =
      let low = held p h k in
      let s = holder slot p in
      let place : p ≡ place_before book (start_of s) = sym (holder-of slot p low) ∙ slot-place book facts.long s low in
      let view = slot-view book facts.long s low in
      let next = slot-follower book facts.long s low in
      cc

  -- what is kept there is a live view
  kept-live : (p : ℕ) → 1 ≤ p → p ≤ count_of book
      → (is_view (view_of (slot (holder slot p))) ≡ true) × (is_live (view_of (slot (holder slot p))) ≡ true)
  unfolding well_kept
  kept-live p h k =
      let low = held p h k in
      let s = holder slot p in
      let some : 1 ≤ place_of (slot s) = subst (1 ≤◌) (sym (holder-of slot p low)) h in
      let rec = view_of (slot s) in
      let follows = followed rec (follower_of (slot s)) in
      let rest = and_right (eqb (point_fault rec) 0) (is_view rec && (is_live rec && follows)) (facts.good.kept s low some) in (
        and_left (is_view rec) (is_live rec && follows) rest,
        and_left (is_live rec) follows (and_right (is_view rec) (is_live rec && follows) rest),
      )

  wanted-is : (code : List ℕ) (p : ℕ) → 1 ≤ p → p ≤ count_of book
      → wanted_from code book (start_of_place book p) ≡ (is_empty code || in_code code (view_of (slot (holder slot p))))
  unfolding wanted
  wanted-is code p h k =
      let view = slot-view book facts.long (holder slot p) (held p h k) in
      let (a, b) = kept-live p h k in
      ap (wanted code) (sym view) ∙ rw (a, b)

  -- all of them, and those of a code
  all_from : (n p : ℕ) → 1 ≤ p → p + n ≤ suc (count_of book)
      → addresses_from p (present_from slot n p) ≡ addresses_at book (starts_from [] book n p)
  all_from zero p h k = refl
  all_from (suc n) p h k =
      rw (wanted-is [] p h (omega arith)) (ap₂ ◌∷◌ (address_is p h (omega arith)) (all_from n (suc p) (omega arith) (omega arith)))

  code-from : (code : List ℕ) → is_empty code ≡ false → (n p : ℕ) → 1 ≤ p → p + n ≤ suc (count_of book)
      → ask.in_code code (addresses_from p (present_from slot n p)) ≡ addresses_at book (starts_from code book n p)
  unfolding address_of record_at
  code-from code some zero p h k = refl
  code-from code some (suc n) p h k =
      let view = view_of (slot (holder slot p)) in
      let chosen : wanted_from code book (start_of_place book p) ≡ in_code code view = wanted-is code p h (omega arith) ∙ rw some in
      rw chosen (by-test (in_code code view) (code-from code some n (suc p) (omega arith) (omega arith)))
    where
      by-test : (t : Bool)
          → ask.in_code code (addresses_from (suc p) (present_from slot n (suc p))) ≡ addresses_at book (starts_from code book n (suc p))
          → cond t
          (address_of p (view_of (slot (holder slot p))) (follower_of (slot (holder slot p)))
          ∷ ask.in_code code (addresses_from (suc p) (present_from slot n (suc p))))
          (ask.in_code code (addresses_from (suc p) (present_from slot n (suc p))))
          ≡ addresses_at book
          (cond t (start_of_place book p ∷ starts_from code book n (suc p)) (starts_from code book n (suc p)))
      by-test true rest = ap₂ ◌∷◌ (address_is p h (omega arith)) rest
      by-test false rest = rest

  -- a code that is well formed is not empty
  code-some : (code : List ℕ) → outward_fault code ≡ 0 → is_empty code ≡ false
  unfolding outward_fault
  code-some [] e = absurd (omega (arith, e))
  code-some (x ∷ code) e = refl

  pub all-starts : addresses_of book ≡ addresses_at book (starts_in [] book)
  unfolding addresses_of means starts_in
  all-starts = all_from (count_of book) 1 (omega arith) (omega arith)

  pub code-starts : (code : List ℕ) → outward_fault code ≡ 0
      → ask.in_code code (addresses_of book) ≡ addresses_at book (starts_in code book)
  unfolding addresses_of means starts_in
  code-starts code clean = code-from code (code-some code clean) (count_of book) 1 (omega arith) (omega arith)

-- as many as there are
pub addresses-many : (book starts : List ℕ) → length (addresses_at book starts) ≡ length starts
addresses-many book [] = refl
addresses-many book (at ∷ more) = ap suc (addresses-many book more)

-- ---- each starts within the book

module _ (book : List ℕ) (facts : BookFacts book) (code : List ℕ) where
  inside-from : (n p : ℕ) → 1 ≤ p → p + n ≤ suc (count_of book) → AllInside book (starts_from code book n p)
  inside-from zero p h k = tt
  inside-from (suc n) p h k =
      by-test (wanted_from code book (start_of_place book p)) (inside-from n (suc p) (omega arith) (omega arith))
    where
      by-test : (t : Bool) → AllInside book (starts_from code book n (suc p))
          → AllInside book (cond t (start_of_place book p ∷ starts_from code book n (suc p)) (starts_from code book n (suc p)))
      by-test true rest = (place_inside book facts p h (omega arith), rest)
      by-test false rest = rest

  pub starts-inside : AllInside book (starts_in code book)
  unfolding starts_in
  starts-inside = inside-from (count_of book) 1 (omega arith) (omega arith)

-- the k-th of them, where there is one
pub among-inside : (book starts : List ℕ) → AllInside book starts → (k : ℕ) → (start_among starts k ≡ 0 → ⊥)
    → Inside book (start_among starts k)
among-inside book starts all zero some = absurd (some refl)
among-inside book [] all (suc k) some = absurd (some refl)
among-inside book (at ∷ more) all (suc zero) some = all.0
among-inside book (at ∷ more) all (suc (suc k)) some = among-inside book more all.1 (suc k) some

-- ---- the next that is wanted, taken or left

module _ (code book : List ℕ) (n i : ℕ) (high : i < n) where
  abbrev next : ℕ
  next = start_of_place book (suc i)

  abbrev others : List ℕ
  others = starts_from code book (n - (i + 1)) (suc (i + 1))

  starts-next : starts_from code book (n - i) (suc i) ≡ cond (wanted_from code book next) (next ∷ others) others
  starts-next =
      let more : n - i ≡ suc (n - (i + 1)) = omega arith in
      let on : suc (suc i) ≡ suc (i + 1) = omega arith in
      ap (λ k. starts_from code book k (suc i)) more
      ∙ ap
      (λ p.
      cond (wanted_from code book next) (next ∷ starts_from code book (n - (i + 1)) p) (starts_from code book (n - (i + 1)) p))
      on

  pub starts-left : wanted_from code book next ≡ false → starts_from code book (n - i) (suc i) ≡ others
  starts-left e = starts-next ∙ rw e

  pub starts-taken : wanted_from code book next ≡ true → starts_from code book (n - i) (suc i) ≡ next ∷ others
  starts-taken e = starts-next ∙ rw e

-- one more is written behind those that are
pub written : (at : List ℕ) (many : ℕ) (x : ℕ) (rest : List ℕ) → many < length at
    → take (suc many) (set at many x) ++ rest ≡ take many at ++ (x ∷ rest)
written [] many x rest h = absurd (omega arith)
written (y ∷ at) zero x rest h = refl
written (y ∷ at) (suc many) x rest h = ap (y ∷◌) (written at many x rest (omega arith))
