-- In an accepted address file the addresses of a code stand together, and between its two places are they and no others.
-- Assumes nothing.
use Prim.Native.Nat.{ℕ, zero, suc, ◌+◌, ◌-◌, ◌/◌, ◌≤◌, ◌<◌}
use mathlib.Core.Path.{◌≡◌, refl, sym, ap, ◌∙◌}
use mathlib.Core.Bool.{Bool, true, false, cond, ◌||◌, true≢false}
use mathlib.Core.List.{List, [], ◌∷◌, ◌++◌, append-nil}
use native.Mathlib.Omega.{arith}
use native.Mathlib.Nat.{add-zero, add-suc}
use borrow.Author.Tests.{eqb-true, eqb-false, ltb-true, ltb-false, lt-ltb, ne_eqb, eq-eqb}
use lib.Dec.{eqb, ltb, lit≤}
use lib.ListN.{length}
use Rattle.field.specs.Text.{part}
use Rattle.file_record.specs.Parts.{record_at}
use Rattle.file_record.proofs.Records.{part_length, record-length}
use Rattle.file_compare.specs.Order.{order, same, above}
use Rattle.file_compare.proofs.Order.{order_same, order-bound, order-equal, below-above, above-below, front_below, not-above, above-not}
use Rattle.file_compare.proofs.Words.{order-join}
use Rattle.file.specs.Check.{records, at}
use Rattle.file.specs.Accepted.{Accepted}
use Rattle.file.specs.Mainfile.{addresses}
use Rattle.file.proofs.Laws.{at-least-two}
use Rattle.source.specs.Address.{Address}
use Rattle.shelf.specs.Search.{upper_of}
use Rattle.shelf.proofs.Bisect.{Least, Stays, bisect-least}
use Rattle.ask.specs.Source.{in_code}
use Rattle.mainfile.specs.Set.{Set}
use Rattle.mainfile.specs.Addresses.{address_of, addresses_from, addresses_in}
use Rattle.mainfile_views.specs.Range.{rank, rank_at, last_of, first_in, end_in, many_in}

-- the ranks of an order
rank-bound : (o : ℕ) → rank o ≤ 2
rank-bound o = by_tests (eqb o 1) (eqb o 0)
  where
    by_tests : (t u : Bool) → cond t 0 (cond u 1 2) ≤ 2
    by_tests true u = omega arith
    by_tests false true = omega arith
    by_tests false false = omega arith

pub rank_same : (o : ℕ) → rank o ≡ 1 → eqb o 0 ≡ true
rank_same o e = by_tests (eqb o 1) (eqb o 0) e
  where
    by_tests : (t u : Bool) → ◌≡◌ {A = ℕ} (cond t 0 (cond u 1 2)) 1 → u ≡ true
    by_tests true u e = absurd (omega (arith, e))
    by_tests false true e = refl
    by_tests false false e = absurd (omega (arith, e))

rank-other : (o : ℕ) → (rank o ≡ 1 → ⊥) → eqb o 0 ≡ false
rank-other o n = by-test (eqb o 0) refl
  where
    by-test : (t : Bool) → eqb o 0 ≡ t → t ≡ false
    by-test true e = let zero-order : o ≡ 0 = eqb-true o 0 e in absurd (n (rw zero-order refl))
    by-test false e = refl

-- what is not above another stands no higher to any code
rank_below : (x y code : List ℕ) → (order x y ≡ 2 → ⊥) → rank (order x code) ≤ rank (order y code)
rank_below x y code under = by_order (eqb (order y code) 1) (eqb (order y code) 0) refl refl
  where
    lower : order y code ≡ 1 → order x code ≡ 1
    lower e = by-test (eqb (order code x) 2) refl
      where
        by-test : (t : Bool) → eqb (order code x) 2 ≡ t → order x code ≡ 1
        by-test true h = above-below code x (eqb-true (order code x) 2 h)
        by-test false h = absurd (under (above-not code x y (below-above y code e) (eqb-false (order code x) 2 h)))

    not-higher : order y code ≡ 0 → rank (order x code) ≤ 1
    not-higher e = by-test (eqb (order x code) 1) (eqb (order x code) 0) refl refl
      where
        equal : y ≡ code
        equal = order-equal y code e

        three : (m : ℕ) → m ≤ 2 → (m ≡ 1 → ⊥) → (m ≡ 0 → ⊥) → m ≡ 2
        three zero h one none = absurd (none refl)
        three (suc zero) h one none = absurd (one refl)
        three (suc (suc zero)) h one none = refl
        three (suc (suc (suc m))) h one none = absurd (omega arith)

        by-test : (t u : Bool) → eqb (order x code) 1 ≡ t → eqb (order x code) 0 ≡ u → cond t 0 (cond u 1 2) ≤ 1
        by-test true u h k = omega arith
        by-test false true h k = omega arith
        by-test false false h k =
            absurd
            (under
            (rw equal
            (three (order x code) (order-bound x code) (eqb-false (order x code) 1 h) (eqb-false (order x code) 0 k))))

    by_order : (t u : Bool) → eqb (order y code) 1 ≡ t → eqb (order y code) 0 ≡ u → rank (order x code) ≤ cond t 0 (cond u 1 2)
    by_order true u h k = rw (lower (eqb-true (order y code) 1 h)) (omega arith)
    by_order false true h k = not-higher (eqb-true (order y code) 0 k)
    by_order false false h k = rank-bound (order x code)

-- the outward codes of an accepted file never fall
module _ (file code : List ℕ) (a : Accepted addresses file) where
  abbrev outward_at : ℕ → List ℕ
  outward_at i = part (record_at 88 file i) 0 4

  last_one : 1 ≤ last_of file
  last_one = omega (arith, at-least-two addresses file a.is_whole)

  step : (i : ℕ) → 1 ≤ i → i + 1 < last_of file → order (outward_at i) (outward_at (i + 1)) ≡ 2 → ⊥
  step i low high over =
      let j = i + 1 in
      let here : i + 1 - 1 ≡ i = omega arith in
      let this = record_at 88 file j in
      let last = record_at 88 file i in
      let rising = (a.each j (omega arith) (omega arith)).rising in
      let long-this : length this ≡ 88 = record-length 88 file j (omega arith) in
      let long-last : length last ≡ 88 = record-length 88 file i (omega arith) in
      let alike : length (part this 0 15) ≡ length (part last 0 15) =
      part_length this 0 15 (lit≤ tt) (omega arith) ∙ sym (part_length last 0 15 (lit≤ tt) (omega arith)) in
      let front : order (part this 0 15) (part last 0 15) ≡ 1 =
      front_below 4 15 this last (lit≤ tt) (above-below (outward_at i) (outward_at j) over) in
      let below : order (part this 0 15 ++ part this 69 77) (part last 0 15 ++ part last 69 77) ≡ 1 =
      order-join (part this 0 15) (part last 0 15) (part this 69 77) (part last 69 77) alike ∙ rw front refl in
      one-two
      (sym below
      ∙ eqb-true (order (part this 0 15 ++ part this 69 77) (part last 0 15 ++ part last 69 77)) 2
      (rw here at (behind (eqb j 1) refl _ rising)))
    where
      one-two : ◌≡◌ {A = ℕ} 1 2 → ⊥
      one-two e = omega (arith, e)

      behind : (t : Bool) → eqb (i + 1) 1 ≡ t → (u : Bool) → t || u ≡ true → u ≡ true
      behind true e u h = absurd (omega (arith, eqb-true (i + 1) 1 e))
      behind false e u h = h

  further : (d i : ℕ) → 1 ≤ i → i + d < last_of file → order (outward_at i) (outward_at (i + d)) ≡ 2 → ⊥
  further zero i low high over =
      let here : i + 0 ≡ i = omega arith in
      zero-two (sym (order_same (outward_at i)) ∙ rw here at over)
    where
      zero-two : ◌≡◌ {A = ℕ} 0 2 → ⊥
      zero-two e = omega (arith, e)
  further (suc d) i low high over =
      let next : i + suc d ≡ i + d + 1 = omega arith in
      not-above (outward_at i) (outward_at (i + d)) (outward_at (i + d + 1)) (further d i low (omega arith))
      (step (i + d) (omega arith) (omega arith)) (rw next at over)

  pub never-falls : (i j : ℕ) → 1 ≤ i → i ≤ j → j < last_of file → rank_at file code i ≤ rank_at file code j
  never-falls i j low up high =
      let there : i + (j - i) ≡ j = omega arith in
      rank_below (outward_at i) (outward_at j) code (rw there at (further (j - i) i low (omega arith)))

  stays : (r : ℕ) → Stays (λ i. ltb r (rank_at file code i)) 1 (last_of file)
  stays r i j low up high e =
      lt-ltb r (rank_at file code j) (omega (arith, ltb-true r (rank_at file code i) e, never-falls i j low up high))

  pub least : (r : ℕ)
      → Least (λ i. ltb r (rank_at file code i)) 1 (last_of file) (upper_of (rank_at file code) (last_of file) r)
  least r = bisect-least (λ i. ltb r (rank_at file code i)) (last_of file) 1 (last_of file) last_one (omega arith) (stays r)

-- addresses of a row that all have the code, or none of which has it
module _ (s : Set) (code : List ℕ) where
  abbrev kept : ℕ → Bool
  kept i = same (part (record_at 88 s.addresses i) 0 4) code

  abbrev here : ℕ → Address
  here i = address_of i (record_at 88 s.addresses i) s.organisations

  drop-one : (n : ℕ) (more : List Address) → kept n ≡ false → in_code code (here n ∷ more) ≡ in_code code more
  unfolding address_of
  drop-one n more e = rw e refl

  keep_one : (n : ℕ) (more : List Address) → kept n ≡ true → in_code code (here n ∷ more) ≡ here n ∷ in_code code more
  unfolding address_of
  keep_one n more e = rw e refl

  skips : (k m n : ℕ) → ((i : ℕ) → n ≤ i → i < n + k → kept i ≡ false)
      → in_code code (addresses_from s (k + m) n) ≡ in_code code (addresses_from s m (n + k))
  skips zero m n none = let size : 0 + m ≡ m = omega arith in rw (size, add-zero n) refl
  skips (suc k) m n none =
      let size : suc k + m ≡ suc (k + m) = omega arith in
      let place : n + suc k ≡ suc n + k = omega arith in
      rw (size, place)
      (drop-one n (addresses_from s (k + m) (suc n)) (none n (omega arith) (omega arith))
      ∙ skips k m (suc n) (λ i low high. none i (omega arith) (omega arith)))

  keeps : (k m n : ℕ) → ((i : ℕ) → n ≤ i → i < n + k → kept i ≡ true)
      → in_code code (addresses_from s (k + m) n) ≡ addresses_from s k n ++ in_code code (addresses_from s m (n + k))
  keeps zero m n all = let size : 0 + m ≡ m = omega arith in rw (size, add-zero n) refl
  keeps (suc k) m n all =
      let size : suc k + m ≡ suc (k + m) = omega arith in
      let place : n + suc k ≡ suc n + k = omega arith in
      rw (size, place)
      (keep_one n (addresses_from s (k + m) (suc n)) (all n (omega arith) (omega arith))
      ∙ ap (λ more. here n ∷ more) (keeps k m (suc n) (λ i low high. all i (omega arith) (omega arith))))

  module _ (a : Accepted addresses s.addresses) where
    abbrev file : List ℕ
    file = s.addresses

    abbrev first : ℕ
    first = upper_of (rank_at file code) (last_of file) 0

    abbrev end : ℕ
    end = upper_of (rank_at file code) (last_of file) 1

    from_first : Least (λ i. ltb 0 (rank_at file code i)) 1 (last_of file) first
    from_first = least file code a 0

    from_end : Least (λ i. ltb 1 (rank_at file code i)) 1 (last_of file) end
    from_end = least file code a 1

    ordered : first ≤ end
    ordered = by-test (ltb end first) refl
      where
        by-test : (t : Bool) → ltb end first ≡ t → first ≤ end
        by-test true e =
            let h = ltb-true end first e in
            absurd
            (omega (
              arith,
              ltb-false 0 (rank_at file code end) (from_first.fails end from_end.from h),
              ltb-true 1 (rank_at file code end) (from_end.passes end (omega arith) (omega (arith, from_first.to))),
            ))
        by-test false e = ltb-false end first e

    before-it : (i : ℕ) → 1 ≤ i → i < 1 + (first - 1) → kept i ≡ false
    before-it i low high =
        let rank-none = ltb-false 0 (rank_at file code i) (from_first.fails i low (omega (arith, from_first.from))) in
        rank-other (order (part (record_at 88 file i) 0 4) code) (λ e. omega (arith, e, rank-none))

    within-it : (i : ℕ) → first ≤ i → i < first + (end - first) → kept i ≡ true
    within-it i low high =
        let more = ltb-true 0 (rank_at file code i) (from_first.passes i low (omega (arith, ordered, from_end.to))) in
        let less = ltb-false 1 (rank_at file code i) (from_end.fails i (omega (arith, from_first.from)) (omega (arith, ordered))) in
        rank_same (order (part (record_at 88 file i) 0 4) code) (omega (arith, more, less))

    behind-it : (i : ℕ) → end ≤ i → i < end + (last_of file - end) → kept i ≡ false
    behind-it i low high =
        let more = ltb-true 1 (rank_at file code i) (from_end.passes i low (omega (arith, from_end.to))) in
        rank-other (order (part (record_at 88 file i) 0 4) code) (λ e. omega (arith, e, more))

    -- "the live views of that outward code in file order"
    pub in-code-range : in_code code (addresses_in s) ≡ addresses_from s (many_in file code) (first_in file code)
    unfolding addresses_in first_in end_in
    in-code-range =
        let size : length file / 88 - 2 ≡ (first - 1) + ((end - first) + (last_of file - end)) =
        omega (arith, ordered, from_first.from, from_end.to) in
        let start : 1 + (first - 1) ≡ first = omega (arith, from_first.from) in
        let stop : first + (end - first) ≡ end = omega (arith, ordered) in
        let none : last_of file - end ≡ (last_of file - end) + 0 = omega arith in
        ap (λ k. in_code code (addresses_from s k 1)) size
        ∙ (skips (first - 1) ((end - first) + (last_of file - end)) 1 before-it
        ∙ (ap (λ n. in_code code (addresses_from s ((end - first) + (last_of file - end)) n)) start
        ∙ (keeps (end - first) (last_of file - end) first within-it
        ∙ (ap (λ n. addresses_from s (end - first) first ++ in_code code (addresses_from s (last_of file - end) n)) stop
        ∙ (ap (λ k. addresses_from s (end - first) first ++ in_code code (addresses_from s k end)) none
        ∙ (ap (λ more. addresses_from s (end - first) first ++ more) (skips (last_of file - end) 0 end behind-it)
        ∙ append-nil (addresses_from s (end - first) first)))))))

    -- and so many they are
    pub in-code-many : length (in_code code (addresses_in s)) ≡ many_in file code
    in-code-many = ap length in-code-range ∙ row-length (many_in file code) (first_in file code)
      where
        row-length : (k n : ℕ) → length (addresses_from s k n) ≡ k
        row-length zero n = refl
        row-length (suc k) n = ap suc (row-length k (suc n))

    -- they stand between header and trailer
    pub range-low : 1 ≤ first_in file code
    unfolding first_in
    range-low = from_first.from

    pub range-high : first_in file code + many_in file code ≤ last_of file
    unfolding first_in end_in
    range-high = omega (arith, ordered, from_end.to)
