-- The search by halves finds the last record that stands for a number.
-- Assumes nothing.
use Prim.Native.Nat.{ℕ, zero, suc, ◌+◌, ◌-◌, ◌≤◌, ◌<◌}
use mathlib.Core.Path.{◌≡◌, refl, sym, ap, subst, ◌∙◌}
use mathlib.Core.Bool.{Bool, true, false, cond}
use mathlib.Core.List.{List}
use mathlib.Core.Logic.{⊎_elim}
use native.Mathlib.Omega.{arith}
use native.Mathlib.Nat.{le_refl, eq-or-lt_of_le}
use borrow.Author.Tests.{lt-ltb, ltb-true, ltb-false, eqb-true, eqb-false, eq-eqb, ne_eqb}
use lib.Dec.{ltb, eqb}
use Rattle.shelf.specs.declared.Shelf.{Shelf}
use Rattle.shelf.specs.Shelf.{ref_at, last_of, last_from, last_row, in_force, row_of, NeverFalls}
use Rattle.shelf.specs.Search.{upper_of, last_found_in, last_found, found}
use Rattle.shelf.proofs.Bisect.{Least, Stays, bisect-end, bisect-least}
use Rattle.shelf.proofs.Search.{found_none, found_here, found-other, last-found-before}
use Rattle.shelf.proofs.Force.{force-low, force-some}

module _ (refs : ℕ → ℕ) (r : ℕ) where
  abbrev Other : ℕ → Type 0
  Other j = refs j ≡ r → ⊥

  -- the last of k from i on that is r
  abbrev last_is : ℕ → ℕ → ℕ
  last_is k i = last_from (λ j. eqb (refs j) r) k i

  last_step : (k i : ℕ) → last_is k (suc i) ≡ 0
      → last_is (suc k) i ≡ cond (eqb (refs i) r) i 0
  last_step k i e = simp e

  -- no record stands for it
  last_none : (k i : ℕ) → ((j : ℕ) → i ≤ j → j < i + k → Other j) → last_is k i ≡ 0
  last_none zero i none = refl
  last_none (suc k) i none =
      last_step k i (last_none k (suc i) (λ j a b. none j (omega arith) (omega arith)))
      ∙ simp (ne_eqb (refs i) r (none i (le_refl i) (omega arith)))

  -- record m does, and none behind it
  module _ (m : ℕ) (high : 1 ≤ m) (here : refs m ≡ r) where
    last-at : (k i : ℕ) → i ≤ m → m < i + k → ((j : ℕ) → m < j → j < i + k → Other j) → last_is k i ≡ m
    last-at zero i h l none = absurd (omega arith)
    last-at (suc k) i h l none =
        ⊎_elim
        (λ (e : i ≡ m).
        last_step k i (last_none k (suc i) (λ j a b. none j (omega arith) (omega arith)))
        ∙ rw e (simp (eq-eqb (refs m) r here)))
        (λ g. kept (last_is k (suc i)) (last-at k (suc i) g (omega arith) (λ j a b. none j a (omega arith))))
        (eq-or-lt_of_le h)
      where
        kept : (q : ℕ) → q ≡ m → cond (eqb q 0) (cond (eqb (refs i) r) i 0) q ≡ m
        kept q e = simp (ne_eqb q 0 (omega arith)) e

  -- read back: none does
  last-all : (k i : ℕ) → 1 ≤ i → last_is k i ≡ 0 → (j : ℕ) → i ≤ j → j < i + k → Other j
  last-all zero i o e j h l = absurd (omega arith)
  last-all (suc k) i o e j h l =
      by-rest (last_is k (suc i)) e (λ z g. last-all k (suc i) (omega arith) z j g (omega arith))
    where
      by-same : (t : Bool) → eqb (refs i) r ≡ t → cond t i 0 ≡ 0 → Other i
      by-same true q z = absurd (omega arith)
      by-same false q z = eqb-false (refs i) r q

      by-rest : (q : ℕ) → cond (eqb q 0) (cond (eqb (refs i) r) i 0) q ≡ 0
          → (q ≡ 0 → i < j → Other j) → Other j
      by-rest zero z next =
          ⊎_elim
          (λ (q : i ≡ j). subst (λ (x : ℕ). Other x) q (by-same (eqb (refs i) r) refl z))
          (λ g. next refl g)
          (eq-or-lt_of_le h)
      by-rest (suc q) z next =
          let y : suc q ≡ 0 = simp (ne_eqb (suc q) 0 (λ x. omega arith)) at z in absurd (omega arith)

  -- read back: the record, and none behind it
  record LastAt (k i m : ℕ) : Type 0 where
    from : i ≤ m
    below : m < i + k
    here : refs m ≡ r
    behind : (j : ℕ) → m < j → j < i + k → Other j

  last_some : (k i p : ℕ) → last_is k i ≡ suc p → LastAt k i (suc p)
  last_some zero i p e = absurd (omega arith)
  last_some (suc k) i p e = by-rest (last_is k (suc i)) refl e (last_some k (suc i) p)
    where
      by-same : (t : Bool) → last_is k (suc i) ≡ 0 → eqb (refs i) r ≡ t → cond t i 0 ≡ suc p
          → LastAt (suc k) i (suc p)
      by-same true none q z =
          record {
            from = omega arith;
            below = omega arith;
            here = subst (λ (x : ℕ). refs x ≡ r) z (eqb-true (refs i) r q);
            behind = λ j a b. last-all k (suc i) (omega arith) none j (omega arith) (omega arith);
          }
      by-same false none q z = absurd (omega arith)

      by-rest : (q : ℕ) → last_is k (suc i) ≡ q
          → cond (eqb q 0) (cond (eqb (refs i) r) i 0) q ≡ suc p
          → (last_is k (suc i) ≡ suc p → LastAt k (suc i) (suc p))
          → LastAt (suc k) i (suc p)
      by-rest zero q z next = by-same (eqb (refs i) r) q refl z
      by-rest (suc n) q z next =
          let n = next (q ∙ (simp (ne_eqb (suc n) 0 (λ x. omega arith)) at z)) in
          record {
            from = omega (arith, n.from);
            below = omega (arith, n.below);
            here = n.here;
            behind = λ j a b. n.behind j a (omega arith);
          }

-- tests that agree on k places from i on give the same
pub last_as : (ok other : ℕ → Bool) (k i : ℕ) → ((j : ℕ) → i ≤ j → j < i + k → ok j ≡ other j)
    → last_from ok k i ≡ last_from other k i
last_as ok other zero i agree = refl
last_as ok other (suc k) i agree =
    rw (
      agree i (le_refl i) (omega arith),
      last_as ok other k (suc i) (λ j a b. agree j (omega arith) (omega arith)),
    )

-- where none is above the next, none is above one behind it
pub up_to : (refs : ℕ → ℕ) (last : ℕ) → ((i : ℕ) → 1 ≤ i → suc i < last → refs i ≤ refs (suc i))
    → (i j : ℕ) → 1 ≤ i → i ≤ j → j < last → refs i ≤ refs j
up_to refs last step i zero o h l = absurd (omega arith)
up_to refs last step i (suc j) o h l =
    ⊎_elim
    (λ (e : i ≡ suc j). rw e (le_refl (refs (suc j))))
    (λ g. omega (arith, up_to refs last step i j o (omega arith) (omega arith), step j (omega arith) l))
    (eq-or-lt_of_le h)

-- between header and trailer no number is above one behind it
pub rises : (s : Shelf) (file : List ℕ) → NeverFalls s file
    → (i j : ℕ) → 1 ≤ i → i ≤ j → j < last_of s file → ref_at s file i ≤ ref_at s file j
rises s file never = up_to (ref_at s file) (last_of s file) never.each

-- numbers that never fall before a place
module _ (refs : ℕ → ℕ) (r last : ℕ) (up : (i j : ℕ) → 1 ≤ i → i ≤ j → j < last → refs i ≤ refs j) where
  abbrev ok : ℕ → Bool
  ok i = ltb r (refs i)

  above-stays : Stays ok 1 last
  above-stays i j o h l e =
      lt-ltb r (refs j) (omega (arith, ltb-true r (refs i) e, up i j o h l))

  abbrev u : ℕ
  u = upper_of refs last r

  module _ (least : Least ok 1 last u) where
    -- records from the place on are above what is wanted
    behind-other : (j : ℕ) → u ≤ j → j < last → Other refs r j
    behind-other j h l e = omega (arith, ltb-true r (refs j) (least.passes j h l))

    module _ (h : 1 < u) where
      -- where the one before it is another, it is below, and so are all before
      all-other : Other refs r (u - 1) → (j : ℕ) → 1 ≤ j → j < last → Other refs r j
      all-other n j o l e = by-test (ltb j u) refl
        where
          by-test : (t : Bool) → ltb j u ≡ t → ⊥
          by-test true q =
              let low = ltb-false r (refs (u - 1)) (least.fails (u - 1) (omega arith) (omega arith)) in
              n
              (omega (
                arith,
                low,
                up j (u - 1) o (omega (arith, ltb-true j u q)) (omega (arith, least.to)),
              ))
          by-test false q = behind-other j (ltb-false j u q) l e

      by_number : (t : Bool) → eqb (refs (u - 1)) r ≡ t
          → last_found_in refs last r ≡ last_from (λ i. eqb (refs i) r) (last - 1) 1
      by_number true e =
          let here = eqb-true (refs (u - 1)) r e in
          found_here refs r last h here
          ∙ sym
          (last-at refs r (u - 1) (omega arith) here (last - 1) 1 (omega arith) (omega (arith, least.to))
          (λ j a b. behind-other j (omega arith) (omega arith)))
      by_number false e =
          let n = eqb-false (refs (u - 1)) r e in
          found-other refs r last h n
          ∙ sym (last_none refs r (last - 1) 1 (λ j a b. all-other n j a (omega arith)))

    by_place : (t : Bool) → ltb 1 u ≡ t → last_found_in refs last r ≡ last_from (λ i. eqb (refs i) r) (last - 1) 1
    by_place true e = by_number (ltb-true 1 u e) (eqb (refs (u - 1)) r) refl
    by_place false e =
        let h = ltb-false 1 u e in
        found_none refs r last h
        ∙ sym (last_none refs r (last - 1) 1 (λ j a b. behind-other j (omega arith) (omega arith)))

  pub last-found-in : last_found_in refs last r ≡ last_from (λ i. eqb (refs i) r) (last - 1) 1
  last-found-in = by_size (ltb 0 last) refl
    where
      by_size : (t : Bool) → ltb 0 last ≡ t → last_found_in refs last r ≡ last_from (λ i. eqb (refs i) r) (last - 1) 1
      by_size true e =
          let some = ltb-true 0 last e in
          by_place (bisect-least ok last 1 last some (omega arith) above-stays) (ltb 1 u) refl
      by_size false e =
          let none = ltb-false 0 last e in
          let one = bisect-end ok last 1 last (omega arith) in
          found_none refs r last (omega arith)
          ∙ sym (last_none refs r (last - 1) 1 (λ j a b. absurd (omega arith)))

module _ (s : Shelf) (file : List ℕ) (r : ℕ) where
  -- where the numbers never fall, the search by halves gives the row in force
  pub found-is-row : NeverFalls s file → found s file r ≡ row_of s file r
  unfolding found row_of last_found last_row
  found-is-row never = ap (in_force s file) (last-found-in (ref_at s file) r (last_of s file) (rises s file never))

  -- what the search gives stands before the trailer, whatever the bytes are
  pub found_before : found s file r ≤ last_of s file - 1
  unfolding found last_found
  found_before =
      omega (
        arith,
        force-low s file (last_found_in (ref_at s file) (last_of s file) r),
        last-found-before (ref_at s file) r (last_of s file),
      )

  module _ (p : ℕ) (e : row_of s file r ≡ suc p) where
    stands : LastAt (ref_at s file) r (last_of s file - 1) 1 (suc p)
    unfolding row_of last_row
    stands = last_some (ref_at s file) r (last_of s file - 1) 1 p (force-some s file (last_row s file r) p e)

    -- a row in force stands between header and trailer and for the number
    pub row-of-some : (1 ≤ suc p) × (suc p < last_of s file) × (ref_at s file (suc p) ≡ r)
    row-of-some = (stands.from, omega (arith, stands.below), stands.here)

    -- it is the last that does
    pub row-of-last : (j : ℕ) → suc p < j → j < last_of s file → ref_at s file j ≡ r → ⊥
    row-of-last j h l k = stands.behind j h (omega arith) k
