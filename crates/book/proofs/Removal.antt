-- A removal on the bytes is the removal among what is present: the places behind it fall by one.
-- Assumes nothing.
use Prim.Native.Nat.{ℕ, suc, ◌+◌, ◌-◌, ◌≤◌, ◌<◌}
use mathlib.Core.Path.{◌≡◌, refl, sym, ap, ap₂, subst, ◌∙◌}
use mathlib.Core.Bool.{Bool, true, false, cond}
use mathlib.Core.List.{List}
use native.Mathlib.Omega.{arith}
use borrow.Author.Tests.{lt-ltb, le-ltb, ltb-true, ltb-false, eq-eqb, ne_eqb}
use lib.Dec.{ltb, eqb}
use lib.ListN.{length}
use Rattle.field.specs.Test.{only}
use Rattle.file_compare.proofs.Order.{by_bytes}
use Rattle.refusal.specs.Outcome.{said}
use Rattle.book.specs.Layout.{slots, slot_width, slot_at, count_of, place_of, view_of, zeros, laid}
use Rattle.book.specs.Book.{identity, well_kept, keeper}
use Rattle.book.specs.Meaning.{present_in, present_from, means}
use Rattle.book.specs.Event.{remove, without, step_of, lowered, slot_removed, place_kept, removal}
use Rattle.book.specs.Agrees.{Changed, StepAgrees}
use Rattle.book.proofs.Laid.{
  slot-long,
  zeros-long,
  zeros-only,
  zeros-place,
  lowered-place,
  lowered-present,
  lowered-wide,
}
use Rattle.book.proofs.Good.{Good, BookFacts, keeps-used, keeper-of, at_place, present-slot}
use Rattle.book.proofs.Listed.{present-without}
use Rattle.book.proofs.Again.{laid-book, laid-means}
use Rattle.book.proofs.Lookup.{lookup-agrees}
use Rattle.std.specs.Prelude.{Ok}

-- the place that fell to q where p went
raised : (p q : ℕ) → ℕ
raised p q = cond (ltb q p) q (suc q)

raised_below : (p q : ℕ) → q < p → raised p q ≡ q
unfolding raised
raised_below p q h = simp (lt-ltb q p h)

raised-above : (p q : ℕ) → p ≤ q → raised p q ≡ suc q
unfolding raised
raised-above p q h = simp (le-ltb q p h)

raised-range : (p q : ℕ) → (q ≤ raised p q) × (raised p q ≤ suc q)
unfolding raised
raised-range p q = by-test (ltb q p)
  where
    by-test : (t : Bool) → (q ≤ cond t q (suc q)) × (cond t q (suc q) ≤ suc q)
    by-test true = (omega arith, omega arith)
    by-test false = (omega arith, omega arith)

module _ (f : ℕ → List ℕ) (p : ℕ) where
  abbrev fall : ℕ → List ℕ
  fall s = cond (eqb (place_of (f s)) p) (zeros slot_width) (cond (ltb p (place_of (f s))) (lowered (f s)) (f s))

  -- a slot goes, falls or stays
  fall-at : (s : ℕ) → place_of (f s) ≡ p → fall s ≡ zeros slot_width
  fall-at s e = rw (eq-eqb (place_of (f s)) p e) refl

  fall-above : (s : ℕ) → p < place_of (f s) → fall s ≡ lowered (f s)
  fall-above s h = simp (ne_eqb (place_of (f s)) p (λ e. omega arith), lt-ltb p (place_of (f s)) h)

  fall-below : (s : ℕ) → place_of (f s) < p → fall s ≡ f s
  fall-below s h = simp (ne_eqb (place_of (f s)) p (λ e. omega arith), le-ltb p (place_of (f s)) (omega arith))

  fall-cases : (P : List ℕ → Type 0) (s : ℕ) → (place_of (f s) ≡ p → P (zeros slot_width))
      → (p < place_of (f s) → P (lowered (f s)))
      → (place_of (f s) < p → P (f s))
      → P (fall s)
  fall-cases P s here above below =
      by_bytes (place_of (f s)) p
      (λ h. subst P (sym (fall-below s h)) (below h))
      (λ h. subst P (sym (fall-at s h)) (here h))
      (λ h. subst P (sym (fall-above s h)) (above h))

  pub fall-wide : (s : ℕ) → length (f s) ≡ slot_width → length (fall s) ≡ slot_width
  fall-wide s wide =
      fall-cases (λ l. length l ≡ slot_width) s (λ h. zeros-long slot_width) (λ h. lowered-wide (f s) wide) (λ h. wide)

  -- of n places, one more than are left
  module _ (n m : ℕ) (good : Good f n) (size : n ≡ suc m) (few : n ≤ slots) (some : 1 ≤ p) (within : p ≤ n) where
    small : (s : ℕ) → s < slots → place_of (f s) ≤ 65_536
    small s h = omega (arith, good.placed s h)

    -- a slot that is used afterwards: where its place was, and who is present
    fell-from : (s : ℕ) → s < slots → 1 ≤ place_of (fall s) → place_of (f s) ≡ raised p (place_of (fall s))
    fell-from s h =
        fall-cases (λ l. 1 ≤ place_of l → place_of (f s) ≡ raised p (place_of l)) s
        (λ e u. absurd (omega (arith, zeros-place)))
        (λ k u.
        let low = lowered-place (f s) (small s h) in
        omega (arith, low, raised-above p (place_of (lowered (f s))) (omega (arith, low))))
        (λ k u. sym (raised_below p (place_of (f s)) k))

    fell-present : (s : ℕ) → 1 ≤ place_of (fall s) → present_in (fall s) ≡ present_in (f s)
    fell-present s =
        fall-cases (λ l. 1 ≤ place_of l → present_in l ≡ present_in (f s)) s
        (λ e u. absurd (omega (arith, zeros-place))) (λ k u. lowered-present (f s)) (λ k u. refl)

    fell-used : (s : ℕ) → s < slots → 1 ≤ place_of (fall s) → 1 ≤ place_of (f s)
    fell-used s h u = omega (arith, fell-from s h u, (raised-range p (place_of (fall s))).0)

    fell-id : (s : ℕ) → 1 ≤ place_of (fall s) → identity (view_of (fall s)) ≡ identity (view_of (f s))
    fell-id s u = ap (λ x. identity x.view) (fell-present s u)

    -- and the slot that has a place's old one has it
    fell-to : (s q : ℕ) → s < slots → place_of (f s) ≡ raised p q → place_of (fall s) ≡ q
    fell-to s q h e = by-test (ltb q p) refl
      where
        by-test : (t : Bool) → ltb q p ≡ t → place_of (fall s) ≡ q
        by-test true z =
            let same = raised_below p q (ltb-true q p z) in
            ap place_of (fall-below s (omega (arith, ltb-true q p z))) ∙ (e ∙ same)
        by-test false z =
            let same = raised-above p q (ltb-false q p z) in
            ap place_of (fall-above s (omega (arith, ltb-false q p z)))
            ∙ (lowered-place (f s) (small s h) ∙ omega arith)

    pub fall-good : Good fall m
    fall-good =
        record {
          placed =
              λ s h.
              fall-cases (λ l. place_of l ≤ m) s (λ e. omega (arith, zeros-place))
              (λ k. omega (arith, lowered-place (f s) (small s h), good.placed s h)) (λ k. omega arith);
          once =
              λ s t h k u q.
              good.once s t h k (fell-used s h u)
              (fell-from s h u ∙ (ap (raised p) q ∙ sym (fell-from t k (subst (1 ≤◌) q u))));
          held =
              λ q h k.
              let (s, low, e) = good.held (raised p q) (omega (arith, raised-range p q)) (omega (arith, raised-range p q)) in
              (s, low, fell-to s q low e);
          kept =
              λ s h u.
              ap (λ x. well_kept x.view x.follower) (fell-present s u) ∙ good.kept s h (fell-used s h u);
          apart =
              λ s t h k u v q.
              good.apart s t h k (fell-used s h u) (fell-used t k v) (sym (fell-id s u) ∙ (q ∙ fell-id t v));
          free =
              λ s h.
              fall-cases (λ l. place_of l ≡ 0 → only 0 l ≡ true) s (λ e z. zeros-only slot_width)
              (λ k z. absurd (omega (arith, lowered-place (f s) (small s h)))) (λ k z. good.free s h z);
        }

    fall-present : (q : ℕ) → 1 ≤ q → q ≤ m → at_place fall q ≡ at_place f (raised p q)
    fall-present q h k =
        let (s, low, e) = good.held (raised p q) (omega (arith, raised-range p q)) (omega (arith, raised-range p q)) in
        let to = fell-to s q low e in
        present-slot fall m fall-good s q low to h
        ∙ (fell-present s (omega arith)
        ∙ sym (present-slot f n good s (raised p q) low e (omega (arith, raised-range p q))))

    pub fall-listed : present_from fall m 1 ≡ without p (present_from f n 1)
    fall-listed =
        let k = p - 1 in
        let next : suc k ≡ p = omega arith in
        present-without f fall k m 1 (omega arith)
        (λ i h. fall-present (1 + i) (omega arith) (omega arith) ∙ ap (at_place f) (raised_below p (1 + i) (omega arith)))
        (λ i h l.
        let z : suc (1 + i) ≡ 1 + suc i = omega arith in
        fall-present (1 + i) (omega arith) (omega arith) ∙ ap (at_place f) (raised-above p (1 + i) (omega arith) ∙ z))
        ∙ ap₂ (λ q k. without q (present_from f k 1)) next (sym size)

module _ (book : List ℕ) (facts : BookFacts book) (id : List ℕ) where
  abbrev slot : ℕ → List ℕ
  slot = slot_at book

  abbrev n : ℕ
  n = count_of book

  abbrev p : ℕ
  p = place_kept book id

  abbrev after : ℕ → List ℕ
  after = slot_removed book p

  module _ (found : keeper slot id < slots) where
    used : 1 ≤ p
    used = keeps-used slot id (keeper slot id) (keeper-of slot id found)

    within : p ≤ n
    within = facts.good.placed (keeper slot id) found

    size : n ≡ suc (n - 1)
    size = omega (arith, used, within)

    fewer : n - 1 ≤ slots
    fewer = omega (arith, facts.few)

    wide : (s : ℕ) → s < slots → length (after s) ≡ slot_width
    wide s h = fall-wide slot p s (slot-long book facts.long s h)

    good : Good after (n - 1)
    good = fall-good slot p n (n - 1) facts.good size facts.few used within

    listed : present_from after (n - 1) 1 ≡ without p (means book)
    unfolding means
    listed = fall-listed slot p n (n - 1) facts.good size facts.few used within

    removed-agrees : Changed (said (Ok p) (laid after (n - 1))) p (without p (means book))
    removed-agrees =
        record {
          answer = refl;
          book = laid-book after (n - 1) wide fewer good;
          meaning = laid-means after (n - 1) wide fewer good ∙ listed;
        }

  pub removal-agrees : StepAgrees book (removal book id) (step_of (remove id) (means book))
  unfolding removal
  removal-agrees = lookup-agrees book facts id (laid after (n - 1)) (λ q. without q (means book)) removed-agrees
