-- When slots are a book's, as facts: they are what the tests decide, and they hold of slots that are the same.
-- Assumes nothing.
use Prim.Native.Nat.{ℕ, zero, suc, ◌+◌, ◌≤◌, ◌<◌}
use mathlib.Core.Path.{◌≡◌, refl, sym, ap, ap₂, subst, ◌∙◌}
use mathlib.Core.Bool.{Bool, true, false, cond, false≢true, not, ◌&&◌, ◌||◌}
use mathlib.Core.List.{List, ◌∷◌}
use native.Mathlib.Omega.{arith}
use native.Mathlib.Nat.{add-zero}
use borrow.Author.Tests.{lt-ltb, le-leb, eq-eqb, ne_eqb, ltb-true, leb-true, eqb-true, not-true, not-false}
use lib.Dec.{leb, eqb}
use lib.ListN.{length}
use Rattle.field.specs.Test.{only}
use Rattle.field.proofs.Tests.{and_left, and_right}
use Rattle.file_compare.specs.Order.{order, same}
use Rattle.file_compare.proofs.Order.{order_same, order-equal}
use Rattle.book.specs.Layout.{slots, book_length, slot_at, count_of, place_of, view_of, follower_of}
use Rattle.book.specs.Search.{all_from}
use Rattle.book.specs.Book.{
  identity,
  well_kept,
  used,
  has_place,
  holder,
  keeps,
  keeper,
  well_placed,
  is_held,
  slot_fine,
  slots_good,
  is_book,
}
use Rattle.book.specs.Meaning.{Present, present_in, present_from}
use Rattle.book.specs.Event.{free_in}
use Rattle.book.proofs.Search.{first_passes, first-most, first-only, all-each, each_all}

-- ---- tests

pub and_yes : {a b : Bool} → a ≡ true → b ≡ true → a && b ≡ true
and_yes e f = ap₂ ◌&&◌ e f

pub used-yes : (p : ℕ) → 1 ≤ p → not (eqb p 0) ≡ true
used-yes p h = rw (ne_eqb p 0 (λ e. omega arith))

pub used-is : (p : ℕ) → not (eqb p 0) ≡ true → 1 ≤ p
used-is zero e = absurd (false≢true e)
used-is (suc p) e = omega arith

pub unused-is : (p : ℕ) → not (eqb p 0) ≡ false → p ≡ 0
unused-is p e = eqb-true p 0 (not-false (eqb p 0) e)

pub same-yes : (a b : List ℕ) → a ≡ b → same a b ≡ true
same-yes a b e = eq-eqb (order a b) 0 (ap (order a) (sym e) ∙ order_same a)

pub same-is : (a b : List ℕ) → same a b ≡ true → a ≡ b
same-is a b e = order-equal a b (eqb-true (order a b) 0 e)

-- ---- slots that are searched

module _ (slot : ℕ → List ℕ) where
  pub holder-of : (p : ℕ) → holder slot p < slots → place_of (slot (holder slot p)) ≡ p
  unfolding holder
  holder-of p h = eqb-true (place_of (slot (holder slot p))) p (first_passes (has_place slot p) slots 0 h)

  pub holder-found : (s : ℕ) → s < slots → holder slot (place_of (slot s)) ≤ s
  unfolding holder
  holder-found s h =
      let place = place_of (slot s) in
      first-most (has_place slot place) slots 0 s (omega arith) h (eq-eqb place place refl)

  pub keeps-yes : (id : List ℕ) (s : ℕ) → 1 ≤ place_of (slot s) → identity (view_of (slot s)) ≡ id → keeps slot id s ≡ true
  keeps-yes id s u e = and_yes (used-yes (place_of (slot s)) u) (same-yes (identity (view_of (slot s))) id e)

  pub keeps-used : (id : List ℕ) (s : ℕ) → keeps slot id s ≡ true → 1 ≤ place_of (slot s)
  keeps-used id s e = used-is (place_of (slot s)) (and_left (used slot s) (same (identity (view_of (slot s))) id) e)

  pub keeps-id : (id : List ℕ) (s : ℕ) → keeps slot id s ≡ true → identity (view_of (slot s)) ≡ id
  keeps-id id s e =
      same-is (identity (view_of (slot s))) id (and_right (used slot s) (same (identity (view_of (slot s))) id) e)

  pub keeper-of : (id : List ℕ) → keeper slot id < slots → keeps slot id (keeper slot id) ≡ true
  unfolding keeper
  keeper-of id h = first_passes (keeps slot id) slots 0 h

  pub keeper-found : (id : List ℕ) (s : ℕ) → s < slots → keeps slot id s ≡ true → keeper slot id ≤ s
  unfolding keeper
  keeper-found id s h e = first-most (keeps slot id) slots 0 s (omega arith) h e

  pub free_of : free_in slot < slots → place_of (slot (free_in slot)) ≡ 0
  unfolding free_in
  free_of h =
      unused-is (place_of (slot (free_in slot)))
      (not-true (used slot (free_in slot)) (first_passes (λ s. not (used slot s)) slots 0 h))

  pub free-found : (s : ℕ) → s < slots → place_of (slot s) ≡ 0 → free_in slot ≤ s
  unfolding free_in
  free-found s h e =
      first-most (λ t. not (used slot t)) slots 0 s (omega arith) h (rw (eq-eqb (place_of (slot s)) 0 e))

-- ---- good slots

-- 1 up to n, each once; a used slot has a view and what follows it; a delivery point once; a free slot is zeros
pub record Good (slot : ℕ → List ℕ) (n : ℕ) : Type 0 where
  pub placed : (s : ℕ) → s < slots → place_of (slot s) ≤ n
  pub once : (s t : ℕ) → s < slots → t < slots → 1 ≤ place_of (slot s) → place_of (slot s) ≡ place_of (slot t) → s ≡ t
  pub held : (p : ℕ) → 1 ≤ p → p ≤ n → (s : ℕ) × (s < slots) × (place_of (slot s) ≡ p)
  pub kept : (s : ℕ) → s < slots → 1 ≤ place_of (slot s) → well_kept (view_of (slot s)) (follower_of (slot s)) ≡ true
  pub apart : (s t : ℕ) → s < slots → t < slots → 1 ≤ place_of (slot s) → 1 ≤ place_of (slot t)
      → identity (view_of (slot s)) ≡ identity (view_of (slot t))
      → s ≡ t
  pub free : (s : ℕ) → s < slots → place_of (slot s) ≡ 0 → only 0 (slot s) ≡ true

-- what is searched for is the one that there is
module _ (slot : ℕ → List ℕ) (n : ℕ) (good : Good slot n) (s : ℕ) (low : s < slots) (u : 1 ≤ place_of (slot s)) where
  pub holder-is : holder slot (place_of (slot s)) ≡ s
  unfolding holder
  holder-is =
      let place = place_of (slot s) in
      first-only (has_place slot place) slots 0 s (omega arith) low (eq-eqb place place refl)
      (λ t p q e. sym (good.once s t low q u (sym (eqb-true (place_of (slot t)) place e))))

  pub keeper-is : keeper slot (identity (view_of (slot s))) ≡ s
  unfolding keeper
  keeper-is =
      let id = identity (view_of (slot s)) in
      first-only (keeps slot id) slots 0 s (omega arith) low (keeps-yes slot id s u refl)
      (λ t p q e. good.apart t s q low (keeps-used slot id t e) u (keeps-id slot id t e))

-- ---- the tests decide it

-- one of two tests that the other does not excuse
or-not : (a b : Bool) → a || not b ≡ true → b ≡ true → a ≡ true
or-not true b e h = refl
or-not false true e h = e
or-not false false e h = h

or_cases : (a b : Bool) → (b ≡ true → a ≡ true) → a || not b ≡ true
or_cases true b h = refl
or_cases false true h = h refl
or_cases false false h = refl

cond_of : (t u a b : Bool) → cond t a b ≡ true → t ≡ u → cond u a b ≡ true
cond_of t u a b e h = subst (λ x. cond x a b ≡ true) h e

cond_cases : (t a b : Bool) → (t ≡ true → a ≡ true) → (t ≡ false → b ≡ true) → cond t a b ≡ true
cond_cases true a b h k = h refl
cond_cases false a b h k = k refl

module _ (slot : ℕ → List ℕ) (n : ℕ) where
  abbrev place_in : ℕ → ℕ
  place_in s = place_of (slot s)

  abbrev id_in : ℕ → List ℕ
  id_in s = identity (view_of (slot s))

  abbrev all_placed : Bool
  all_placed = all_from (well_placed slot n) slots 0

  abbrev all_held : Bool
  all_held = all_from (is_held slot) n 1

  abbrev all_fine : Bool
  all_fine = all_from (slot_fine slot) slots 0

  module _ (e : slots_good slot n ≡ true) where
    held-and-fine : all_held && all_fine ≡ true
    unfolding slots_good
    held-and-fine = and_right all_placed (all_held && all_fine) e

    well-placed : (s : ℕ) → s < slots → well_placed slot n s ≡ true
    unfolding slots_good
    well-placed s h = all-each (well_placed slot n) slots 0 (and_left all_placed (all_held && all_fine) e) s (omega arith) h

    is-held : (p : ℕ) → 1 ≤ p → p ≤ n → is_held slot p ≡ true
    is-held p h k = all-each (is_held slot) n 1 (and_left all_held all_fine held-and-fine) p h (omega arith)

    is-fine : (s : ℕ) → s < slots → slot_fine slot s ≡ true
    is-fine s h = all-each (slot_fine slot) slots 0 (and_right all_held all_fine held-and-fine) s (omega arith) h

    first-holder : (s : ℕ) → s < slots → 1 ≤ place_in s → holder slot (place_in s) ≡ s
    first-holder s h u =
        eqb-true (holder slot (place_in s)) s
        (or-not (eqb (holder slot (place_in s)) s) (used slot s) (and_right (leb (place_in s) n) _ (well-placed s h))
        (used-yes (place_in s) u))

    fine-used : (s : ℕ) → s < slots → 1 ≤ place_in s
        → well_kept (view_of (slot s)) (follower_of (slot s)) && eqb (keeper slot (id_in s)) s ≡ true
    unfolding slot_fine
    fine-used s h u = cond_of (used slot s) true _ (only 0 (slot s)) (is-fine s h) (used-yes (place_in s) u)

    first-keeper : (s : ℕ) → s < slots → 1 ≤ place_in s → keeper slot (id_in s) ≡ s
    first-keeper s h u =
        eqb-true (keeper slot (id_in s)) s (and_right (well_kept (view_of (slot s)) (follower_of (slot s))) _ (fine-used s h u))

    fine-free : (s : ℕ) → s < slots → place_in s ≡ 0 → only 0 (slot s) ≡ true
    unfolding slot_fine
    fine-free s h z = cond_of (used slot s) false _ (only 0 (slot s)) (is-fine s h) (rw (eq-eqb (place_in s) 0 z))

    pub good-slots : Good slot n
    good-slots =
        record {
          placed = λ s h. leb-true (place_in s) n (and_left (leb (place_in s) n) _ (well-placed s h));
          once =
              λ s t h k u q.
              sym (first-holder s h u) ∙ (ap (holder slot) q ∙ first-holder t k (subst (1 ≤◌) q u));
          held =
              λ p h k.
              let found : holder slot p < slots = ltb-true (holder slot p) slots (is-held p h k) in
              (holder slot p, found, holder-of slot p found);
          kept = λ s h u. and_left (well_kept (view_of (slot s)) (follower_of (slot s))) _ (fine-used s h u);
          apart = λ s t h k u v q. sym (first-keeper s h u) ∙ (ap (keeper slot) q ∙ first-keeper t k v);
          free = fine-free;
        }

  module _ (good : Good slot n) where
    place-well : (s : ℕ) → s < slots → well_placed slot n s ≡ true
    place-well s h =
        and_yes (le-leb (place_in s) n (good.placed s h))
        (or_cases (eqb (holder slot (place_in s)) s) (used slot s)
        (λ u. eq-eqb (holder slot (place_in s)) s (holder-is slot n good s h (used-is (place_in s) u))))

    place-held : (p : ℕ) → 1 ≤ p → p ≤ n → is_held slot p ≡ true
    place-held p h k =
        let (s, low, e) = good.held p h k in
        lt-ltb (holder slot p) slots (subst (λ q. holder slot q < slots) e (omega (arith, holder-found slot s low)))

    slot-fine : (s : ℕ) → s < slots → slot_fine slot s ≡ true
    unfolding slot_fine
    slot-fine s h =
        cond_cases (used slot s) _ (only 0 (slot s))
        (λ u.
        let some : 1 ≤ place_in s = used-is (place_in s) u in
        and_yes (good.kept s h some) (eq-eqb (keeper slot (id_in s)) s (keeper-is slot n good s h some)))
        (λ u. good.free s h (unused-is (place_in s) u))

    pub slots-good : slots_good slot n ≡ true
    unfolding slots_good
    slots-good =
        and_yes (each_all (well_placed slot n) slots 0 (λ s p q. place-well s q))
        (and_yes (each_all (is_held slot) n 1 (λ p h k. place-held p h (omega arith)))
        (each_all (slot_fine slot) slots 0 (λ s p q. slot-fine s q)))

-- ---- slots that are the same

module _ (f g : ℕ → List ℕ) (n : ℕ) (each : (s : ℕ) → s < slots → f s ≡ g s) (good : Good f n) where
  placed-back : (s : ℕ) → s < slots → 1 ≤ place_of (g s) → 1 ≤ place_of (f s)
  placed-back s h = subst (λ l. 1 ≤ place_of l → 1 ≤ place_of (f s)) (each s h) (λ u. u)

  pub good-same : Good g n
  good-same =
      record {
        placed = λ s h. subst (λ l. place_of l ≤ n) (each s h) (good.placed s h);
        once =
            λ s t h k u q.
            good.once s t h k (placed-back s h u) (ap place_of (each s h) ∙ (q ∙ ap place_of (sym (each t k))));
        held = λ p h k. let (s, low, q) = good.held p h k in (s, low, ap place_of (sym (each s low)) ∙ q);
        kept =
            λ s h u.
            subst (λ l. well_kept (view_of l) (follower_of l) ≡ true) (each s h) (good.kept s h (placed-back s h u));
        apart =
            λ s t h k u v q.
            good.apart s t h k (placed-back s h u) (placed-back t k v)
            (ap (λ l. identity (view_of l)) (each s h) ∙ (q ∙ ap (λ l. identity (view_of l)) (sym (each t k))));
        free = λ s h z. subst (λ l. only 0 l ≡ true) (each s h) (good.free s h (ap place_of (each s h) ∙ z));
      }

-- ---- who is present

-- at a place
abbrev pub at_place : (slot : ℕ → List ℕ) (p : ℕ) → Present
at_place slot p = present_in (slot (holder slot p))

pub present-slot : (slot : ℕ → List ℕ) (n : ℕ) → Good slot n → (s p : ℕ) → s < slots → place_of (slot s) ≡ p → 1 ≤ p
    → at_place slot p ≡ present_in (slot s)
present-slot slot n good s p low e u =
    ap (λ t. present_in (slot t)) (ap (holder slot) (sym e) ∙ holder-is slot n good s low (subst (1 ≤◌) (sym e) u))

-- a place further on, counted from the next
pub further : (p i : ℕ) → suc p + i ≡ p + suc i
further p i = omega arith

-- by places that have the same
pub present-each : (f g : ℕ → List ℕ) (n p q : ℕ)
    → ((i : ℕ) → i < n → at_place f (p + i) ≡ at_place g (q + i))
    → present_from f n p ≡ present_from g n q
present-each f g zero p q each = refl
present-each f g (suc n) p q each =
    ap₂ ◌∷◌
    (ap (at_place f) (sym (add-zero p)) ∙ (each 0 (omega arith) ∙ ap (at_place g) (add-zero q)))
    (present-each f g n (suc p) (suc q)
    (λ i h.
    ap (at_place f) (further p i) ∙ (each (suc i) (omega arith) ∙ ap (at_place g) (sym (further q i)))))

pub present-same : (f g : ℕ → List ℕ) (n : ℕ) → ((s : ℕ) → s < slots → f s ≡ g s) → Good f n
    → present_from f n 1 ≡ present_from g n 1
present-same f g n each good =
    present-each f g n 1 1
    (λ i h.
    let (s, low, e) = good.held (1 + i) (omega arith) (omega arith) in
    let d : place_of (g s) ≡ 1 + i = ap place_of (sym (each s low)) ∙ e in
    present-slot f n good s (1 + i) low e (omega arith)
    ∙ (ap present_in (each s low) ∙ sym (present-slot g n (good-same f g n each good) s (1 + i) low d (omega arith))))

-- ---- a book

pub record BookFacts (book : List ℕ) : Type 0 where
  pub long : length book ≡ book_length
  pub few : count_of book ≤ slots
  pub good : Good (slot_at book) (count_of book)

pub book-facts : (book : List ℕ) → is_book book ≡ true → BookFacts book
unfolding is_book
book-facts book e =
    let rest = and_right (eqb (length book) book_length) _ e in
    record {
      long = eqb-true (length book) book_length (and_left (eqb (length book) book_length) _ e);
      few = leb-true (count_of book) slots (and_left (leb (count_of book) slots) _ rest);
      good = good-slots (slot_at book) (count_of book) (and_right (leb (count_of book) slots) _ rest);
    }

pub facts-book : (book : List ℕ) → BookFacts book → is_book book ≡ true
unfolding is_book
facts-book book facts =
    and_yes (eq-eqb (length book) book_length facts.long)
    (and_yes (le-leb (count_of book) slots facts.few) (slots-good (slot_at book) (count_of book) facts.good))
