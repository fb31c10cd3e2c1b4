-- Laws of places marked.
-- Assumes nothing.
use Prim.Native.Nat.{ℕ, ◌+◌, ◌≤◌, ◌<◌}
use mathlib.Core.Path.{◌≡◌, refl, sym, ap, ◌∙◌}
use mathlib.Core.Bool.{Bool, true, false, cond, not, ◌||◌, true≢false}
use mathlib.Core.List.{List}
use native.Mathlib.Omega.{arith}
use borrow.Author.Tests.{lt-ltb, le-ltb, ltb-true, ltb-false, eq-eqb, ne_eqb, eqb-true, eqb-false}
use lib.Dec.{eqb, ltb}
use lib.ListN.{get_or, set, replicate, length-replicate, get_or-replicate, length-set}
use lib.Seq.{get_or-set_same, get_or-set_other}
use Rattle.field.proofs.Tests.{or-true, or-false}
use Rattle.book.specs.Layout.{slots, place_of}
use Rattle.book.specs.Search.{first_from, all_from}
use Rattle.book.specs.Book.{has_place, holder, well_placed, is_held}
use Rattle.book.proofs.Search.{first_passes, first-most, first-before, first-none, all_same}
use Rattle.book_check.specs.Marked.{held_in, Marked, is_marked}
use Rattle.book_check.proofs.Kept.{placed-within}

module _ (slot : ℕ → List ℕ) where
  -- one is found among the first n
  held_found : (n p : ℕ) → held_in slot n p ≡ true → (m : ℕ) → n ≤ m → first_from (has_place slot p) m 0 < n
  held_found n p e m h =
      let f = first_from (has_place slot p) n 0 in
      let low : f < n = ltb-true f n e in
      let most =
      first-most (has_place slot p) m 0 f (omega arith) (omega (arith, low)) (first_passes (has_place slot p) n 0 (omega (arith, low))) in
      omega (arith, most, low)

  -- none is
  held-missed : (n p : ℕ) → held_in slot n p ≡ false → (t : ℕ) → t < n → has_place slot p t ≡ false
  held-missed n p e t h =
      first-before (has_place slot p) n 0 t (omega arith)
      (omega (arith, ltb-false (first_from (has_place slot p) n 0) n e))

  held_more : (n p : ℕ) → held_in slot (n + 1) p ≡ held_in slot n p || eqb (place_of (slot n)) p
  held_more n p = by_tests (held_in slot n p) (has_place slot p n) refl refl
    where
      by_tests : (a b : Bool) → held_in slot n p ≡ a → has_place slot p n ≡ b → held_in slot (n + 1) p ≡ a || b
      by_tests true b e k =
          lt-ltb (first_from (has_place slot p) (n + 1) 0) (n + 1) (omega (arith, held_found n p e (n + 1) (omega arith)))
      by_tests false true e k =
          lt-ltb (first_from (has_place slot p) (n + 1) 0) (n + 1)
          (omega (arith, first-most (has_place slot p) (n + 1) 0 n (omega arith) (omega arith) k))
      by_tests false false e k =
          le-ltb (first_from (has_place slot p) (n + 1) 0) (n + 1) (omega (arith, first-none (has_place slot p) (n + 1) 0 none))
        where
          none : (t : ℕ) → 0 ≤ t → t < 0 + (n + 1) → has_place slot p t ≡ false
          none t low high = by-test (ltb t n) refl
            where
              by-test : (c : Bool) → ltb t n ≡ c → has_place slot p t ≡ false
              by-test true h = held-missed n p e t (ltb-true t n h)
              by-test false h =
                  ap (has_place slot p) (let z : t ≡ n = omega (arith, ltb-false t n h) in z) ∙ k

  -- a slot is the first of its place where none before it has that
  pub first-held : (s : ℕ) → s < slots → eqb (holder slot (place_of (slot s))) s ≡ not (held_in slot s (place_of (slot s)))
  unfolding holder
  first-held s h = by-test (held_in slot s (place_of (slot s))) refl
    where
      by-test : (a : Bool) → held_in slot s (place_of (slot s)) ≡ a
          → eqb (first_from (has_place slot (place_of (slot s))) slots 0) s ≡ not a
      by-test true e = ne_eqb _ s (λ z. omega (arith, z, held_found s (place_of (slot s)) e slots (omega arith)))
      by-test false e = eq-eqb _ s here
        where
          most : first_from (has_place slot (place_of (slot s))) slots 0 ≤ s
          most =
              first-most (has_place slot (place_of (slot s))) slots 0 s (omega arith) (omega arith) (eq-eqb (place_of (slot s)) (place_of (slot s)) refl)

          here : first_from (has_place slot (place_of (slot s))) slots 0 ≡ s
          here = by_order (ltb (first_from (has_place slot (place_of (slot s))) slots 0) s) refl
            where
              by_order : (b : Bool) → ltb (first_from (has_place slot (place_of (slot s))) slots 0) s ≡ b
                  → first_from (has_place slot (place_of (slot s))) slots 0 ≡ s
              by_order true k =
                  let before = ltb-true (first_from (has_place slot (place_of (slot s))) slots 0) s k in
                  absurd
                  (true≢false
                  (sym (first_passes (has_place slot (place_of (slot s))) slots 0 (omega (arith, before)))
                  ∙ held-missed s (place_of (slot s)) e (first_from (has_place slot (place_of (slot s))) slots 0) before))
              by_order false k = omega (arith, most, ltb-false (first_from (has_place slot (place_of (slot s))) slots 0) s k)

  -- no place is marked before the first slot
  pub marked-none : Marked slot 0 (replicate 257 0)
  marked-none =
      record {
        size = length-replicate {A = ℕ} 257 0;
        mark = λ p low high. get_or-replicate {A = ℕ} 257 p 0 0 (omega arith);
      }

  module _ {s : ℕ} {marks : List ℕ} (m : Marked slot s marks) where
    pub marked-free : place_of (slot s) ≡ 0 → Marked slot (s + 1) marks
    marked-free e =
        record {
          size = m.size;
          mark =
              λ p low high.
              m.mark p low high
              ∙ ap (λ (t : Bool). cond t 1 0)
              (sym
              (held_more s p
              ∙ (ap (λ (t : Bool). held_in slot s p || t) (ne_eqb (place_of (slot s)) p (λ z. omega (arith, z)))
              ∙ or-false (held_in slot s p))));
        }

    pub marked-new : 1 ≤ place_of (slot s) → place_of (slot s) ≤ slots → Marked slot (s + 1) (set marks (place_of (slot s)) 1)
    marked-new some few =
        record {
          size = length-set marks (place_of (slot s)) 1 ∙ m.size;
          mark = λ p low high. by-test p low high (eqb (place_of (slot s)) p) refl;
        }
      where
        by-test : (p : ℕ) → 1 ≤ p → p ≤ slots → (t : Bool) → eqb (place_of (slot s)) p ≡ t
            → get_or (set marks (place_of (slot s)) 1) p 0 ≡ cond (held_in slot (s + 1) p) 1 0
        by-test p low high true e =
            let same : place_of (slot s) ≡ p = eqb-true (place_of (slot s)) p e in
            ap (λ (k : ℕ). get_or (set marks (place_of (slot s)) 1) k 0) (sym same)
            ∙ (get_or-set_same marks (place_of (slot s)) 1 0 (omega (arith, m.size))
            ∙ ap (λ (t : Bool). cond t 1 0)
            (sym
            (held_more s p
            ∙ (ap (λ (t : Bool). held_in slot s p || t) e ∙ or-true (held_in slot s p)))))
        by-test p low high false e =
            get_or-set_other marks (place_of (slot s)) p 1 0 (λ z. eqb-false (place_of (slot s)) p e (sym z))
            ∙ (m.mark p low high
            ∙ ap (λ (t : Bool). cond t 1 0)
            (sym
            (held_more s p
            ∙ (ap (λ (t : Bool). held_in slot s p || t) e ∙ or-false (held_in slot s p)))))

    -- what a mark says of a slot
    mark-held : 1 ≤ place_of (slot s) → place_of (slot s) ≤ slots → (t : Bool) → eqb (get_or marks (place_of (slot s)) 0) 0 ≡ t
        → held_in slot s (place_of (slot s)) ≡ not t
    mark-held some few t e = by-test (held_in slot s (place_of (slot s))) (m.mark (place_of (slot s)) some few) e
      where
        by-test : (a : Bool) → get_or marks (place_of (slot s)) 0 ≡ cond a 1 0 → eqb (get_or marks (place_of (slot s)) 0) 0 ≡ t
            → a ≡ not t
        by-test true p q = ap not (sym (ne_eqb (get_or marks (place_of (slot s)) 0) 0 (λ z. omega (arith, z, p))) ∙ q)
        by-test false p q = ap not (sym (eq-eqb (get_or marks (place_of (slot s)) 0) 0 p) ∙ q)

    module _ (low : s < slots) (count : ℕ) (few : count ≤ slots) (some : 1 ≤ place_of (slot s)) (within : place_of (slot s) ≤ count) where
      placed_by : (t : Bool) → eqb (get_or marks (place_of (slot s)) 0) 0 ≡ t → well_placed slot count s ≡ t
      placed_by t e =
          placed-within slot s count within
          ∙ (ap (λ (a : Bool). eqb (holder slot (place_of (slot s))) s || a) (ne_eqb (place_of (slot s)) 0 (λ z. omega (arith, z)))
          ∙ (or-false (eqb (holder slot (place_of (slot s))) s)
          ∙ (first-held s low ∙ (ap not (mark-held some (omega arith) t e) ∙ twice t))))
        where
          twice : (a : Bool) → not (not a) ≡ a
          twice true = refl
          twice false = refl

      pub placed-twice : (get_or marks (place_of (slot s)) 0 ≡ 0 → ⊥) → well_placed slot count s ≡ false
      placed-twice n = placed_by false (ne_eqb (get_or marks (place_of (slot s)) 0) 0 n)

      pub placed_first : get_or marks (place_of (slot s)) 0 ≡ 0 → well_placed slot count s ≡ true
      placed_first e = placed_by true (eq-eqb (get_or marks (place_of (slot s)) 0) 0 e)

  pub placed-free : (s count : ℕ) → place_of (slot s) ≡ 0 → well_placed slot count s ≡ true
  placed-free s count e =
      placed-within slot s count (omega arith)
      ∙ (ap (λ (a : Bool). eqb (holder slot (place_of (slot s))) s || a) (eq-eqb (place_of (slot s)) 0 e)
      ∙ or-true (eqb (holder slot (place_of (slot s))) s))

  -- all slots are behind: a place is held where it is marked
  pub all_held : {marks : List ℕ} → Marked slot slots marks → (count : ℕ) → count ≤ slots
      → all_from (is_marked marks) count 1 ≡ all_from (is_held slot) count 1
  unfolding holder
  all_held {marks} m count few = all_same (is_marked marks) (is_held slot) count 1 each
    where
      each : (p : ℕ) → 1 ≤ p → p < 1 + count → is_marked marks p ≡ is_held slot p
      each p low high =
          ap (λ (n : ℕ). not (eqb n 0)) (m.mark p low (omega arith)) ∙ by-test (held_in slot slots p)
        where
          by-test : (a : Bool) → not (eqb (cond a 1 0) 0) ≡ a
          by-test true = refl
          by-test false = refl
