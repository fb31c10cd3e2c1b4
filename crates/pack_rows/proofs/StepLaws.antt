-- Laws of steps over rows that are fine as far as their lengths and the ends of their texts go.
-- Assumes nothing.
use Prim.Native.Nat.{ℕ, ◌+◌, ◌≤◌, ◌<◌}
use mathlib.Core.Path.{◌≡◌, sym, ap, ◌∙◌}
use mathlib.Core.Bool.{true, false, not, ◌&&◌}
use mathlib.Core.List.{List, [], ◌∷◌}
use native.Mathlib.Omega.{arith}
use borrow.Author.Tests.{ne_eqb}
use lib.Dec.{eqb}
use lib.ListN.{length, get_or}
use Rattle.std.proofs.lemmas.Grind.{common_steps}
use Rattle.pack.specs.Opening.{Slot, slot, slots_of, text_good, text_end, text_at, texts_good, row_kind, row_end, double_good, row_good}
use Rattle.pack_rows.specs.Odds.{odd, odds, odds_before}
use Rattle.pack_rows.specs.Steps.{Stepped}
use Rattle.pack_rows.specs.declared.fine.Step.{Step}
use Rattle.pack_rows.proofs.Texts.{kind-end}
use Rattle.pack_rows.proofs.OddLaws.{odd_low, odds-next, odds-text}
use Rattle.pack_rows.proofs.EndLaws.{text-empty}

-- the count over a text and its length byte
text-counted : (rows : List ℕ) (at : ℕ) → text_end rows at ≤ length rows
    → odds_before rows (text_end rows at) ≡ odds_before rows at + odd (get_or rows at 0) + odds (text_at rows at)
text-counted rows at room = odds-text rows at ∙ ap (◌+ odds (text_at rows at)) (odds-next rows at (omega arith))

-- a text is good where none of its bytes is counted
abbrev pub GoodThen : List ℕ → ℕ → Slot → Type 0
GoodThen rows at s = odds (text_at rows at) ≡ 0 → text_good s (text_at rows at) ≡ true

module _ (rows : List ℕ) (at : ℕ) (h : at < length rows) (small : row_kind rows at ≤ 6) where
  kind-counted : odds_before rows (at + 1) ≡ odds_before rows at + 1
  kind-counted = odds-next rows at h ∙ ap (odds_before rows at +◌) (odd_low (row_kind rows at) (omega arith))

  row-is-good : texts_good rows (slots_of (row_kind rows at)) (at + 1) ≡ true → double_good rows at ≡ true
      → row_end rows at ≤ length rows → (low : ℕ) → low ≤ row_kind rows at → row_good rows low at ≡ true
  unfolding row_good
  row-is-good texts double room low l = grind (arith, common_steps)

  -- a row of one text
  module _ (w : ℕ) (slots : slots_of (row_kind rows at) ≡ slot w false ∷ []) (other : 2 ≤ row_kind rows at) where
    pub text-stepped : (s : Step) (n : ℕ) → s.end ≡ text_end rows (at + 1) → s.odds ≡ 1 + n
        → text_end rows (at + 1) ≤ length rows → n ≤ odd (get_or rows (at + 1) 0) → GoodThen rows (at + 1) (slot w false)
        → Stepped rows at s
    text-stepped s n end count room fits good =
        let here = text-counted rows (at + 1) room in
        let ends : text_end rows (at + 1) ≡ row_end rows at = rw slots in
        record {
          end = end ∙ ends;
          within = rw end room;
          counted = rw (end, count) (omega (arith, here, kind-counted));
          good = λ e.
              row-is-good
              (let all = good (omega (arith, here, kind-counted, rw (end, count) at e)) in rw slots (simp all))
              (simp (ne_eqb (row_kind rows at) 1 (λ e. absurd (omega arith))))
              (rw (sym ends) room);
        }

  -- a row of two texts that may be empty
  module _ (kind : row_kind rows at ≡ 6) where
    abbrev department : ℕ
    department = text_end rows (at + 1)

    pub organisation-stepped : (s : Step) (n m : ℕ) → s.end ≡ text_end rows department → s.odds ≡ 1 + n + m
        → text_end rows department ≤ length rows → n ≤ odd (get_or rows (at + 1) 0) → m ≤ odd (get_or rows department 0)
        → GoodThen rows (at + 1) (slot 60 true) → GoodThen rows department (slot 60 true) → Stepped rows at s
    organisation-stepped s n m end count room fits fits₂ good good₂ =
        let here = text-counted rows (at + 1) (omega arith) in
        let then = text-counted rows department room in
        let ends : text_end rows department ≡ row_end rows at = kind-end rows at 6 kind in
        record {
          end = end ∙ ends;
          within = rw end room;
          counted = rw (end, count) (omega (arith, here, then, kind-counted));
          good = λ e.
              let e = rw (end, count) at e in
              row-is-good
              (let all = good (omega (arith, here, then, kind-counted, e)) in
              let all₂ = good₂ (omega (arith, here, then, kind-counted, e)) in
              rw (ap slots_of kind) (simp (all, all₂)))
              (simp (ne_eqb (row_kind rows at) 1 (λ e. absurd (omega arith))))
              (rw (sym ends) room);
        }

  -- a row of three texts, the first of which may not be empty
  module _ (kind : row_kind rows at ≡ 1) where
    abbrev dependent : ℕ
    dependent = text_end rows (at + 1)

    abbrev double : ℕ
    double = text_end rows dependent

    double-is-good : text_end rows double ≤ length rows
        → not (eqb (get_or rows dependent 0) 0 && not (eqb (get_or rows double 0) 0)) ≡ true → double_good rows at ≡ true
    double-is-good room alone =
        let first = text-empty rows dependent (omega arith) in
        let second = text-empty rows double room in
        grind (arith, common_steps)

    pub locality-stepped : (s : Step) (n m k : ℕ) → s.end ≡ text_end rows double → s.odds ≡ 1 + n + m + k
        → text_end rows double ≤ length rows
        → n ≤ odd (get_or rows (at + 1) 0) → m ≤ odd (get_or rows dependent 0) → k ≤ odd (get_or rows double 0)
        → GoodThen rows (at + 1) (slot 30 false) → GoodThen rows dependent (slot 35 true) → GoodThen rows double (slot 35 true)
        → not (eqb (get_or rows dependent 0) 0 && not (eqb (get_or rows double 0) 0)) ≡ true → Stepped rows at s
    locality-stepped s n m k end count room fits fits₂ fits₃ good good₂ good₃ alone =
        let here = text-counted rows (at + 1) (omega arith) in
        let then = text-counted rows dependent (omega arith) in
        let last = text-counted rows double room in
        let ends : text_end rows double ≡ row_end rows at = kind-end rows at 1 kind in
        record {
          end = end ∙ ends;
          within = rw end room;
          counted = rw (end, count) (omega (arith, here, then, last, kind-counted));
          good = λ e.
              let e = rw (end, count) at e in
              row-is-good
              (let all = good (omega (arith, here, then, last, kind-counted, e)) in
              let all₂ = good₂ (omega (arith, here, then, last, kind-counted, e)) in
              let all₃ = good₃ (omega (arith, here, then, last, kind-counted, e)) in
              rw (ap slots_of kind) (simp (all, all₂, all₃)))
              (double-is-good room alone)
              (rw (sym ends) room);
        }
