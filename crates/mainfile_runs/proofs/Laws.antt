-- Laws of what is shown of one record of a set, and of the next.
-- Assumes nothing.
use Prim.Native.Nat.{ℕ, zero, suc, ◌+◌, ◌≤◌, ◌<◌}
use mathlib.Core.Path.{◌≡◌, refl, sym, ◌∙◌}
use mathlib.Core.Bool.{Bool, true, false, cond}
use mathlib.Core.List.{List, ◌++◌}
use native.Mathlib.Omega.{arith}
use native.Mathlib.Numerals.{add-one}
use borrow.Author.Tests.{eq-eqb, ne_eqb, eqb-true, eqb-false, ltb-true, ltb-false, lt-ltb, le-ltb}
use lib.Dec.{eqb, ltb}
use lib.ListN.{length, take, drop}
use Rattle.file_record.specs.Parts.{record_at}
use Rattle.refusal.specs.declared.Reason.TheVariants.{NoSuchNumber}
use Rattle.refusal.specs.Outcome.{said}
use Rattle.refusal.proofs.Answers.{refused-value}
use Rattle.refusal.proofs.Outcomes.{answer-of}
use Rattle.source.specs.Resolve.{Resolved, elements, refused}
use Rattle.label.specs.Label.{label_of}
use Rattle.label.proofs.Room.{room_within}
use Rattle.item.specs.Item.{resolved_text}
use Rattle.item_write.specs.Headed.{before, headed, Small}
use Rattle.item_write.proofs.Headed.{Telling, Bounded, item-over, none_over, item-small, none-small, telling}
use Rattle.mainfile.specs.Set.{Set}
use Rattle.mainfile.specs.Rows.{set_lookup}
use Rattle.mainfile.specs.Addresses.{address_of}
use Rattle.mainfile.specs.Main.{number_line}
use Rattle.mainfile_label.specs.Places.{place_among, resolved_at, place_label, AddressPlace}
use Rattle.mainfile_label.proofs.Laws.{no_place, some-place}
use Rattle.mainfile_label.proofs.Fits.{Short, resolved-short}
use Rattle.mainfile_runs.specs.Shown.{shown_of, shown_at, place_behind}
use Rattle.std.specs.Prelude.{Ok}
use Rattle.refusal.specs.Answer.{Answer, refusal}

-- ---- one record

-- what is answered with its bytes fits
shown-within : (listed : Bool) (view : ℕ) (r : Resolved) (out : List ℕ) (b : ℕ)
    → (shown_of listed view r out).answer ≡ Ok b
    → b ≤ length (shown_of listed view r out).memory
shown-within true view r out b e = room_within (number_line view ++ resolved_text r) out b e
shown-within false view (elements x) out b e = room_within (label_of x) out b e
shown-within false view (refused why) out b e = absurd (refused-value 0 b why e)

module _ (listed : Bool) (s : Set) (place : ℕ) (out : List ℕ) where
  pub shown-none : place ≡ 0 → shown_at listed s place out ≡ said (refusal 0 NoSuchNumber) out
  unfolding shown_at
  shown-none e = rw (eq-eqb place 0 e)

  pub shown-some : (place ≡ 0 → ⊥) → shown_at listed s place out ≡ shown_of listed place (resolved_at s place) out
  unfolding shown_at
  shown-some there = rw (ne_eqb place 0 there)

  -- what is answered with its bytes is an address's, and fits
  module _ (b : ℕ) (e : (shown_at listed s place out).answer ≡ Ok b) where
    pub shown-there : place ≡ 0 → ⊥
    shown-there z = refused-value 0 b NoSuchNumber (sym (answer-of (shown-none z)) ∙ e)

    pub shown-fits : b ≤ length (shown_at listed s place out).memory
    shown-fits =
        let is = shown-some shown-there in
        rw is (shown-within listed place (resolved_at s place) out b (sym (answer-of is) ∙ e))

-- a label alone
pub shown-label : (s : Set) (place : ℕ) (out : List ℕ) → place_label s place out ≡ shown_at false s place out
unfolding place_label shown_at
shown-label s place out = refl

-- a label of at most 499 bytes can be added to
short-bounded : (r : Resolved) → Short r → Bounded r
short-bounded (elements e) h = omega (arith, h)
short-bounded (refused why) h = tt

-- the label was asked behind the place of its line, came to `a` and left `y`
module _ (s : Set) (place : ℕ) (out : List ℕ) (p : AddressPlace s place) {a : Answer} {y : List ℕ}
    (asked : said a y ≡ place_label s place (drop (before (number_line place) (length out)) out)) where
  abbrev rest : List ℕ
  rest = drop (before (number_line place) (length out)) out

  tells : Telling (resolved_at s place)
  tells = telling (set_lookup s) (address_of 0 (record_at 88 s.addresses place) s.organisations)

  pub asked-small : Small a
  asked-small = by-test (eqb place 0) refl
    where
      by-test : (t : Bool) → eqb place 0 ≡ t → Small a
      by-test true e = none-small (asked ∙ no_place s place rest (eqb-true place 0 e))
      by-test false e =
          item-small (resolved_at s place) rest tells
          (short-bounded (resolved_at s place) (resolved-short s p.accepted place (omega (arith, p.high))))
          (asked ∙ some-place s place rest (eqb-false place 0 e) _ refl)

  pub asked-item : headed (number_line place) a (take (before (number_line place) (length out)) out ++ y)
      ≡ shown_at true s place out
  asked-item = by-test (eqb place 0) refl
    where
      by-test : (t : Bool) → eqb place 0 ≡ t
          → headed (number_line place) a (take (before (number_line place) (length out)) out ++ y)
          ≡ shown_at true s place out
      by-test true e =
          let none = eqb-true place 0 e in
          none_over (number_line place) out (asked ∙ no_place s place rest none) ∙ sym (shown-none true s place out none)
      by-test false e =
          let there = eqb-false place 0 e in
          item-over (number_line place) out (resolved_at s place) tells (asked ∙ some-place s place rest there _ refl)
          ∙ sym (shown-some true s place out there)

-- ---- the next

-- the record of the next number is the record behind
pub next_place : (first many k : ℕ) → (place_among first many k ≡ 0 → ⊥)
    → place_among first many (k + 1) ≡ place_behind first many (place_among first many k)
next_place first many zero there = absurd (there refl)
next_place first many (suc j) there = rw (add-one (suc j)) (by-test (ltb j many) refl there)
  where
    by-test : (t : Bool) → ltb j many ≡ t → (cond t (first + j) 0 ≡ 0 → ⊥)
        → cond (ltb (suc j) many) (first + suc j) 0 ≡ place_behind first many (cond t (first + j) 0)
    by-test true e there = next (ltb (suc j) many) refl
      where
        next : (t : Bool) → ltb (suc j) many ≡ t → cond t (first + suc j) 0 ≡ place_behind first many (first + j)
        next true h =
            let on : first + suc j ≡ first + j + 1 = omega arith in
            on ∙ simp (lt-ltb (first + j + 1) (first + many) (omega (arith, ltb-true (suc j) many h)))
        next false h = simp (le-ltb (first + j + 1) (first + many) (omega (arith, ltb-false (suc j) many h)))
    by-test false e there = absurd (there refl)

-- a record that stands among others is no higher than they reach
pub place-within : (first many k : ℕ) → place_among first many k ≤ first + many
place-within first many zero = omega arith
place-within first many (suc j) = by-test (ltb j many) refl
  where
    by-test : (t : Bool) → ltb j many ≡ t → cond t (first + j) 0 ≤ first + many
    by-test true e = omega (arith, ltb-true j many e)
    by-test false e = omega arith

-- as code finds it
pub behind-some : (first many place : ℕ) → place + 1 < first + many → place + 1 ≡ place_behind first many place
behind-some first many place h = simp (lt-ltb (place + 1) (first + many) h)

pub behind-none : (first many place : ℕ) → first + many ≤ place + 1 → 0 ≡ place_behind first many place
behind-none first many place h = simp (le-ltb (place + 1) (first + many) h)
