-- Laws of what is shown of one row.
-- Assumes nothing.
use Prim.Native.Nat.{ℕ, ◌-◌, ◌≤◌, ◌<◌}
use mathlib.Core.Path.{◌≡◌, refl, sym, ap, subst, ◌∙◌}
use mathlib.Core.Bool.{Bool, true, false, cond}
use mathlib.Core.List.{List, [], ◌∷◌, ◌++◌}
use mathlib.Core.Option.{Option, none, some}
use native.Mathlib.Omega.{arith}
use borrow.Author.Tests.{eq-eqb, ne_eqb, ltb-true, ltb-false}
use lib.Dec.{eqb, ltb}
use lib.ListN.{length, take, drop, get_or, length-drop, drop_of_length-le}
use lib.Seq.{take_all}
use Rattle.field.specs.Text.{trim, part, text_in}
use Rattle.field.proofs.Fronts.{text_in-bound}
use Rattle.refusal.specs.declared.Reason.TheVariants.{NoSuchNumber, Combination}
use Rattle.refusal.specs.Outcome.{said}
use Rattle.refusal.proofs.Answers.{refused-value}
use Rattle.refusal.proofs.Outcomes.{afterwards-value}
use Rattle.run.specs.Series.{run_from}
use Rattle.run.proofs.Same.{same-run}
use Rattle.source.specs.Address.{Elements}
use Rattle.source.specs.Resolve.{Resolved, elements, refused}
use Rattle.label.specs.Label.{label_of, room_outcome}
use Rattle.label.proofs.Room.{room_within}
use Rattle.label.specs.Widths.{Slim}
use Rattle.label.proofs.Bounds.{slim-499}
use Rattle.item.specs.Lines.{worded}
use Rattle.item.specs.Item.{resolved_text}
use Rattle.item_write.specs.declared.Line.{Line}
use Rattle.item_write.specs.Line.{Holds}
use Rattle.item_write.specs.Headed.{before, headed, Small}
use Rattle.item_write.proofs.Headed.{Telling, Bounded, item-over, none_over, item-small, none-small}
use Rattle.csv_paf.specs.File.{fields_of, widths, csv_judged}
use Rattle.csv_paf.specs.Ask.{row_word, row_line, row_elements, forbidden_in, row_resolved, label_or, row_label, csv_label, csv_labels, row_item, csv_item, csv_list}
use Rattle.csv_spans.specs.Row.{GoodRow}
use Rattle.csv_spans.proofs.Laws.{short, postcode-length}
use Rattle.csv_label.specs.Shown.{resolved_at, shown_of, shown_row, rows_shown, RowPlace}
use Rattle.std.specs.Prelude.{Ok}
use Rattle.refusal.specs.Answer.{Answer, refusal}

-- ---- the line of a row

pub line-worded : (row : ℕ) → row_line row ≡ worded row_word row
unfolding row_line
line-worded row = refl

pub ap-short : {line : Line} {text other : List ℕ} → take line.len line.bytes ≡ other → Holds line text
    → length other ≤ 80
ap-short e h = subst (λ (t : List ℕ). length t ≤ 80) (sym h.is ∙ e) h.short

-- ---- a row by its place

module _ (csv : List ℕ) (place : ℕ) where
  pub no_row : length csv ≤ place → resolved_at csv place ≡ none
  no_row h = ap (λ (s : List ℕ). resolved_at s 0) (drop_of_length-le csv {i = place} h)

  pub some-row : place < length csv → resolved_at csv place ≡ some (row_resolved (drop place csv))
  some-row h = go (drop place csv) (omega (arith, h, length-drop place csv))
    where
      go : (bytes : List ℕ) → 0 < length bytes → resolved_at bytes 0 ≡ some (row_resolved bytes)
      go [] z = absurd (omega (arith, z))
      go (x ∷ xs) z = refl

  abbrev e : Elements
  e = row_elements (fields_of (drop place csv))

  module _ (out : List ℕ) where
    pub label-none : length csv ≤ place → label_or (resolved_at csv place) out ≡ said (refusal 0 NoSuchNumber) out
    label-none h = ap (λ (r : Option Resolved). label_or r out) (no_row h)

    module _ (h : place < length csv) where
      pub label-refused : {rule : ℕ} → rule ≡ forbidden_in e → (rule ≡ 0 → ⊥)
          → label_or (resolved_at csv place) out ≡ said (refusal 0 (Combination rule 0)) out
      unfolding row_resolved
      label-refused {rule} is some-rule =
          ap (λ (r : Option Resolved). label_or r out) (some-row h)
          ∙ (ap (λ (t : Bool). label_or (some (cond t (elements e) (refused (Combination (forbidden_in e) 0)))) out)
          (ne_eqb (forbidden_in e) 0 (λ z. some-rule (is ∙ z)))
          ∙ ap (λ (n : ℕ). said (refusal 0 (Combination n 0)) out) (sym is))

      pub label-printed : forbidden_in e ≡ 0 → label_or (resolved_at csv place) out ≡ room_outcome (label_of e) out
      unfolding row_resolved
      label-printed is =
          ap (λ (r : Option Resolved). label_or r out) (some-row h)
          ∙ ap (λ (t : Bool). label_or (some (cond t (elements e) (refused (Combination (forbidden_in e) 0)))) out)
          (eq-eqb (forbidden_in e) 0 is)

-- ---- what is answered with its bytes fits

resolved-within : (r : Resolved) (out : List ℕ) (b : ℕ) → (label_or (some r) out).answer ≡ Ok b
    → b ≤ length (label_or (some r) out).memory
resolved-within (elements x) out b q = room_within (label_of x) out b q
resolved-within (refused why) out b q = absurd (refused-value 0 b why q)

pub shown-within : (listed : Bool) (row : ℕ) (r : Option Resolved) (out : List ℕ) (b : ℕ)
    → (shown_of listed row r out).answer ≡ Ok b
    → b ≤ length (shown_of listed row r out).memory
shown-within true row none out b q = absurd (refused-value 0 b NoSuchNumber q)
shown-within true row (some r) out b q = room_within (row_line row ++ resolved_text r) out b q
shown-within false row none out b q = absurd (refused-value 0 b NoSuchNumber q)
shown-within false row (some r) out b q = resolved-within r out b q

-- and is of a row that is there
pub shown-there : (listed : Bool) (csv : List ℕ) (row place : ℕ) (out : List ℕ) (b : ℕ)
    → (shown_of listed row (resolved_at csv place) out).answer ≡ Ok b
    → place < length csv
shown-there listed csv row place out b q = by-test (ltb place (length csv)) refl
  where
    none-shown : (t : Bool) → (shown_of t row none out).answer ≡ Ok b → place < length csv
    none-shown true z = absurd (refused-value 0 b NoSuchNumber z)
    none-shown false z = absurd (refused-value 0 b NoSuchNumber z)

    by-test : (t : Bool) → ltb place (length csv) ≡ t → place < length csv
    by-test true z = ltb-true place (length csv) z
    by-test false z =
        none-shown listed
        (subst (λ (r : Option Resolved). (shown_of listed row r out).answer ≡ Ok b)
        (no_row csv place (ltb-false place (length csv) z)) q)

-- ---- a label of a good row is short

trim-short : (s : List ℕ) → length (trim s) ≤ length s
unfolding text_in
trim-short s =
    let whole : part s 0 (length s) ≡ s = take_all (length s - 0) s (omega arith) in
    omega (arith, ap (λ (t : List ℕ). length (trim t)) whole, text_in-bound s 0 (length s))

module _ (csv : List ℕ) (place : ℕ) (good : GoodRow csv place) where
  text-short : (n : ℕ) → n < 16 → length (trim (get_or (fields_of (drop place csv)) n [])) ≤ get_or widths n 0
  text-short n h = omega (arith, trim-short (get_or (fields_of (drop place csv)) n []), short good n h)

  pub row-slim : Slim (row_elements (fields_of (drop place csv)))
  unfolding row_elements
  row-slim =
      record {
        organisation = text-short 11 (omega arith);
        department = text-short 10 (omega arith);
        box = text-short 9 (omega arith);
        sub_building = text-short 8 (omega arith);
        building = text-short 7 (omega arith);
        dependent = omega (arith, text-short 5 (omega arith));
        thoroughfare = omega (arith, text-short 4 (omega arith));
        double_locality = text-short 3 (omega arith);
        dependent_locality = text-short 2 (omega arith);
        town = text-short 1 (omega arith);
        postcode = postcode-length good;
      }

  pub row-short : length (label_of (row_elements (fields_of (drop place csv)))) ≤ 499
  row-short = slim-499 (row_elements (fields_of (drop place csv))) row-slim

  abbrev this : Elements
  this = row_elements (fields_of (drop place csv))

  row-telling : Telling (row_resolved (drop place csv))
  unfolding row_resolved
  row-telling = by-test (eqb (forbidden_in this) 0)
    where
      by-test : (t : Bool) → Telling (cond t (elements this) (refused (Combination (forbidden_in this) 0)))
      by-test true = tt
      by-test false = (λ z. omega (arith, z), λ z. omega (arith, z))

  row-bounded : Bounded (row_resolved (drop place csv))
  unfolding row_resolved
  row-bounded = by-test (eqb (forbidden_in this) 0)
    where
      by-test : (t : Bool) → Bounded (cond t (elements this) (refused (Combination (forbidden_in this) 0)))
      by-test true = omega (arith, row-short)
      by-test false = tt

-- ---- the label was asked behind the place of its line, came to `a` and left `y`

module _ (csv : List ℕ) (place row : ℕ) (out : List ℕ) (p : RowPlace csv place) {a : Answer} {y : List ℕ}
    (asked : said a y ≡ label_or (resolved_at csv place) (drop (before (row_line row) (length out)) out)) where
  abbrev rest : List ℕ
  rest = drop (before (row_line row) (length out)) out

  as_row : place < length csv → said a y ≡ label_or (some (row_resolved (drop place csv))) rest
  as_row h = asked ∙ ap (λ (r : Option Resolved). label_or r rest) (some-row csv place h)

  pub asked-small : Small a
  asked-small = by-test (ltb place (length csv)) refl
    where
      by-test : (t : Bool) → ltb place (length csv) ≡ t → Small a
      by-test true q =
          let h = ltb-true place (length csv) q in
          item-small (row_resolved (drop place csv)) rest (row-telling csv place (p.good h)) (row-bounded csv place (p.good h))
          (as_row h)
      by-test false q = none-small (asked ∙ label-none csv place rest (ltb-false place (length csv) q))

  pub asked-item : headed (row_line row) a (take (before (row_line row) (length out)) out ++ y)
      ≡ shown_of true row (resolved_at csv place) out
  asked-item = by-test (ltb place (length csv)) refl
    where
      by-test : (t : Bool) → ltb place (length csv) ≡ t
          → headed (row_line row) a (take (before (row_line row) (length out)) out ++ y)
          ≡ shown_of true row (resolved_at csv place) out
      by-test true q =
          let h = ltb-true place (length csv) q in
          item-over (row_line row) out (row_resolved (drop place csv)) (row-telling csv place (p.good h)) (as_row h)
          ∙ sym (ap (λ (r : Option Resolved). shown_of true row r out) (some-row csv place h))
      by-test false q =
          let h = ltb-false place (length csv) q in
          none_over (row_line row) out (asked ∙ label-none csv place rest h)
          ∙ sym (ap (λ (r : Option Resolved). shown_of true row r out) (no_row csv place h))

-- ---- where the file is accepted

module _ (csv : List ℕ) {n : ℕ} (accepted : csv_judged csv ≡ Ok n) where
  pub label-asked : (row : ℕ) (out : List ℕ) → row_label csv row out ≡ csv_label csv row out
  unfolding csv_label
  label-asked row out = sym (afterwards-value refusal out _ accepted)

  item-asked : (row : ℕ) (out : List ℕ) → row_item csv row out ≡ csv_item csv row out
  unfolding csv_item
  item-asked row out = sym (afterwards-value refusal out _ accepted)

  pub rows-shown : (listed : Bool) (first count : ℕ) (out : List ℕ)
      → run_from (shown_row listed csv) first count out ≡ rows_shown listed csv first count out
  unfolding csv_list csv_labels row_item row_label
  rows-shown true first count out =
      same-run _ _ item-asked count first out ∙ sym (afterwards-value refusal out _ accepted)
  rows-shown false first count out =
      same-run _ _ label-asked count first out ∙ sym (afterwards-value refusal out _ accepted)
