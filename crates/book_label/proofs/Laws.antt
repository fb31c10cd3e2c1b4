-- Laws of what is shown of one delivery point of a book, and of the k-th.
-- Assumes nothing.
use Prim.Native.Nat.{ℕ, zero, suc, ◌-◌, ◌≤◌, ◌<◌}
use mathlib.Core.Path.{◌≡◌, refl, sym, ◌∙◌}
use mathlib.Core.Bool.{Bool, true, false}
use mathlib.Core.List.{List, [], ◌∷◌, ◌++◌}
use native.Mathlib.Omega.{arith}
use borrow.Author.Tests.{eq-eqb, ne_eqb}
use lib.ListN.{length, take, drop}
use Rattle.refusal.specs.declared.Reason.TheVariants.{NoSuchNumber}
use Rattle.refusal.specs.Outcome.{said}
use Rattle.refusal.proofs.Answers.{refused-value}
use Rattle.refusal.proofs.Outcomes.{answer-of}
use Rattle.file.specs.Check.{records}
use Rattle.file.specs.Formats.{point_format}
use Rattle.source.specs.Resolve.{Resolved, elements, refused}
use Rattle.label.specs.Label.{label_of, resolved_outcome}
use Rattle.label.proofs.Room.{room_within}
use Rattle.label.proofs.Bounds.{at-most-499}
use Rattle.item.specs.Item.{resolved_text}
use Rattle.item_write.specs.Headed.{before, headed, Small}
use Rattle.item_write.proofs.Headed.{item-over, item-small, telling, bounded}
use Rattle.changes_source.specs.Rows.{table_lookup}
use Rattle.changes_source.specs.Addresses.{address_at}
use Rattle.changes_meaning.proofs.Meant.{address-fits}
use Rattle.book_source.specs.Source.{place_line}
use Rattle.book_source.specs.Starts.{records_at, place_before, start_among, Inside}
use Rattle.book_source.proofs.Records.{two_records}
use Rattle.book_label.specs.Shown.{resolved_from, shown_of, shown_from, Standing}
use Rattle.std.specs.Prelude.{Ok}
use Rattle.refusal.specs.Answer.{Answer, refusal}

-- what is answered with its bytes fits
shown-within : (listed : Bool) (place : ℕ) (r : Resolved) (out : List ℕ) (b : ℕ)
    → (shown_of listed place r out).answer ≡ Ok b
    → b ≤ length (shown_of listed place r out).memory
shown-within true place r out b e = room_within (place_line place ++ resolved_text r) out b e
shown-within false place (elements x) out b e = room_within (label_of x) out b e
shown-within false place (refused why) out b e = absurd (refused-value 0 b why e)

module _ (listed : Bool) (table book : List ℕ) (at : ℕ) (out : List ℕ) where
  pub shown-none : at ≡ 0 → shown_from listed table book at out ≡ said (refusal 0 NoSuchNumber) out
  unfolding shown_from
  shown-none e = rw (eq-eqb at 0 e)

  pub shown-some : (at ≡ 0 → ⊥)
      → shown_from listed table book at out ≡ shown_of listed (place_before book at) (resolved_from table book at) out
  unfolding shown_from
  shown-some there = rw (ne_eqb at 0 there)

  -- what is answered with its bytes is a delivery point's, and fits
  module _ (b : ℕ) (e : (shown_from listed table book at out).answer ≡ Ok b) where
    pub shown-there : at ≡ 0 → ⊥
    shown-there z = refused-value 0 b NoSuchNumber (sym (answer-of (shown-none z)) ∙ e)

    pub shown-fits : b ≤ length (shown_from listed table book at out).memory
    shown-fits =
        let is = shown-some shown-there in
        rw is (shown-within listed (place_before book at) (resolved_from table book at) out b (sym (answer-of is) ∙ e))

-- a record that another follows, as code asks for its label
pub record-first : (book : List ℕ) (at : ℕ) → Inside book at → 0 < records point_format (records_at book at) - 1
record-first book at inside = omega (arith, two_records book at inside)

-- the label was asked behind the place of its line, came to `a` and left `y`
module _ (table book : List ℕ) (at : ℕ) (out : List ℕ) (s : Standing table book at) (there : at ≡ 0 → ⊥) {a : Answer}
    {y : List ℕ}
    (asked : said a y ≡ shown_from false table book at (drop (before (place_line (place_before book at)) (length out)) out))
  where
    abbrev line : List ℕ
    line = place_line (place_before book at)

    came : said a y ≡ resolved_outcome (resolved_from table book at) (drop (before line (length out)) out)
    came = asked ∙ shown-some false table book at _ there

    pub asked-small : Small a
    asked-small =
        let address = address_at (records_at book at) 0 0 in
        let short =
        at-most-499 _ (address-fits table (records_at book at) s.of_table 0 (record-first book at (s.inside there)) 0) in
        item-small (resolved_from table book at) _ (telling (table_lookup table) address)
        (bounded (table_lookup table) address (omega (arith, short))) came

    pub asked-item : headed line a (take (before line (length out)) out ++ y) ≡ shown_from true table book at out
    asked-item =
        item-over line out (resolved_from table book at) (telling (table_lookup table) (address_at (records_at book at) 0 0)) came
        ∙ sym (shown-some true table book at out there)

-- one that is found among some is no further than they reach
pub among-within : (starts : List ℕ) (k : ℕ) → (start_among starts k ≡ 0 → ⊥) → k ≤ length starts
among-within starts zero there = omega arith
among-within [] (suc k) there = absurd (there refl)
among-within (at ∷ more) (suc zero) there = omega arith
among-within (at ∷ more) (suc (suc k)) there = omega (arith, among-within more (suc k) there)
