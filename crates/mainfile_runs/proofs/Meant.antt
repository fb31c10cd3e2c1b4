-- What is shown by the numbers of records is what is asked of the source that a set is.
-- Assumes nothing.
use Prim.Native.Nat.{ℕ, zero, suc, ◌+◌, ◌≤◌}
use mathlib.Core.Path.{◌≡◌, refl, sym, ap, ◌∙◌}
use mathlib.Core.Bool.{Bool, true, false, cond}
use mathlib.Core.List.{List, ◌++◌}
use mathlib.Core.Option.{Option}
use native.Mathlib.Omega.{arith}
use borrow.Author.Tests.{ltb-true, ltb-false}
use lib.Dec.{ltb}
use Rattle.file_record.specs.Parts.{record_at}
use Rattle.field_outward.specs.Outward.{outward_fault}
use Rattle.refusal.specs.Outcome.{Outcome}
use Rattle.refusal.proofs.Outcomes.{afterwards-value}
use Rattle.source.specs.Address.{Address}
use Rattle.source.specs.Resolve.{Resolved, resolve}
use Rattle.label.specs.Label.{room_outcome}
use Rattle.run.specs.Series.{run_from}
use Rattle.item.specs.Item.{resolved_text, item_outcome}
use Rattle.ask.specs.Source.{in_code}
use Rattle.ask.specs.Labels.{kth}
use Rattle.ask.specs.Lists.{resolved_of, kth_item, view_item, code_item, heading_or, headings}
use Rattle.ask.proofs.Laws.{by-good-code}
use Rattle.ask.specs.Shown.{views_shown, code_shown}
use Rattle.ask.proofs.Shown as Shown
use Rattle.ask.proofs.Shown.{AsksViews, AsksCode}
use Rattle.mainfile.specs.Set.{Set, set_judged}
use Rattle.mainfile.specs.Rows.{set_lookup}
use Rattle.mainfile.specs.Addresses.{address_of, addresses_from, addresses_in}
use Rattle.mainfile.specs.Main.{number_line, main_of}
use Rattle.mainfile_check.proofs.Laws.{set-accepted}
use Rattle.mainfile_views.specs.Range.{views_in, first_in, many_in}
use Rattle.mainfile_views.proofs.Together.{in-code-range, range-low}
use Rattle.mainfile_label.proofs.Laws.{resolve-number, kth-zero, kth-there, kth-none, view-by-place, code-by-place}
use Rattle.mainfile_runs.specs.Shown.{shown_at, shown_among}
use Rattle.mainfile_runs.proofs.Laws.{shown-none, shown-some, shown-label}
use Rattle.std.specs.Prelude.{Ok}
use Rattle.refusal.specs.Answer.{Answer, refusal}

-- ---- items

module _ (s : Set) where
  abbrev line : Address → List ℕ
  line = (main_of s).heading

  -- the item of an address that may be there
  item_of : Option Address → List ℕ → Outcome Answer
  item_of o out = item_outcome (heading_or line o) (resolved_of (set_lookup s) o) out

  -- the number of an address is that of its record
  line-is : (n : ℕ) (rec : List ℕ) → line (address_of n rec s.organisations) ≡ number_line n
  unfolding address_of
  line-is n rec = refl

  -- the item of the record of the k-th of m addresses from record n on is the k-th's
  item-is-kth : (n m k : ℕ) (out : List ℕ) → 1 ≤ n
      → shown_among true s n m k out
      ≡ kth_item (headings line (addresses_from s m n)) (set_lookup s) (addresses_from s m n) k out
  unfolding kth_item item_of
  item-is-kth n m zero out low = shown-none true s 0 out refl ∙ sym (ap (λ o. item_of o out) (kth-zero s m n))
  item-is-kth n m (suc j) out low = by-test (ltb j m) refl
    where
      place : ℕ
      place = n + j

      rec : List ℕ
      rec = record_at 88 s.addresses place

      here : Address
      here = address_of place rec s.organisations

      by-test : (t : Bool) → ltb j m ≡ t
          → shown_at true s (cond t place 0) out ≡ item_of (kth (addresses_from s m n) (suc j)) out
      by-test true e =
          shown-some true s place out (λ z. omega arith)
          ∙ (ap (λ (r : Resolved). room_outcome (number_line place ++ resolved_text r) out)
          (resolve-number (set_lookup s) rec s.organisations 0 place)
          ∙ (ap (λ (l : List ℕ). room_outcome (l ++ resolved_text (resolve (set_lookup s) here)) out)
          (sym (line-is place rec))
          ∙ sym (ap (λ o. item_of o out) (kth-there s m n j (ltb-true j m e)))))
      by-test false e =
          shown-none true s 0 out refl ∙ sym (ap (λ o. item_of o out) (kth-none s m n j (ltb-false j m e)))

-- ---- where the files are accepted

module _ (s : Set) {n : ℕ} (taken : set_judged s ≡ Ok n) where
  view-item : (k : ℕ) (out : List ℕ)
      → shown_among true s 1 (views_in s.addresses) k out
      ≡ view_item (headings (main_of s).heading (main_of s).views) (main_of s) k out
  unfolding view_item addresses_in
  view-item k out =
      item-is-kth s 1 (views_in s.addresses) k out (omega arith) ∙ sym (afterwards-value refusal out _ taken)

  code-item : (code : List ℕ) → outward_fault code ≡ 0 → (k : ℕ) (out : List ℕ)
      → shown_among true s (first_in s.addresses code) (many_in s.addresses code) k out
      ≡ code_item (headings (main_of s).heading (in_code code (main_of s).live)) (main_of s) code k out
  unfolding code_item
  code-item code clean k out =
      let a = (set-accepted s taken).addresses in
      item-is-kth s (first_in s.addresses code) (many_in s.addresses code) k out (range-low s code a)
      ∙ (ap (λ (views : List Address). kth_item (headings (main_of s).heading views) (set_lookup s) views k out)
      (sym (in-code-range s code a))
      ∙ sym (by-good-code refusal code out _ (main_of s) taken clean))

  pub asks-views : AsksViews (main_of s) (λ listed. shown_among listed s 1 (views_in s.addresses))
  asks-views = record { items = view-item; labels = λ k o. sym (shown-label s _ o) ∙ view-by-place s taken k o }

  pub asks-code : (code : List ℕ) → outward_fault code ≡ 0
      → AsksCode (main_of s) code (λ listed. shown_among listed s (first_in s.addresses code) (many_in s.addresses code))
  asks-code code clean =
      record {
        items = code-item code clean;
        labels = λ k o. sym (shown-label s _ o) ∙ code-by-place s taken code clean k o;
      }

  module _ (first count : ℕ) (out : List ℕ) where
    pub views-shown : (listed : Bool)
        → run_from (shown_among listed s 1 (views_in s.addresses)) first count out
        ≡ views_shown listed (main_of s) first count out
    views-shown = Shown.views-shown (main_of s) taken first count out _ asks-views

    module _ (code : List ℕ) where
      pub code-shown : outward_fault code ≡ 0 → (listed : Bool)
          → run_from (shown_among listed s (first_in s.addresses code) (many_in s.addresses code)) first count out
          ≡ code_shown listed (main_of s) code first count out
      code-shown clean = Shown.code-shown (main_of s) taken first count out code clean _ (asks-code code clean)
