-- Document 02, No. 13: rows that no view refers to change no label, no run, no listing, no pack and no refusal.
-- Assumes nothing.
use Prim.Native.Nat.{ℕ, zero, suc, ◌+◌, ◌-◌, ◌/◌, ◌≤◌}
use mathlib.Core.Path.{◌≡◌, refl, sym, ap, ap₂, ◌∙◌}
use mathlib.Core.List.{List, [], ◌∷◌}
use native.Mathlib.Omega.{arith}
use lib.ListN.{length}
use Rattle.file_record.specs.Parts.{record_at}
use Rattle.refusal.specs.Verdict.{or_else}
use Rattle.refusal.proofs.Outcomes.{afterwards-value}
use Rattle.file.specs.Formats.{table_format, point_format}
use Rattle.file.specs.Accepted.{Accepted}
use Rattle.source.specs.Address.{Lookup, Address, keys_of}
use Rattle.source.specs.Same.{AllOf, Agree, AllAgree}
use Rattle.source.proofs.Same.{resolve_same}
use Rattle.run.proofs.Same.{same-run}
use Rattle.ask.specs.Source.{Source, in_code}
use Rattle.ask.specs.Labels.{code_first, kth_label, view_label, code_label}
use Rattle.ask.specs.Runs.{views_run, code_run}
use Rattle.ask.specs.Lists.{kth_item, view_item, code_item, headings, views_listed, code_listed, views_list, code_list}
use Rattle.ask.proofs.Laws.{in-code-all, kth-same, kth-item-same}
use Rattle.pack.specs.Cutting.{bad_of, first_bad, cut_with, cut_outcome, pack_built}
use Rattle.pack.specs.Sound.{KeysFit}
use Rattle.pack_carries.proofs.Same.{AllFit, pack-same}
use Rattle.changes_source.specs.Rows.{table_lookup}
use Rattle.changes_source.specs.Addresses.{addresses_in}
use Rattle.changes_pair.specs.Pair.{pair_of}
use Rattle.changes_pair.proofs.Live.{kept-all}
use Rattle.pack_sound.proofs.Fields.{FieldsSound}
use Rattle.changes_sound.proofs.Addresses.{views-fields}
use Rattle.mainfile.specs.Set.{Set}
use Rattle.mainfile.specs.Accepted.{AcceptedSet}
use Rattle.mainfile.specs.Addresses as Main
use Rattle.mainfile.specs.Main.{main_of}
use Rattle.mainfile_check.proofs.Laws.{set-accepts}
use Rattle.mainfile_views.specs.Range.{views_in}
use Rattle.demands.specs.Unused.{SameRows, SameInSets, Unmoved}
use Rattle.demands.proofs.Two.{all_then}
use Rattle.demands.proofs.Pair.{pair-taken}
use Rattle.std.specs.Prelude.{Ok}
use Rattle.refusal.specs.Answer.{refusal}
use Rattle.refusal.specs.Verdict.{Verdict}
use Rattle.mainfile_sound.proofs.Addresses.{views-fields as addresses-fields}

-- ---- any source: two look-ups for the same delivery points

module _ (look other : Lookup) where
  bad-same : (views : List Address) → AllAgree look other views → first_bad look views ≡ first_bad other views
  bad-same [] h = refl
  bad-same (a ∷ more) h =
      ap₂ or_else (ap (bad_of a.view) (resolve_same look other a h.0)) (bad-same more h.1)

  cut-same : (views : List Address) (code out : List ℕ) → AllFit views → AllAgree look other views
      → cut_outcome look views code out ≡ cut_outcome other views code out
  unfolding cut_outcome
  cut-same views code out fit h =
      ap₂ (λ (v : Verdict) (pack : List ℕ). cut_with v pack out) (bad-same views h) (pack-same look other views code fit h)

module _ (one other : Source) {m n : ℕ} (t : one.judged ≡ Ok m) (u : other.judged ≡ Ok n)
    (heading : other.heading ≡ one.heading) (views : other.views ≡ one.views) (live : other.live ≡ one.live)
    (agree : AllAgree one.look other.look one.views) (agree-live : AllAgree one.look other.look one.live)
    (fit : AllFit one.live) where
  labels : (view : ℕ) (out : List ℕ) → view_label one view out ≡ view_label other view out
  unfolding view_label
  labels view out =
      afterwards-value refusal out _ t
      ∙ (kth-same one.look other.look out one.views view agree
      ∙ (ap (λ (v : List Address). kth_label other.look v view out) (sym views) ∙ sym (afterwards-value refusal out _ u)))

  view-items : (view : ℕ) (out : List ℕ)
      → view_item (headings one.heading one.views) one view out
      ≡ view_item (headings other.heading other.views) other view out
  unfolding view_item
  view-items view out =
      afterwards-value refusal out _ t
      ∙ (kth-item-same one.look other.look _ one.views view out agree
      ∙ (ap₂
      (λ (h : Address → List ℕ) (v : List Address). kth_item (headings h v) other.look v view out)
      (sym heading) (sym views)
      ∙ sym (afterwards-value refusal out _ u)))

  module _ (code : List ℕ) where
    in-code : AllAgree one.look other.look (in_code code one.live)
    in-code = in-code-all (λ a. Agree one.look other.look (keys_of a)) code one.live agree-live

    fit-code : AllFit (in_code code one.live)
    fit-code = in-code-all (λ a. KeysFit (keys_of a)) code one.live fit

    code_labels : (k : ℕ) (out : List ℕ) → code_label one code k out ≡ code_label other code k out
    unfolding code_label
    code_labels k out =
        afterwards-value refusal out _ t
        ∙ (ap (code_first refusal code out)
        (kth-same one.look other.look out (in_code code one.live) k in-code
        ∙ ap (λ (v : List Address). kth_label other.look (in_code code v) k out) (sym live))
        ∙ sym (afterwards-value refusal out _ u))

    code_items : (k : ℕ) (out : List ℕ)
        → code_item (headings one.heading (in_code code one.live)) one code k out
        ≡ code_item (headings other.heading (in_code code other.live)) other code k out
    unfolding code_item
    code_items k out =
        afterwards-value refusal out _ t
        ∙ (ap (code_first refusal code out)
        (kth-item-same one.look other.look _ (in_code code one.live) k out in-code
        ∙ ap₂
        (λ (h : Address → List ℕ) (v : List Address).
        kth_item (headings h (in_code code v)) other.look (in_code code v) k out)
        (sym heading) (sym live))
        ∙ sym (afterwards-value refusal out _ u))

    code_lists : (first count : ℕ) (out : List ℕ) → code_list one code first count out ≡ code_list other code first count out
    unfolding code_list code_listed
    code_lists first count out =
        afterwards-value refusal out _ t
        ∙ (ap (code_first refusal code out) (same-run _ _ code_items count first out)
        ∙ sym (afterwards-value refusal out _ u))

    packs : (out : List ℕ) → pack_built one code out ≡ pack_built other code out
    unfolding pack_built
    packs out =
        afterwards-value refusal out _ t
        ∙ (ap (code_first refusal code out)
        (cut-same one.look other.look (in_code code one.live) code out fit-code in-code
        ∙ ap (λ (v : List Address). cut_outcome other.look (in_code code v) code out) (sym live))
        ∙ sym (afterwards-value refusal out _ u))

    code_runs : (first count : ℕ) (out : List ℕ) → code_run one code first count out ≡ code_run other code first count out
    unfolding code_run
    code_runs first count out =
        afterwards-value refusal out _ t
        ∙ (ap (code_first refusal code out) (same-run _ _ code_labels count first out)
        ∙ sym (afterwards-value refusal out _ u))

  runs : (first count : ℕ) (out : List ℕ) → views_run one first count out ≡ views_run other first count out
  unfolding views_run
  runs first count out =
      afterwards-value refusal out _ t ∙ (same-run _ _ labels count first out ∙ sym (afterwards-value refusal out _ u))

  lists : (first count : ℕ) (out : List ℕ) → views_list one first count out ≡ views_list other first count out
  unfolding views_list views_listed
  lists first count out =
      afterwards-value refusal out _ t ∙ (same-run _ _ view-items count first out ∙ sym (afterwards-value refusal out _ u))

  pub unmoved : Unmoved one other
  unmoved =
      record {
        labels = labels;
        code_labels = code_labels;
        runs = runs;
        code_runs = code_runs;
        lists = lists;
        code_lists = code_lists;
        packs = packs;
      }

-- sound fields have keys of at most eight digits
pub fields_fit : (views : List Address) → AllOf FieldsSound views → AllFit views
fields_fit = all_then FieldsSound (λ a. KeysFit (keys_of a)) (λ a f. f.keys)

-- ---- a pair of files

pub unused-rows : (one other points : List ℕ) → Accepted table_format one → Accepted table_format other
    → Accepted point_format points
    → SameRows one other points
    → Unmoved (pair_of one points) (pair_of other points)
unused-rows one other points t u p same =
    unmoved (pair_of one points) (pair_of other points) (pair-taken one points t p) (pair-taken other points u p) refl refl refl
    same
    (kept-all (λ a. Agree (table_lookup one) (table_lookup other) (keys_of a)) (addresses_in points) same)
    (kept-all (λ a. KeysFit (keys_of a)) (addresses_in points) (fields_fit (addresses_in points) (views-fields points p)))

-- ---- a set

module _ (one other : Set) (same : SameInSets one other) where
  address_same : (n : ℕ) → 1 ≤ n → n ≤ views_in one.addresses
      → Main.address_of n (record_at 88 other.addresses n) other.organisations
      ≡ Main.address_of n (record_at 88 one.addresses n) one.organisations
  unfolding Main.address_of
  address_same n low high = rw (same.addresses, same.organisations n low high)

  from-same : (k n : ℕ) → 1 ≤ n → n + k ≤ 1 + views_in one.addresses
      → Main.addresses_from other k n ≡ Main.addresses_from one k n
  from-same zero n low high = refl
  from-same (suc k) n low high =
      ap₂ ◌∷◌ (address_same n low (omega (arith, high))) (from-same k (suc n) (omega arith) (omega (arith, high)))

  views_same : Main.addresses_in other ≡ Main.addresses_in one
  unfolding Main.addresses_in
  views_same =
      ap (λ (file : List ℕ). Main.addresses_from other (length file / 88 - 2) 1) same.addresses
      ∙ from-same (views_in one.addresses) 1 (omega arith) (omega arith)

  pub unused-in-sets : AcceptedSet one → AcceptedSet other → Unmoved (main_of one) (main_of other)
  unused-in-sets a b =
      unmoved (main_of one) (main_of other) (set-accepts one a) (set-accepts other b) refl views_same views_same same.rows
      same.rows (fields_fit (Main.addresses_in one) (addresses-fields one a))
