-- What is asked item by item or label by label, in turn, is the listing or the run of a source.
-- Assumes nothing.
use Prim.Native.Nat.{ℕ}
use mathlib.Core.Path.{◌≡◌, sym, ◌∙◌}
use mathlib.Core.Bool.{Bool, true, false}
use mathlib.Core.List.{List}
use Rattle.field_outward.specs.Outward.{outward_fault}
use Rattle.refusal.specs.declared.Reason.{Reason}
use Rattle.refusal.specs.declared.Reason.TheVariants.{BadCode}
use Rattle.refusal.specs.Outcome.{said}
use Rattle.refusal.proofs.Outcomes.{afterwards-value, afterwards-refused}
use Rattle.run.specs.Series.{Asking, run_from}
use Rattle.run.proofs.Same.{same-run}
use Rattle.ask.specs.Source.{Source, in_code}
use Rattle.ask.specs.Labels.{view_label, code_label}
use Rattle.ask.specs.Runs.{views_run, code_run}
use Rattle.ask.specs.Lists.{view_item, code_item, views_listed, code_listed, headings, views_list, code_list}
use Rattle.ask.specs.Shown.{views_shown, code_shown}
use Rattle.ask.proofs.Laws.{by-good-code, by-bad-code, by-refused}
use Rattle.std.specs.Prelude.{Ok}
use Rattle.refusal.specs.Answer.{refusal}

module _ (s : Source) where
  -- one that is asked for each view
  pub record AsksViews (asking : Bool → Asking) : Type 0 where
    pub items : (k : ℕ) (out : List ℕ) → asking true k out ≡ view_item (headings s.heading s.views) s k out
    pub labels : (k : ℕ) (out : List ℕ) → asking false k out ≡ view_label s k out

  pub record AsksCode (code : List ℕ) (asking : Bool → Asking) : Type 0 where
    pub items : (k : ℕ) (out : List ℕ)
        → asking true k out ≡ code_item (headings s.heading (in_code code s.live)) s code k out
    pub labels : (k : ℕ) (out : List ℕ) → asking false k out ≡ code_label s code k out

  -- ---- where the files are accepted

  module _ {n : ℕ} (taken : s.judged ≡ Ok n) (first count : ℕ) (out : List ℕ) where
    pub views-shown : (asking : Bool → Asking) → AsksViews asking → (listed : Bool)
        → run_from (asking listed) first count out ≡ views_shown listed s first count out
    unfolding views_run views_list views_listed
    views-shown asking asks true =
        same-run _ _ asks.items count first out ∙ sym (afterwards-value refusal out _ taken)
    views-shown asking asks false =
        same-run _ _ asks.labels count first out ∙ sym (afterwards-value refusal out _ taken)

    module _ (code : List ℕ) where
      pub code-shown : outward_fault code ≡ 0 → (asking : Bool → Asking) → AsksCode code asking → (listed : Bool)
          → run_from (asking listed) first count out ≡ code_shown listed s code first count out
      unfolding code_run code_list code_listed
      code-shown clean asking asks true =
          same-run _ _ asks.items count first out ∙ sym (by-good-code refusal code out _ s taken clean)
      code-shown clean asking asks false =
          same-run _ _ asks.labels count first out ∙ sym (by-good-code refusal code out _ s taken clean)

      pub code_refused : (outward_fault code ≡ 0 → ⊥) → (listed : Bool)
          → said (refusal 0 BadCode) out ≡ code_shown listed s code first count out
      unfolding code_run code_list code_listed
      code_refused bad true = sym (by-bad-code refusal code out _ s taken bad)
      code_refused bad false = sym (by-bad-code refusal code out _ s taken bad)

  -- ---- where they are refused

  module _ {file : ℕ} {why : Reason} (not_taken : s.judged ≡ refusal file why) (first count : ℕ) (out : List ℕ) where
    pub views-refused : (listed : Bool) → said (refusal file why) out ≡ views_shown listed s first count out
    unfolding views_run views_list views_listed
    views-refused true = sym (afterwards-refused refusal out _ not_taken)
    views-refused false = sym (afterwards-refused refusal out _ not_taken)

    pub files_refused : (code : List ℕ) (listed : Bool)
        → said (refusal file why) out ≡ code_shown listed s code first count out
    unfolding code_run code_list code_listed
    files_refused code true = sym (by-refused refusal code out _ s not_taken)
    files_refused code false = sym (by-refused refusal code out _ s not_taken)
