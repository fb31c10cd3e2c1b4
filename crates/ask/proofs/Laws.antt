-- Laws of what is asked of a source: what decides, once the files are judged and the code is tested.
-- Assumes nothing.
use Prim.Native.Nat.{ℕ, zero, suc}
use mathlib.Core.Path.{◌≡◌, refl, ap, ◌∙◌}
use mathlib.Core.Bool.{Bool, true, false, cond}
use mathlib.Core.List.{List, [], ◌∷◌}
use mathlib.Core.Option.{some}
use borrow.Author.Tests.{eq-eqb, ne_eqb}
use Rattle.field_outward.specs.Outward.{outward_fault}
use Rattle.refusal.specs.declared.Reason.{Reason}
use Rattle.refusal.specs.declared.Reason.TheVariants.{BadCode}
use Rattle.refusal.specs.Outcome.{Outcome, said}
use Rattle.refusal.proofs.Outcomes.{afterwards-value, afterwards-refused}
use Rattle.file_compare.specs.Order.{same}
use Rattle.source.specs.Address.{Lookup, Address}
use Rattle.source.specs.Resolve.{Resolved}
use Rattle.source.specs.Same.{AllOf, AllAgree}
use Rattle.source.proofs.Same.{resolve_same}
use Rattle.label.specs.Label.{resolved_outcome}
use Rattle.item.specs.Item.{Heading, item_outcome}
use Rattle.ask.specs.Source.{Source, in_code}
use Rattle.ask.specs.Labels.{kth, kth_label, code_first, by_code}
use Rattle.ask.specs.Lists.{resolved_of, kth_item}
use Rattle.std.specs.Prelude.{Ok}
use Rattle.refusal.specs.Answer.{refusal}

-- what holds of each address holds of those in a code
pub in-code-all : (P : Address → Type 0) (code : List ℕ) (views : List Address) → AllOf P views
    → AllOf P (in_code code views)
in-code-all P code [] h = tt
in-code-all P code (a ∷ more) h = by-test (same a.outward code) (in-code-all P code more h.1)
  where
    by-test : (t : Bool) → AllOf P (in_code code more) → AllOf P (cond t (a ∷ in_code code more) (in_code code more))
    by-test true rest = (h.0, rest)
    by-test false rest = rest

-- look-ups that agree on the keys of some addresses print them alike
module _ (look other : Lookup) (out : List ℕ) where
  pub kth-same : (views : List Address) (k : ℕ) → AllAgree look other views
      → kth_label look views k out ≡ kth_label other views k out
  unfolding kth_label
  kth-same [] k h = refl
  kth-same (a ∷ more) zero h = refl
  kth-same (a ∷ more) (suc zero) h = ap (λ (r : Resolved). resolved_outcome r out) (resolve_same look other a h.0)
  kth-same (a ∷ more) (suc (suc k)) h = kth-same more (suc k) h.1

-- and list them alike
module _ (look other : Lookup) (line out : List ℕ) where
  item-same : (views : List Address) (k : ℕ) → AllAgree look other views
      → item_outcome line (resolved_of look (kth views k)) out ≡ item_outcome line (resolved_of other (kth views k)) out
  item-same [] k h = refl
  item-same (a ∷ more) zero h = refl
  item-same (a ∷ more) (suc zero) h =
      ap (λ (r : Resolved). item_outcome line (some r) out) (resolve_same look other a h.0)
  item-same (a ∷ more) (suc (suc k)) h = item-same more (suc k) h.1

pub kth-item-same : (look other : Lookup) (heading : Heading) (views : List Address) (k : ℕ) (out : List ℕ)
    → AllAgree look other views
    → kth_item heading look views k out ≡ kth_item heading other views k out
unfolding kth_item
kth-item-same look other heading views k out h = item-same look other (heading k) out views k h

module _ {A : Type 0} (whole : ℕ → Reason → A) (code out : List ℕ) (next : Outcome A) where
  pub code-good : outward_fault code ≡ 0 → code_first whole code out next ≡ next
  code-good e = rw (eq-eqb (outward_fault code) 0 e)

  pub code-bad : (outward_fault code ≡ 0 → ⊥) → code_first whole code out next ≡ said (whole 0 BadCode) out
  code-bad e = rw (ne_eqb (outward_fault code) 0 e)

  module _ (s : Source) where
    module _ {n : ℕ} (taken : s.judged ≡ Ok n) where
      pub by-good-code : outward_fault code ≡ 0 → by_code whole s code out next ≡ next
      by-good-code e = afterwards-value whole out _ taken ∙ code-good e

      pub by-bad-code : (outward_fault code ≡ 0 → ⊥) → by_code whole s code out next ≡ said (whole 0 BadCode) out
      by-bad-code e = afterwards-value whole out _ taken ∙ code-bad e

    pub by-refused : {file : ℕ} {why : Reason} → s.judged ≡ refusal file why
        → by_code whole s code out next ≡ said (whole file why) out
    by-refused e = afterwards-refused whole out _ e
