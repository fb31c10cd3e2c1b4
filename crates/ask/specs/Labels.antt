-- Labels asked of a source. Of a pair of files: "table file, point file, 12 where a code is given, then 7, 8, 9, 10".
-- Assumes nothing.
use Rattle.std.specs.Prelude.{ℕ, zero, suc, cond, List, [], ◌∷◌, eqb}
use Rattle.std.proofs.Math.Option.{Option, none, some}
use Rattle.field_outward.specs.Outward.{outward_fault}
use Rattle.refusal.specs.declared.Reason.{Reason}
use Rattle.refusal.specs.declared.Reason.TheVariants.{NoSuchNumber, BadCode}
use Rattle.refusal.specs.Outcome.{Outcome, said, afterwards}
use Rattle.source.specs.Address.{Lookup, Address}
use Rattle.source.specs.Resolve.{resolve}
use Rattle.label.specs.Label.{resolved_outcome}
use Rattle.ask.specs.Source.{Source, in_code}
use Rattle.refusal.specs.Answer.{Answer, refusal}

-- the k-th of some addresses, counted from 1
abbrev pub kth : List Address → ℕ → Option Address
kth [] k = none
kth (a ∷ more) zero = none
kth (a ∷ more) (suc zero) = some a
kth (a ∷ more) (suc (suc k)) = kth more (suc k)

-- its label, or its refusal; "7: no view or point of that number"
abbrev pub label_outcome : Lookup → Option Address → List ℕ → Outcome Answer
label_outcome look none out = said (refusal 0 NoSuchNumber) out
label_outcome look (some a) out = resolved_outcome (resolve look a) out

unfoldable pub kth_label : Lookup → List Address → ℕ → List ℕ → Outcome Answer
kth_label look addresses k out = label_outcome look (kth addresses k) out

-- "12: outward code malformed"
abbrev pub code_first : {A : Type 0} → (ℕ → Reason → A) → (code out : List ℕ) → Outcome A → Outcome A
code_first whole code out next = cond (eqb (outward_fault code) 0) next (said (whole 0 BadCode) out)

-- the files first, then the code
abbrev pub by_code : {A : Type 0} → (ℕ → Reason → A) → Source → (code out : List ℕ) → Outcome A → Outcome A
by_code whole s code out next = afterwards whole s.judged out (code_first whole code out next)

-- the label of a view
unfoldable pub view_label : Source → (view : ℕ) → List ℕ → Outcome Answer
view_label s view out = afterwards refusal s.judged out (kth_label s.look s.views view out)

-- the label of the k-th live view in a code
unfoldable pub code_label : Source → List ℕ → (k : ℕ) → List ℕ → Outcome Answer
code_label s code k out = by_code refusal s code out (kth_label s.look (in_code code s.live) k out)
