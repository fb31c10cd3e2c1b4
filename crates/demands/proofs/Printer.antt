-- One printer for a pair of files, a set and a pack: the same elements give the same label.
-- Assumes nothing.
use Prim.Native.Nat.{ℕ, ◌≤◌}
use mathlib.Core.Path.{◌≡◌, sym, ap, ◌∙◌}
use mathlib.Core.Bool.{Bool, true, cond}
use mathlib.Core.List.{List}
use mathlib.Core.Option.{Option, some}
use native.Mathlib.Omega.{arith}
use borrow.Author.Tests.{le-leb, eq-eqb}
use Rattle.refusal.specs.declared.Reason.TheVariants.{Combination}
use Rattle.refusal.proofs.Outcomes.{afterwards-value}
use Rattle.source.specs.Address.{Lookup, Address, Elements}
use Rattle.source.specs.Resolve.{Resolved, elements, refused, elements_of}
use Rattle.label.specs.Label.{label_of, room_outcome, resolved_outcome}
use Rattle.ask.specs.Source.{Source, in_code}
use Rattle.ask.specs.Labels.{kth, label_outcome, kth_label, view_label, code_label}
use Rattle.ask.proofs.Laws.{by-good-code}
use Rattle.csv_paf.specs.File.{fields_of, rows_of, csv_judged}
use Rattle.csv_paf.specs.Ask.{row_elements, forbidden_in, row_resolved, kth_of, resolved_of, label_or, row_label, csv_label}
use Rattle.pack.specs.Opening.{point_count, opened}
use Rattle.pack.specs.Points.{elements_at, point_place, is_point, point_label, pack_label}
use Rattle.pack_open.proofs.Opened.{opened-all}
use Rattle.call.specs.Call.{source_of, Call, outcome_of, writing}
use Rattle.demands.specs.Two.{Printed}
use Rattle.demands.specs.Printer.{Prints, a_view, a_view_in_code, a_point, a_row, printer}
use Rattle.demands.proofs.Three.{printed-resolves}
use Rattle.std.specs.Prelude.{Ok}
use Rattle.refusal.specs.Answer.{refusal}

-- the k-th of some delivery points, which is printed
kth-printed : (look : Lookup) (views : List Address) (k : ℕ) (out : List ℕ) (a : Address) (e : Elements)
    → kth views k ≡ some a
    → Printed look a
    → elements_of look a ≡ e
    → kth_label look views k out ≡ room_outcome (label_of e) out
unfolding kth_label
kth-printed look views k out a e found p is =
    ap (λ (f : Option Address). label_outcome look f out) found
    ∙ (ap (λ (r : Resolved). resolved_outcome r out) (printed-resolves look a p)
    ∙ ap (λ (e : Elements). room_outcome (label_of e) out) is)

view-printed : (s : Source) (view : ℕ) (out : List ℕ) (a : Address) (e : Elements) {n : ℕ} → s.judged ≡ Ok n
    → kth s.views view ≡ some a
    → Printed s.look a
    → elements_of s.look a ≡ e
    → view_label s view out ≡ room_outcome (label_of e) out
unfolding view_label
view-printed s view out a e taken found p is =
    afterwards-value refusal out _ taken ∙ kth-printed s.look s.views view out a e found p is

point-printed : (pack : List ℕ) (k : ℕ) (out : List ℕ) {n : ℕ} → opened pack ≡ Ok n → 1 ≤ k → k ≤ n
    → pack_label pack k out ≡ room_outcome (label_of (elements_at pack (point_place pack k))) out
unfolding pack_label point_label
point-printed pack k out {n} opens low high =
    let counted : k ≤ point_count pack = omega (arith, (opened-all pack n opens).counted) in
    let there : is_point pack k ≡ true = simp (le-leb 1 k low, le-leb k (point_count pack) counted) in
    afterwards-value refusal out _ opens ∙ rw there

row-printed : (csv : List ℕ) (row : ℕ) (out bytes : List ℕ) {n : ℕ} → csv_judged csv ≡ Ok n
    → kth_of (rows_of csv) row ≡ some bytes
    → forbidden_in (row_elements (fields_of bytes)) ≡ 0
    → csv_label csv row out ≡ room_outcome (label_of (row_elements (fields_of bytes))) out
unfolding csv_label row_label row_resolved
row-printed csv row out bytes taken found z =
    afterwards-value refusal out _ taken
    ∙ (ap (λ (o : Option (List ℕ)). label_or (resolved_of o) out) found
    ∙ ap
    (λ (t : Bool).
    label_or
    (some
    (cond t (elements (row_elements (fields_of bytes)))
    (refused (Combination (forbidden_in (row_elements (fields_of bytes))) 0))))
    out)
    (eq-eqb (forbidden_in (row_elements (fields_of bytes))) 0 z))

pub one-printer : (call : Call) (e : Elements) → Prints call e → (out : List ℕ) → outcome_of call out ≡ printer e out
unfolding code_label
one-printer call e (a_view {lent} {view} a taken found p is) out =
    ap writing (view-printed (source_of lent) view out a e taken found p is)
one-printer call e (a_view_in_code {lent} {code} {k} a taken clean found p is) out =
    let s = source_of lent in
    ap writing
    (by-good-code refusal code out _ s taken clean
    ∙ kth-printed s.look (in_code code s.live) k out a e found p is)
one-printer call e (a_point {pack} {k} opens low high is) out =
    ap writing
    (point-printed pack k out opens low high ∙ ap (λ (e : Elements). room_outcome (label_of e) out) is)
one-printer call e (a_row {csv} {row} bytes taken found z is) out =
    ap writing
    (row-printed csv row out bytes taken found z ∙ ap (λ (e : Elements). room_outcome (label_of e) out) is)

-- so two calls that print the same elements come to the same, whatever is lent to each
pub same-label : (call other : Call) (e : Elements) → Prints call e → Prints other e → (out : List ℕ)
    → outcome_of call out ≡ outcome_of other out
same-label call other e p q out = one-printer call e p out ∙ sym (one-printer other e q out)
