-- None of the texts that a delivery point is printed from is longer than its field. Over any bytes.
-- Assumes nothing.
use Prim.Native.Nat.{ℕ, ◌+◌, ◌-◌, ◌≤◌}
use mathlib.Core.Bool.{Bool, true, false, cond}
use mathlib.Core.List.{List, []}
use native.Mathlib.Omega.{arith}
use lib.Dec.{eqb}
use lib.ListN.{length, get_or}
use Rattle.field.specs.Text.{text_in}
use Rattle.field.proofs.Texts.{part-bound}
use Rattle.field.proofs.Fronts.{text_in-bound}
use Rattle.source.specs.declared.DeliveryPoint.{DeliveryPoint}
use Rattle.source.specs.Address.{none_needed, named, lacking}
use Rattle.source.specs.Resolve.{name_of, department_of}
use Rattle.label.specs.Widths.{Fits}
use Rattle.shelf.specs.declared.Shelf.{Shelf}
use Rattle.shelf.specs.Shelf.{record_of}
use Rattle.source_spans.specs.Spans.{elements_by}
use Rattle.source_spans.proofs.Laws.{name-said, department-said}

-- a text is no longer than its field, and none is shorter
unless-fits : (t : Bool) (rec : List ℕ) (from to n : ℕ) → to - from ≤ n → length (cond t [] (text_in rec from to)) ≤ n
unless-fits true rec from to n h = omega arith
unless-fits false rec from to n h = omega (arith, text_in-bound rec from to)

if-fits : (t : Bool) (rec : List ℕ) (from to n : ℕ) → to - from ≤ n → length (cond t (text_in rec from to) []) ≤ n
if-fits false rec from to n h = omega arith
if-fits true rec from to n h = omega (arith, text_in-bound rec from to)

pub elements-fit : (s : Shelf) (file own : List ℕ) (p : DeliveryPoint) (rows : List ℕ) → Fits (elements_by s file own p rows)
unfolding elements_by
elements-fit s file own p rows =
    let o = p.organisation in
    let n = text_in own o (o + 60) in
    let d = text_in own (o + 60) (o + 120) in
    let t = s.text in
    let l = s.locality in
    let row : ℕ → ℕ = λ i. get_or rows i 0 in
    let rec : ℕ → List ℕ = λ i. record_of s file (row i) in
    let none : ℕ → Bool = λ i. eqb (row i) 0 in
    record {
      organisation =
          rw (← name-said p.organised p.lacking n d) (if-fits p.organised own o (o + 60) 60 (omega arith));
      department =
          rw (← department-said p.organised p.lacking n d)
          (if-fits p.organised own (o + 60) (o + 120) 60 (omega arith));
      box = omega (arith, text_in-bound own p.po_box (p.po_box + 6));
      sub_building = unless-fits (none 6) (rec 6) t (t + 30) 30 (omega arith);
      building = unless-fits (none 5) (rec 5) t (t + 50) 50 (omega arith);
      dependent = unless-fits (none 3) (rec 3) t (t + 60) 60 (omega arith);
      dependent_descriptor = unless-fits (none 4) (rec 4) t (t + 20) 20 (omega arith);
      thoroughfare = unless-fits (none 1) (rec 1) t (t + 60) 60 (omega arith);
      descriptor = unless-fits (none 2) (rec 2) t (t + 20) 20 (omega arith);
      double_locality = unless-fits (none 0) (rec 0) (l + 65) (l + 100) 35 (omega arith);
      dependent_locality = unless-fits (none 0) (rec 0) (l + 30) (l + 65) 35 (omega arith);
      town = unless-fits (none 0) (rec 0) l (l + 30) 30 (omega arith);
      outward = omega (arith, text_in-bound own p.postcode (p.postcode + 4));
      inward = omega (arith, part-bound own (p.postcode + 4) (p.postcode + 7));
    }
