-- `pack_label::spans::spans_at` meets its contract. Assumes nothing.
use borrow.Author.Rules.{rules}
use mathlib.Core.Path.{◌≡◌, ap}
use native.Mathlib.Omega.{arith}
use Rattle.pack_label.proofs.SpanLaws.{inward-bytes}
use Rattle.label.proofs.Stand.{all-stand}
use lib.Dec.{eqb, lit≤}
use Rattle.pack.specs.Points.{elements_from}
use Prim.Native.Nat.{ℕ}
use mathlib.Core.Bool.{Bool}
use mathlib.Core.List.{List}
use Rattle.label.specs.declared.Span.{Span}
use Rattle.label.specs.Spans.{text_in2, elements_in}
use Rattle.pack_label.proofs.spans.spans_at.Goals as goal

pub overflow_add-rest-4 : goal.overflow_add-rest-4
overflow_add-rest-4 c =
    let s = c in
    omega (arith, s.requires.1.0, s.well_formed.0.0)

pub offset_span-requires-5 : goal.offset_span-requires-5
offset_span-requires-5 c =
    let s = c in
    (s.requires.1.0, (lit≤ tt, (lit≤ tt, s.requires.1.1)))

pub offset_span-requires-6 : goal.offset_span-requires-6
offset_span-requires-6 c =
    let s = c in
    (s.requires.1.0, (lit≤ tt, (lit≤ tt, s.requires.1.1)))

pub offset_span-requires-7 : goal.offset_span-requires-7
offset_span-requires-7 c =
    let s = c in
    (s.requires.1.0, (lit≤ tt, (lit≤ tt, s.requires.1.1)))

pub offset_span-requires-8 : goal.offset_span-requires-8
offset_span-requires-8 c =
    let s = c in
    (s.requires.1.0, (lit≤ tt, (lit≤ tt, s.requires.1.1)))

pub offset_span-requires-9 : goal.offset_span-requires-9
offset_span-requires-9 c =
    let s = c in
    (s.requires.1.0, (lit≤ tt, (lit≤ tt, s.requires.1.1)))

pub offset_span-requires-10 : goal.offset_span-requires-10
offset_span-requires-10 c =
    let s = c in
    (s.requires.1.0, (lit≤ tt, (lit≤ tt, s.requires.1.1)))

pub offset_span-requires-11 : goal.offset_span-requires-11
offset_span-requires-11 c =
    let s = c in
    (s.requires.1.0, (lit≤ tt, (lit≤ tt, s.requires.1.1)))

pub overflow_add-at : goal.overflow_add-at
overflow_add-at c =
    let s = c in
    omega (arith, s.requires.0, s.well_formed.0.0)

pub overflow_add-result : goal.overflow_add-result
overflow_add-result c =
    let s = c in
    omega (arith, s.requires.0, s.well_formed.0.0)

-- what spans say that were found one by one, over plain values: the result of each call is a variable here
spans-say : (rows pack : List ℕ) (at rest : ℕ) (organisation department box sub building : Span) (number : ℕ)
    (concatenation : Bool)
    (dependent tail street end double single town outward inward : Span)
    → text_in2 rows pack organisation ≡ (elements_from pack at rest).organisation
    → text_in2 rows pack department ≡ (elements_from pack at rest).department
    → text_in2 rows pack box ≡ (elements_from pack at rest).box
    → text_in2 rows pack sub ≡ (elements_from pack at rest).sub_building
    → text_in2 rows pack building ≡ (elements_from pack at rest).building
    → number ≡ (elements_from pack at rest).number
    → concatenation ≡ (elements_from pack at rest).concatenation
    → text_in2 rows pack dependent ≡ (elements_from pack at rest).dependent
    → text_in2 rows pack tail ≡ (elements_from pack at rest).dependent_descriptor
    → text_in2 rows pack street ≡ (elements_from pack at rest).thoroughfare
    → text_in2 rows pack end ≡ (elements_from pack at rest).descriptor
    → text_in2 rows pack double ≡ (elements_from pack at rest).double_locality
    → text_in2 rows pack single ≡ (elements_from pack at rest).dependent_locality
    → text_in2 rows pack town ≡ (elements_from pack at rest).town
    → text_in2 rows pack outward ≡ (elements_from pack at rest).outward
    → text_in2 rows pack inward ≡ (elements_from pack at rest).inward
    → elements_in rows pack
    record {
      organisation = organisation;
      department = department;
      po_box = box;
      sub_building = sub;
      building = building;
      number = number;
      concatenation = concatenation;
      dependent = dependent;
      dependent_descriptor = tail;
      thoroughfare = street;
      descriptor = end;
      double_locality = double;
      dependent_locality = single;
      town = town;
      outward = outward;
      inward = inward;
    }
    ≡ elements_from pack at rest
spans-say rows pack at rest organisation department box sub building number concatenation dependent tail street end double single
    town outward inward is-organisation is-department is-box is-sub is-building is-number is-concatenation is-dependent
    is-tail is-street is-end is-double is-single is-town is-outward is-inward =
    all-stand rows pack _ (elements_from pack at rest)
    record {
      organisation = is-organisation;
      department = is-department;
      box = is-box;
      sub_building = is-sub;
      building = is-building;
      number = is-number;
      concatenation = is-concatenation;
      dependent = is-dependent;
      dependent_descriptor = is-tail;
      thoroughfare = is-street;
      descriptor = is-end;
      double_locality = is-double;
      dependent_locality = is-single;
      town = is-town;
      outward = is-outward;
      inward = is-inward;
    }

pub returns : goal.returns
unfolding elements_from
returns c =
    let a = c.args in
    let rows = a.rows.now in
    spans-say rows a.pack.now a.at a.rest c.offset_span.result c.offset_span-2.result
    c.field_span.result c.offset_span-3.result c.offset_span-4.result c.number_at.result (eqb c.byte_of.result 89)
    c.offset_span-5.result c.offset_span-6.result c.offset_span-7.result c.offset_span-8.result c.offset_span-9.result
    c.offset_span-10.result c.offset_span-11.result c.field_span-2.result _ c.offset_span.ensures c.offset_span-2.ensures
    (c.field_span.ensures rows) c.offset_span-3.ensures c.offset_span-4.ensures c.number_at.ensures.0
    (ap (λ b. eqb b 89) c.byte_of.ensures) c.offset_span-5.ensures c.offset_span-6.ensures c.offset_span-7.ensures
    c.offset_span-8.ensures c.offset_span-9.ensures c.offset_span-10.ensures c.offset_span-11.ensures
    (c.field_span-2.ensures rows) (inward-bytes a.pack.now a.at)
