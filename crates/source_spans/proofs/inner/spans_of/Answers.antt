-- `source_spans::inner::spans_of` meets its contract. Assumes nothing.
use borrow.Author.Rules.{rules}
use Prim.Native.Nat.{ℕ, ◌+◌}
use mathlib.Core.Bool.{false}
use mathlib.Core.List.{List}
use mathlib.Core.Path.{refl, ◌∙◌}
use native.Mathlib.Omega.{arith}
use lib.Dec.{eqb, lit≤}
use lib.ListN.{get_or}
use Rattle.field.specs.Text.{text_in}
use Rattle.label.proofs.Stand.{all-stand}
use Rattle.shelf.specs.Shelf.{record_of}
use Rattle.source_spans.specs.Spans.{elements_by}
use Rattle.source_spans.proofs.Laws.{name-said, department-said, unless-end, if-end, inward-bytes}
use Rattle.label.specs.declared.Span.{Span}
use Rattle.shelf.specs.declared.Shelf.{Shelf}
use Rattle.source.specs.declared.DeliveryPoint.{DeliveryPoint}
use Rattle.source_spans.specs.Spans.{field_of, OwnSays, RowSays, text_if, SpansSay}
use Rattle.source_spans.proofs.inner.spans_of.Goals as goal

pub row_span-requires-3 : goal.row_span-requires-3
row_span-requires-3 c =
    let e = c in
    (e.requires.0, (omega (arith, e.requires.0.text_small), lit≤ tt))

pub row_span-requires-4 : goal.row_span-requires-4
row_span-requires-4 c =
    let e = c in
    (e.requires.0, (omega (arith, e.requires.0.text_small), lit≤ tt))

pub row_span-requires-5 : goal.row_span-requires-5
row_span-requires-5 c =
    let e = c in
    (e.requires.0, (omega (arith, e.requires.0.text_small), lit≤ tt))

pub row_span-requires-6 : goal.row_span-requires-6
row_span-requires-6 c =
    let e = c in
    (e.requires.0, (omega (arith, e.requires.0.text_small), lit≤ tt))

pub overflow_add-town : goal.overflow_add-town
overflow_add-town c =
    let e = c in
    omega (arith, e.requires.0.locality_small)

pub row_span-requires-7 : goal.row_span-requires-7
row_span-requires-7 c =
    let e = c in
    (e.requires.0, (omega (arith, e.requires.0.locality_small), lit≤ tt))

pub overflow_add-town-2 : goal.overflow_add-town-2
overflow_add-town-2 c =
    let e = c in
    omega (arith, e.requires.0.locality_small)

pub row_span-requires-8 : goal.row_span-requires-8
row_span-requires-8 c =
    let e = c in
    (e.requires.0, (omega (arith, e.requires.0.locality_small), lit≤ tt))

pub row_span-requires-9 : goal.row_span-requires-9
row_span-requires-9 c =
    let e = c in
    (e.requires.0, (omega (arith, e.requires.0.locality_small), lit≤ tt))

pub own_span-requires-2 : goal.own_span-requires-2
own_span-requires-2 c =
    let e = c in
    (lit≤ tt, omega (arith, e.requires.1.postcode))

pub overflow_add-result : goal.overflow_add-result
overflow_add-result c =
    let e = c in
    omega (arith, e.requires.1.postcode, e.well_formed.1.1.0)

-- what spans say that were found one by one, over plain values: the result of each call is a variable here
spans-say : (s : Shelf) (file own : List ℕ) (p : DeliveryPoint) (rows : List ℕ)
    (organisation department box sub building dependent tail street end double single town outward : Span)
    → OwnSays own organisation (text_if p.organised own p.organisation 60)
    → OwnSays own department (text_if p.organised own (p.organisation + 60) 60)
    → OwnSays own box (text_in own p.po_box (p.po_box + 6))
    → RowSays file sub (field_of s file (get_or rows 6 0) s.text 30)
    → RowSays file building (field_of s file (get_or rows 5 0) s.text 50)
    → RowSays file dependent (field_of s file (get_or rows 3 0) s.text 60)
    → RowSays file tail (field_of s file (get_or rows 4 0) s.text 20)
    → RowSays file street (field_of s file (get_or rows 1 0) s.text 60)
    → RowSays file end (field_of s file (get_or rows 2 0) s.text 20)
    → RowSays file double (field_of s file (get_or rows 0 0) (s.locality + 65) 35)
    → RowSays file single (field_of s file (get_or rows 0 0) (s.locality + 30) 35)
    → RowSays file town (field_of s file (get_or rows 0 0) s.locality 30)
    → OwnSays own outward (text_in own p.postcode (p.postcode + 4))
    → SpansSay s file own p rows
    record {
      organisation = organisation;
      department = department;
      po_box = box;
      sub_building = sub;
      building = building;
      number = p.number;
      concatenation = p.concatenation;
      dependent = dependent;
      dependent_descriptor = tail;
      thoroughfare = street;
      descriptor = end;
      double_locality = double;
      dependent_locality = single;
      town = town;
      outward = outward;
      inward = record { first = false; at = p.postcode + 4; len = 3 };
    }
unfolding elements_by
spans-say s file own p rows organisation department box sub building dependent tail street end double single town outward
    is-organisation is-department is-box is-sub is-building is-dependent is-tail is-street is-end is-double is-single is-town
    is-outward =
    let o = p.organisation in
    let n = text_in own o (o + 60) in
    let d = text_in own (o + 60) (o + 120) in
    let l = s.locality in
    let none = eqb (get_or rows 0 0) 0 in
    let rec = record_of s file (get_or rows 0 0) in
    all-stand file own _ (elements_by s file own p rows)
    record {
      organisation = is-organisation file ∙ name-said p.organised p.lacking n d;
      department =
          is-department file
          ∙ (if-end p.organised own (o + 60) 60 (o + 120) (omega arith)
          ∙ department-said p.organised p.lacking n d);
      box = is-box file;
      sub_building = is-sub own;
      building = is-building own;
      number = refl;
      concatenation = refl;
      dependent = is-dependent own;
      dependent_descriptor = is-tail own;
      thoroughfare = is-street own;
      descriptor = is-end own;
      double_locality = is-double own ∙ unless-end none rec (l + 65) 35 (l + 100) (omega arith);
      dependent_locality = is-single own ∙ unless-end none rec (l + 30) 35 (l + 65) (omega arith);
      town = is-town own;
      outward = is-outward file;
      inward = inward-bytes own p.postcode;
    }

pub returns : goal.returns
returns c =
    let a = c.args in
    spans-say a.s a.file.now a.own.now a.p a.found.rows c.own_span_if.result c.own_span_if-2.result c.own_span.result
    c.row_span.result c.row_span-2.result c.row_span-3.result c.row_span-4.result c.row_span-5.result c.row_span-6.result
    c.row_span-7.result c.row_span-8.result c.row_span-9.result c.own_span-2.result c.own_span_if.ensures
    c.own_span_if-2.ensures c.own_span.ensures c.row_span.ensures c.row_span-2.ensures c.row_span-3.ensures
    c.row_span-4.ensures c.row_span-5.ensures c.row_span-6.ensures c.row_span-7.ensures c.row_span-8.ensures
    c.row_span-9.ensures c.own_span-2.ensures
