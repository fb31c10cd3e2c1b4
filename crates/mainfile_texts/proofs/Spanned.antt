-- The spans of the elements, one by one.
-- Assumes nothing.
use Prim.Native.Nat.{ℕ}
use mathlib.Core.Path.{◌≡◌, refl}
use mathlib.Core.List.{List}
use lib.ListN.{get_or}
use Rattle.source.specs.declared.DeliveryPoint.{DeliveryPoint}
use Rattle.label.specs.declared.Span.{Span}
use Rattle.label.specs.declared.Spans.{Spans}
use Rattle.mainfile_texts.specs.Gathered as Place
use Rattle.mainfile_texts.specs.Gathered.{span_at, spans_from}

pub spans-are : (own premises streets localities : List ℕ) (p : DeliveryPoint)
    (a b c d f g h i j k l m n o : Span)
    → a ≡ span_at Place.organisation_place (get_or own 0 0)
    → b ≡ span_at Place.department_place (get_or own 1 0)
    → c ≡ span_at Place.box_place (get_or own 2 0)
    → d ≡ span_at Place.sub_building_place (get_or premises 0 0)
    → f ≡ span_at Place.building_place (get_or premises 1 0)
    → g ≡ span_at Place.dependent_place (get_or streets 0 0)
    → h ≡ span_at Place.dependent_descriptor_place (get_or streets 1 0)
    → i ≡ span_at Place.thoroughfare_place (get_or streets 2 0)
    → j ≡ span_at Place.descriptor_place (get_or streets 3 0)
    → k ≡ span_at Place.double_locality_place (get_or localities 0 0)
    → l ≡ span_at Place.dependent_locality_place (get_or localities 1 0)
    → m ≡ span_at Place.town_place (get_or localities 2 0)
    → n ≡ span_at Place.outward_place (get_or own 3 0)
    → o ≡ span_at Place.inward_place (get_or own 4 0)
    → ◌≡◌ {A = Spans}
    (record {
      organisation = a;
      department = b;
      po_box = c;
      sub_building = d;
      building = f;
      number = p.number;
      concatenation = p.concatenation;
      dependent = g;
      dependent_descriptor = h;
      thoroughfare = i;
      descriptor = j;
      double_locality = k;
      dependent_locality = l;
      town = m;
      outward = n;
      inward = o;
    })
    (spans_from own premises streets localities p)
spans-are own premises streets localities p a b c d f g h i j k l m n o e1 e2 e3 e4 e5 e6 e7 e8 e9 e10 e11 e12 e13 e14 =
    rw (
      e1,
      e2,
      e3,
      e4,
      e5,
      e6,
      e7,
      e8,
      e9,
      e10,
      e11,
      e12,
      e13,
      e14,
    ) refl
