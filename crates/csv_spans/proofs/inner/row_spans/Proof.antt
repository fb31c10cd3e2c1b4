-- `csv_spans::inner::row_spans` meets its contract. Assumes nothing.
use borrow.Author.Rules.{rules}
use Prim.Native.Nat.{ℕ, suc, ◌+◌, ◌≤◌}
use mathlib.Core.Path.{◌≡◌, refl, ap, ◌∙◌}
use mathlib.Core.List.{List}
use native.Mathlib.Omega.{arith}
use native.Mathlib.Numerals.{add-one}
use lib.ListN.{drop}
use Rattle.label.proofs.Stand.{all-stand}
use Rattle.csv_paf.specs.File.{fields_of}
use Rattle.csv_paf.specs.Ask.{row_elements}
use Rattle.csv_read.specs.Cut.{field_start}
use Rattle.csv_spans.proofs.Laws.{end-high, code-sized, outward-here, inward-here}
use Rattle.csv_spans.proofs.inner.row_spans.Statement.{statement}
use Rattle.csv_spans.proofs.inner.row_spans.Tie as tie

-- the row, and where its postcode ends
module _ (e : tie.After-field_end-end) where
  abbrev start : tie.Start
  start = e.before.before

  abbrev csv : List ℕ
  csv = start.args.csv.now

  abbrev at : ℕ
  at = start.args.at

  begun : e.field_end-end.result + 1 ≡ field_start csv at 1
  begun = add-one e.field_end-end.result ∙ ap suc e.field_end-end.ensures

add-places-of : tie.Need-overflow_add-end
add-places-of c =
    omega (arith, c.field_end-end.ensures, end-high (start c).requires 0 (omega arith) refl, (start c).well_formed.0.1)

places-of-requires : tie.Need-places_of-places-requires
places-of-requires c κs = ((start c).requires, begun c)

premises-of-requires : tie.Need-premises_of-premises-requires
premises-of-requires c κs = ((start c.before).requires, c.places_of-places.ensures.next)

-- once the texts are read
module _ (b : tie.After-building-1) where
  abbrev premises : tie.After-premises_of-premises
  premises = b.before.before.before.before.before.before.before.before.before.before

  abbrev ended : tie.After-field_end-end
  ended = premises.before.before

  sized : (at ended + 6 ≤ ended.field_end-end.result) × (ended.field_end-end.result ≤ at ended + 8)
  sized = code-sized (start ended).requires ended.field_end-end.ensures

outward-span-requires : tie.Need-outward_span-requires
outward-span-requires c κs = sized c.before.before

inward-span-requires : tie.Need-inward_span-requires
inward-span-requires c κs = omega (arith, sized c.before.before.before)

returns : tie.Need-returns
unfolding row_elements
returns c =
    let o = c in
    let second = o in
    let first = second in
    let b = first in
    let q = premises b.before.before.before.before in
    let e = ended b.before.before.before.before in
    let p = q in
    let row = (start e).requires in
    let bytes = csv e in
    all-stand bytes bytes _ (row_elements (fields_of (drop (at e) bytes)))
    record {
      organisation = q.premises_of-premises.ensures.organisation;
      department = q.premises_of-premises.ensures.department;
      box = q.premises_of-premises.ensures.box;
      sub_building = q.premises_of-premises.ensures.sub_building;
      building = q.premises_of-premises.ensures.building;
      number = q.premises_of-premises.ensures.number;
      concatenation = refl;
      dependent = p.places_of-places.ensures.dependent;
      dependent_descriptor = first.no_text.ensures bytes bytes;
      thoroughfare = p.places_of-places.ensures.thoroughfare;
      descriptor = second.no_text-2.ensures bytes bytes;
      double_locality = p.places_of-places.ensures.double_locality;
      dependent_locality = p.places_of-places.ensures.dependent_locality;
      town = p.places_of-places.ensures.town;
      outward = o.outward_span.ensures bytes bytes ∙ outward-here row e.field_end-end.ensures;
      inward = c.inward_span.ensures bytes bytes ∙ inward-here row e.field_end-end.ensures;
    }

pub row_spans_spec : {M : Type 1} → statement M
row_spans_spec =
    tie.close
    (tie.spec (search rules) add-places-of places-of-requires premises-of-requires (search rules) (search rules)
    outward-span-requires inward-span-requires returns)
