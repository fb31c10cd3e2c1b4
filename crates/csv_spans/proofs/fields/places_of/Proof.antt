-- `csv_spans::fields::places_of` meets its contract. Assumes nothing.
use Prim.Native.Nat.{ℕ}
use mathlib.Core.Path.{◌≡◌}
use mathlib.Core.List.{List}
use native.Mathlib.Omega.{arith}
use Rattle.csv_read.specs.Cut.{field_start}
use Rattle.csv_spans.proofs.Laws.{cut-here, said_here, next_here}
use Rattle.csv_spans.proofs.fields.places_of.Statement.{statement}
use Rattle.csv_spans.proofs.fields.places_of.Tie as tie

-- the row, and where its second field begins
module _ (s : tie.Start) where
  abbrev csv : List ℕ
  csv = s.args.csv.now

  abbrev at : ℕ
  at = s.args.at

cut-field-requires : tie.Need-cut_field-first-requires
cut-field-requires c κs = cut-here c.requires.0 1 (omega arith) c.requires.1

module _ (c : tie.After-cut_field-first) where
  abbrev start : tie.Start
  start = c.before.before

  on : c.cut_field-first.result.next ≡ field_start (csv start) (at start) 2
  on = next_here start.requires.0 1 (omega arith) start.requires.1 c.cut_field-first.ensures.1

cut-field-requires-2 : tie.Need-cut_field-second-requires
cut-field-requires-2 c κs = cut-here (start c.before).requires.0 2 (omega arith) (on c.before)

module _ (c : tie.After-cut_field-second) where
  abbrev start2 : tie.Start
  start2 = start c.before.before

  on2 : c.cut_field-second.result.next ≡ field_start (csv start2) (at start2) 3
  on2 = next_here start2.requires.0 2 (omega arith) (on c.before.before) c.cut_field-second.ensures.1

cut-field-requires-3 : tie.Need-cut_field-third-requires
cut-field-requires-3 c κs = cut-here (start2 c.before).requires.0 3 (omega arith) (on2 c.before)

module _ (c : tie.After-cut_field-third) where
  abbrev start3 : tie.Start
  start3 = start2 c.before.before

  on3 : c.cut_field-third.result.next ≡ field_start (csv start3) (at start3) 4
  on3 = next_here start3.requires.0 3 (omega arith) (on2 c.before.before) c.cut_field-third.ensures.1

cut-field-requires-4 : tie.Need-cut_field-fourth-requires
cut-field-requires-4 c κs = cut-here (start3 c.before).requires.0 4 (omega arith) (on3 c.before)

module _ (c : tie.After-cut_field-fourth) where
  abbrev start4 : tie.Start
  start4 = start3 c.before.before

  on4 : c.cut_field-fourth.result.next ≡ field_start (csv start4) (at start4) 5
  on4 = next_here start4.requires.0 4 (omega arith) (on3 c.before.before) c.cut_field-fourth.ensures.1

cut-field-requires-5 : tie.Need-cut_field-fifth-requires
cut-field-requires-5 c κs = cut-here (start4 c.before).requires.0 5 (omega arith) (on4 c.before)

module _ (c : tie.After-cut_field-fifth) where
  abbrev start5 : tie.Start
  start5 = start4 c.before.before

  on5 : c.cut_field-fifth.result.next ≡ field_start (csv start5) (at start5) 6
  on5 = next_here start5.requires.0 5 (omega arith) (on4 c.before.before) c.cut_field-fifth.ensures.1

returns : tie.Need-returns
returns c =
    let fifth = c in
    let fourth = fifth in
    let third = fourth in
    let second = third in
    let first = second in
    let s = start first.before.before.before.before.before.before.before.before.before in
    let row = s.requires.0 in
    record {
      town = said_here row 1 (omega arith) s.requires.1 first.cut_field-first.ensures.0;
      dependent_locality = said_here row 2 (omega arith) (on first.before.before.before.before.before.before.before.before.before) second.cut_field-second.ensures.0;
      double_locality = said_here row 3 (omega arith) (on2 second.before.before.before.before.before.before.before) third.cut_field-third.ensures.0;
      thoroughfare = said_here row 4 (omega arith) (on3 third.before.before.before.before.before) fourth.cut_field-fourth.ensures.0;
      dependent = said_here row 5 (omega arith) (on4 fourth.before.before.before) fifth.cut_field-fifth.ensures.0;
      next = on5 fifth.before;
    }

pub places_of_spec : {M : Type 1} → statement M
places_of_spec =
    tie.close
    (tie.spec cut-field-requires cut-field-requires-2 cut-field-requires-3 cut-field-requires-4 cut-field-requires-5
    returns)
