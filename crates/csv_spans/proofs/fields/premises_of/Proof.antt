-- `csv_spans::fields::premises_of` meets its contract. Assumes nothing.
use borrow.Author.Rules.{rules}
use Prim.Native.Nat.{ℕ, suc, ◌+◌}
use mathlib.Core.Path.{◌≡◌, ap, ◌∙◌}
use mathlib.Core.List.{List, []}
use native.Mathlib.Omega.{arith}
use native.Mathlib.Numerals.{add-one}
use lib.ListN.{drop, get_or}
use Rattle.field.specs.Digits.{value}
use Rattle.field.proofs.Fronts.{four-digits}
use Rattle.csv_paf.specs.File.{fields_of}
use Rattle.csv_read.specs.Cut.{field_start}
use Rattle.csv_spans.proofs.Laws.{short, cut-here, end-high, said_here, field-here, next_here}
use Rattle.csv_spans.proofs.fields.premises_of.Statement.{statement}
use Rattle.csv_spans.proofs.fields.premises_of.Tie as tie

-- the row, and where its number ends
module _ (v : tie.After-value_of-number) where
  abbrev ended : tie.After-field_end-end
  ended = v.before.before

  abbrev start : tie.Start
  start = ended.before.before

  abbrev csv : List ℕ
  csv = start.args.csv.now

  abbrev at : ℕ
  at = start.args.at

  number-field : v.part_of.result.now ≡ get_or (fields_of (drop at csv)) 6 []
  number-field =
      v.part_of.ensures ∙ field-here start.requires.0 6 (omega arith) start.requires.1 ended.field_end-end.ensures

  begun : ended.field_end-end.result + 1 ≡ field_start csv at 7
  begun =
      next_here start.requires.0 6 (omega arith) start.requires.1
      (add-one ended.field_end-end.result ∙ ap suc ended.field_end-end.ensures)

add-cut-field : tie.Need-overflow_add-end
add-cut-field c =
    let s = start c in
    omega (arith, (ended c).field_end-end.ensures, end-high s.requires.0 6 (omega arith) s.requires.1, s.well_formed.0.1)

cut-field-requires : tie.Need-cut_field-first-requires
cut-field-requires c κs = cut-here (start c).requires.0 7 (omega arith) (begun c)

module _ (c : tie.After-cut_field-first) where
  abbrev start1 : tie.Start
  start1 = start c.before

  on1 : c.cut_field-first.result.next ≡ field_start (csv c.before) (at c.before) 8
  on1 = next_here start1.requires.0 7 (omega arith) (begun c.before) c.cut_field-first.ensures.1

cut-field-requires-2 : tie.Need-cut_field-second-requires
cut-field-requires-2 c κs = cut-here (start1 c.before).requires.0 8 (omega arith) (on1 c.before)

module _ (c : tie.After-cut_field-second) where
  abbrev start2 : tie.Start
  start2 = start1 c.before.before

  on2 : c.cut_field-second.result.next ≡ field_start start2.args.csv.now start2.args.at 9
  on2 = next_here start2.requires.0 8 (omega arith) (on1 c.before.before) c.cut_field-second.ensures.1

cut-field-requires-3 : tie.Need-cut_field-third-requires
cut-field-requires-3 c κs = cut-here (start2 c.before).requires.0 9 (omega arith) (on2 c.before)

module _ (c : tie.After-cut_field-third) where
  abbrev start3 : tie.Start
  start3 = start2 c.before.before

  on3 : c.cut_field-third.result.next ≡ field_start start3.args.csv.now start3.args.at 10
  on3 = next_here start3.requires.0 9 (omega arith) (on2 c.before.before) c.cut_field-third.ensures.1

cut-field-requires-4 : tie.Need-cut_field-fourth-requires
cut-field-requires-4 c κs = cut-here (start3 c.before).requires.0 10 (omega arith) (on3 c.before)

module _ (c : tie.After-cut_field-fourth) where
  abbrev start4 : tie.Start
  start4 = start3 c.before.before

  on4 : c.cut_field-fourth.result.next ≡ field_start start4.args.csv.now start4.args.at 11
  on4 = next_here start4.requires.0 10 (omega arith) (on3 c.before.before) c.cut_field-fourth.ensures.1

cut-field-requires-5 : tie.Need-cut_field-fifth-requires
cut-field-requires-5 c κs = cut-here (start4 c.before).requires.0 11 (omega arith) (on4 c.before)

cast-t18 : tie.Need-overflow_cast-result
cast-t18 c =
    let v = c in
    omega (
      arith,
      v.value_of-number.ensures,
      ap value (number-field v.before.before.before.before.before.before.before.before.before.before),
      four-digits (get_or (fields_of (drop (at v.before.before.before.before.before.before.before.before.before.before) (csv v.before.before.before.before.before.before.before.before.before.before))) 6 []) (short (start v.before.before.before.before.before.before.before.before.before.before).requires.0 6 (omega arith)),
    )

returns : tie.Need-returns
returns c =
    let fifth = c in
    let fourth = fifth in
    let third = fourth in
    let second = third in
    let first = second in
    let v = first in
    let row = (start v.before.before.before.before.before.before.before.before.before.before).requires.0 in
    record {
      number = v.value_of-number.ensures ∙ ap value (number-field v.before.before.before.before.before.before.before.before.before.before);
      building = said_here row 7 (omega arith) (begun v.before.before.before.before.before.before.before.before.before.before) first.cut_field-first.ensures.0;
      sub_building = said_here row 8 (omega arith) (on1 first.before.before.before.before.before.before.before.before.before) second.cut_field-second.ensures.0;
      box = said_here row 9 (omega arith) (on2 second.before.before.before.before.before.before.before) third.cut_field-third.ensures.0;
      department = said_here row 10 (omega arith) (on3 third.before.before.before.before.before) fourth.cut_field-fourth.ensures.0;
      organisation = said_here row 11 (omega arith) (on4 fourth.before.before.before) fifth.cut_field-fifth.ensures.0;
    }

pub premises_of_spec : {M : Type 1} → statement M
premises_of_spec =
    tie.close
    (tie.spec (search rules) (search rules) (search rules) add-cut-field cut-field-requires cut-field-requires-2
    cut-field-requires-3 cut-field-requires-4 cut-field-requires-5 cast-t18 returns)
