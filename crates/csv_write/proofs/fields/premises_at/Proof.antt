-- `csv_write::fields::premises_at` meets its contract: six fields, one behind the other. Assumes nothing.
use borrow.Author.Rules.{rules}
use Prim.Native.Nat.{ℕ}
use mathlib.Core.List.{List}
use lib.ListN.{drop}
use Rattle.label.proofs.Walk.{Walk, begun, room, step, last}
use Rattle.csv_write.specs.Pieces.{premises_in}
use Rattle.csv_write.proofs.Pieces.{premises_pieces, premises-made}
use Rattle.csv_write.proofs.fields.premises_at.Statement.{statement}
use Rattle.csv_write.proofs.fields.premises_at.Tie as tie

-- so many fields are put
abbrev Past : (c : tie.Start) → ℕ → ℕ → List ℕ → Type 0
Past c n at out =
    let g = c.args in let a = g.a.now in let b = g.b.now in
    Walk (premises_in a b g.e) (drop n (premises_pieces a b g.e)) g.out.now g.at at out

none : (c : tie.Start) → Past c 0 c.args.at c.args.out.now
none c = begun (premises-made _ _ c.args.e) c.requires

abbrev start : tie.After-number_field_at-i → tie.Start
start c = c.before.before.before.before.before

number : (c : tie.After-number_field_at-i) → Past (start c) 1 c.number_field_at-i.result c.number_field_at-i.new.out
number c = step (none (start c)) c.number_field_at-i.ensures

abbrev of-name : tie.After-field_at-j → tie.Start
of-name c = start c.before.before.before.before.before

building : (c : tie.After-field_at-j) → Past (of-name c) 2 c.field_at-j.result c.field_at-j.new.out
building c = step (number c.before.before.before.before.before) c.field_at-j.ensures

abbrev of-sub : tie.After-field_at-k → tie.Start
of-sub c = of-name c.before.before.before.before.before

sub_building : (c : tie.After-field_at-k) → Past (of-sub c) 3 c.field_at-k.result c.field_at-k.new.out
sub_building c = step (building c.before.before.before.before.before) c.field_at-k.ensures

abbrev of-box : tie.After-field_at-l → tie.Start
of-box c = of-sub c.before.before.before.before.before

box : (c : tie.After-field_at-l) → Past (of-box c) 4 c.field_at-l.result c.field_at-l.new.out
box c = step (sub_building c.before.before.before.before.before) c.field_at-l.ensures

abbrev of-department : tie.After-field_at-m → tie.Start
of-department c = of-box c.before.before.before.before.before

department : (c : tie.After-field_at-m)
    → Past (of-department c) 5 c.field_at-m.result c.field_at-m.new.out
department c = step (box c.before.before.before.before.before) c.field_at-m.ensures

returns : tie.Need-returns
returns c =
    let organisation = c in
    last (department organisation.before.before.before.before.before.before.before) organisation.field_at.ensures

pub premises_at_spec : {M : Type 1} → statement M
premises_at_spec =
    tie.close
    (tie.spec (λ c κs. room (none c.before.before.before.before)) (λ c κs. room (number c.before.before.before.before)) (λ c κs. room (building c.before.before.before.before)) (λ c κs. room (sub_building c.before.before.before.before)) (λ c κs. room (box c.before.before.before.before)) (λ c κs. room (department c.before.before.before.before)) (search rules) returns)
