-- `csv_write::fields::places_at` meets its contract: six fields, one behind the other. Assumes nothing.
use borrow.Author.Rules.{rules}
use Prim.Native.Nat.{ℕ}
use mathlib.Core.List.{List}
use lib.ListN.{drop}
use Rattle.label.proofs.Walk.{Walk, begun, room, step, last}
use Rattle.csv_write.specs.Pieces.{places_in}
use Rattle.csv_write.proofs.Pieces.{places_pieces, places-made}
use Rattle.csv_write.proofs.fields.places_at.Statement.{statement}
use Rattle.csv_write.proofs.fields.places_at.Tie as tie

-- so many fields are put
abbrev Past : (c : tie.Start) → ℕ → ℕ → List ℕ → Type 0
Past c n at out =
    let g = c.args in let a = g.a.now in let b = g.b.now in
    Walk (places_in a b g.e) (drop n (places_pieces a b g.e)) g.out.now g.at at out

none : (c : tie.Start) → Past c 0 c.args.at c.args.out.now
none c = begun (places-made _ _ c.args.e) c.requires

abbrev start : tie.After-postcode_at-i → tie.Start
start c = c.before.before.before.before.before.before.before

postcode : (c : tie.After-postcode_at-i) → Past (start c) 1 c.postcode_at-i.result c.postcode_at-i.new.out
postcode c = step (none (start c)) c.postcode_at-i.ensures

abbrev of-town : tie.After-field_at-j → tie.Start
of-town c = start c.before.before.before.before.before

town : (c : tie.After-field_at-j) → Past (of-town c) 2 c.field_at-j.result c.field_at-j.new.out
town c = step (postcode c.before.before.before.before.before) c.field_at-j.ensures

abbrev of-dependent : tie.After-field_at-k → tie.Start
of-dependent c = of-town c.before.before.before.before.before

dependent : (c : tie.After-field_at-k) → Past (of-dependent c) 3 c.field_at-k.result c.field_at-k.new.out
dependent c = step (town c.before.before.before.before.before) c.field_at-k.ensures

abbrev of-double : tie.After-field_at-l → tie.Start
of-double c = of-dependent c.before.before.before.before.before

double : (c : tie.After-field_at-l) → Past (of-double c) 4 c.field_at-l.result c.field_at-l.new.out
double c = step (dependent c.before.before.before.before.before) c.field_at-l.ensures

abbrev of-street : tie.After-street_at-m → tie.Start
of-street c = of-double c.before.before.before.before.before.before

street : (c : tie.After-street_at-m) → Past (of-street c) 5 c.street_at-m.result c.street_at-m.new.out
street c = step (double c.before.before.before.before.before.before) c.street_at-m.ensures

returns : tie.Need-returns
returns c =
    let beside = c in
    last (street beside.before.before.before.before.before.before.before.before) beside.street_at.ensures

pub places_at_spec : {M : Type 1} → statement M
places_at_spec =
    tie.close
    (tie.spec (λ c κs. room (none c.before.before.before.before.before.before)) (λ c κs. room (postcode c.before.before.before.before)) (λ c κs. room (town c.before.before.before.before)) (λ c κs. room (dependent c.before.before.before.before)) (λ c κs. room (double c.before.before.before.before.before)) (λ c κs. room (street c.before.before.before.before.before)) (search rules) returns)
