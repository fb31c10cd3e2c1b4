-- `mainfile_source::delivery::own_row` meets its contract. Assumes nothing.
use borrow.Author.Rules.{rules}
use mathlib.Core.Path.{refl, ◌∙◌}
use borrow.Author.Tests.{eq-eqb, ne_eqb}
use lib.ListN.{get_or}
use Rattle.field.specs.Digits.{value}
use Rattle.field.specs.Text.{part}
use Rattle.mainfile.specs.Addresses.{needs_row}
use Rattle.mainfile_source.specs.Delivery.{own_found}
use Rattle.mainfile_source.proofs.delivery.own_row.Statement.{statement}
use Rattle.mainfile_source.proofs.delivery.own_row.Tie as tie

returns : tie.Need-returns-then-byte_of-eq76
unfolding own_found needs_row
returns c =
    let k = c in
    let t = k in
    let b = t in
    let rec = b.args.rec.now in
    rw (c.organisation_row.ensures, k.key_in-key.ensures)
    (simp (eq-eqb (get_or rec 77 0) 76 (rw b.byte_of.ensures at t.if-byte_of-eq76.true)))

returns-2 : tie.Need-returns-then-key-eq0
unfolding own_found needs_row
returns-2 c =
    let k = c in
    let e = k in
    let b = e in
    let rec = b.args.rec.now in
    simp (
      ne_eqb (get_or rec 77 0) 76 (rw b.byte_of.ensures at e.if-byte_of-eq76.false),
      eq-eqb (value (part rec 69 77)) 0 (rw k.key_in-key-2.ensures at c.if-key-eq0.true),
    )

returns-3 : tie.Need-returns
unfolding own_found needs_row
returns-3 c =
    let f = c in
    let k = f in
    let e = k in
    let b = e in
    let rec = b.args.rec.now in
    rw (c.organisation_row-2.ensures, k.key_in-key-2.ensures)
    (simp (
      ne_eqb (get_or rec 77 0) 76 (rw b.byte_of.ensures at e.if-byte_of-eq76.false),
      ne_eqb (value (part rec 69 77)) 0 (rw k.key_in-key-2.ensures at f.if-key-eq0.false),
    ))

pub own_row_spec : {M : Type 1} → statement M
own_row_spec = tie.close (tie.spec (λ c κs. search rules) (λ c κs. search rules) (λ c κs. search rules) returns (λ c κs. search rules) returns-2 (λ c κs. search rules) returns-3)
