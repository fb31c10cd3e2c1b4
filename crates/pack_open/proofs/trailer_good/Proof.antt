-- `pack_open::trailer_good` meets its contract. Assumes nothing.
use borrow.Author.Rules.{rules}
use mathlib.Core.Path.{sym, ap, ◌∙◌}
use mathlib.Core.List.{List}
use Prim.Native.Nat.{ℕ, ◌*◌, ◌≤◌}
use native.Mathlib.Omega.{arith}
use Rattle.field_outward.specs.Outward.{outward_fault}
use Rattle.pack.specs.Opening.{edition}
use Rattle.pack.proofs.Widths.{trailer-small, points-small}
use Rattle.pack_open.proofs.Trailers.{trailer-short, trailer-tests}
use Rattle.pack_open.proofs.trailer_good.Statement.{statement}
use Rattle.pack_open.proofs.trailer_good.Tie as tie

returns : tie.Need-returns-then-n-layout
returns c =
    let start = c in
    sym (trailer-short start.args.pack.now (rw start.requires.trailer at c.if-n-layout.true))

-- once all is read, the sum is not too large
module _ (c : tie.After-trailer_number-count) where
  abbrev start : tie.Start
  start = c.before.before.before.before.before.before.before.before.before

  abbrev pack : List ℕ
  pack = start.args.pack.now

  points : start.args.layout.point * c.trailer_number-count.result ≤ 64 * 4_294_967_296
  points = rw start.requires.point (points-small (edition pack) c.trailer_number-count.result c.trailer_number-count.ensures.1)

  trailer : start.args.layout.trailer ≤ 64
  trailer = rw start.requires.trailer (trailer-small (edition pack))

mul-end : tie.Need-overflow_mul-end
mul-end c = omega (arith, points c.before)

add-end : tie.Need-overflow_add-end
add-end c = omega (arith, points c.before, c.trailer_number-start.ensures.1)

add-end-2 : tie.Need-overflow_add-end-2
add-end-2 c =
    let counted = c in
    omega (arith, points counted.before.before, trailer counted.before.before, counted.trailer_number-start.ensures.1)

returns-2 : tie.Need-returns
returns-2 c =
    let counted = c in
    let started = counted in
    let coded = started in
    let said = coded in
    let tested = said in
    trailer-tests (pack counted.before.before) (start counted.before.before).args.layout (start counted.before.before).requires tested.if-n-layout.false
    tested.is_known-known.ensures said.trailer_number-said.ensures.0
    (coded.outward_fault-fault.ensures ∙ ap outward_fault coded.outward_of.ensures)
    started.trailer_number-start.ensures.0 counted.trailer_number-count.ensures.0

pub trailer_good_spec : {M : Type 1} → statement M
trailer_good_spec =
    tie.close
    (tie.spec
    returns
    (λ c κs. search rules)
    (λ c κs. search rules)
    (λ c κs. search rules)
    (λ c κs. search rules)
    (λ c κs. search rules)
    (λ c κs. search rules)
    mul-end
    add-end
    add-end-2
    returns-2)
