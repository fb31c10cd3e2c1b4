-- `pack_label::inner::point_label` meets its contract. Assumes nothing.
use borrow.Author.Rules.{rules}
use mathlib.Core.Path.{◌≡◌, refl, sym, ap, ap₂, ◌∙◌}
use mathlib.Core.List.{List}
use native.Mathlib.Omega.{arith}
use Prim.Native.Nat.{ℕ, ◌+◌, ◌-◌, ◌*◌, ◌≤◌}
use lib.Dec.{lit≤}
use lib.ListN.{take, length}
use lib.Seq.{length-take-le}
use Rattle.pack.specs.Opening.{rest_of}
use Rattle.pack.specs.Points.{elements_from, point_place}
use Rattle.pack_read.specs.Laid.{LaidIn}
use Rattle.pack_points.specs.Ready.{PointIn}
use Rattle.pack_points.proofs.PointLaws.{trailed, point-in}
use Rattle.pack_label.proofs.inner.point_label.Statement.{statement}
use Rattle.pack_label.proofs.inner.point_label.Tie as tie

-- once the start of the points is read, the point is there
module _ (c : tie.After-trailer_number-start) where
  abbrev start : tie.Start
  start = c.before.before.before.before

  abbrev pack : List ℕ
  pack = start.args.pack.now

  abbrev k : ℕ
  k = start.args.k

  abbrev laid : LaidIn pack c.layout_in-layout.result
  laid = c.layout_in-layout.ensures

  place : c.trailer_number-start.result + c.layout_in-layout.result.point * (k - 1) ≡ point_place pack k
  place = ap₂ (λ s w. s + w * (k - 1)) c.trailer_number-start.ensures.0 laid.point

  here : PointIn pack (point_place pack k)
  here = point-in pack start.requires.0 (k - 1) (point_place pack k) (omega (arith, start.requires.1.0, start.requires.1.1)) refl

  rest : c.trailer_number-start.result + c.layout_in-layout.result.point * (k - 1) + c.layout_in-layout.result.rest
      ≡ rest_of pack (point_place pack k)
  rest = ap₂ ◌+◌ place laid.rest

  within : c.trailer_number-start.result ≤ length pack
  within = omega (arith, place, here)

trailer-number-requires : tie.Need-trailer_number-start-requires
trailer-number-requires c κs =
    let start = c in
    (trailed start.args.pack.now start.requires.0 _ c.layout_in-layout.ensures, lit≤ tt)

mul_at : tie.Need-overflow_mul-at
mul_at c = omega (arith, place c.before, here c.before, (start c.before).well_formed.0.0)

add_at : tie.Need-overflow_add-at
add_at c = omega (arith, place c.before, here c.before, (start c.before).well_formed.0.0)

slice-aggregate-rows : tie.Need-slice_bounds-rows-end
slice-aggregate-rows c = sym (length-take-le _ _ (within c.before))

add-spans-at : tie.Need-overflow_add-at-2
add-spans-at c =
    let read = c in
    omega (arith, rest read.before.before, here read.before.before, (start read.before.before).well_formed.0.0)

spans-at-requires : tie.Need-spans_at-requires
spans-at-requires c κs =
    let read = c in (
      omega (arith, place read.before.before, here read.before.before),
      (
        omega (arith, rest read.before.before, here read.before.before),
        ap (λ n. take n (pack read.before.before)) read.trailer_number-start.ensures.0,
      ),
    )

returns : tie.Need-returns
returns c =
    let printed = c in
    let spanned = printed in
    let read = spanned in
    let meant = spanned.spans_at.ensures ∙ ap₂ (elements_from (pack read.before.before.before.before.before.before.before)) (place read.before.before.before.before.before.before.before) (rest read.before.before.before.before.before.before.before) in
    rw meant at printed.print_label.ensures

pub point_label_spec : {M : Type 1} → statement M
point_label_spec =
    tie.close
    (tie.spec
    (λ c κs. search rules)
    trailer-number-requires
    (λ c. search rules)
    mul_at
    add_at
    slice-aggregate-rows
    add-spans-at
    spans-at-requires
    (λ c κs. search rules)
    (λ c. search rules)
    returns)
