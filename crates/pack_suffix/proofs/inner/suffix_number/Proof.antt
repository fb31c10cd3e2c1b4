-- `pack_suffix::inner::suffix_number` meets its contract. Assumes nothing.
use borrow.Author.Rules.{rules}
use Prim.Native.Nat.{ℕ, ◌+◌, ◌-◌, ◌*◌}
use mathlib.Core.Path.{◌≡◌, refl, ap, ap₂, ◌∙◌}
use mathlib.Core.List.{List}
use native.Mathlib.Omega.{arith}
use Rattle.pack.specs.Names.{suffix_at, suffix_width}
use Rattle.pack.specs.Numbers.{number_at}
use Rattle.pack.specs.Points.{point_place}
use Rattle.pack_points.specs.Ready.{PointIn}
use Rattle.pack_points.proofs.PointLaws.{point-in}
use Rattle.pack_suffix.proofs.inner.suffix_number.Statement.{statement}
use Rattle.pack_suffix.proofs.inner.suffix_number.Tie as tie

-- once the start of the points is read, the point is there
module _ (c : tie.After-trailer_number-start) where
  abbrev start : tie.Start
  start = c.before.before.before

  abbrev pack : List ℕ
  pack = start.args.pack.now

  abbrev k : ℕ
  k = start.args.k

  place : c.trailer_number-start.result + c.layout_in-layout.result.point * (k - 1) ≡ point_place pack k
  place = ap₂ (λ s w. s + w * (k - 1)) c.trailer_number-start.ensures.0 c.layout_in-layout.ensures.point

  here : PointIn pack (point_place pack k)
  here = point-in pack start.requires.0 (k - 1) (point_place pack k) (omega (arith, start.requires.1.0, start.requires.1.1)) refl

mul_at : tie.Need-overflow_mul-at
mul_at c = omega (arith, place c.before, here c.before, (start c.before).well_formed.0)

add_at : tie.Need-overflow_add-at
add_at c = omega (arith, place c.before, here c.before, (start c.before).well_formed.0)

add-number-within : tie.Need-overflow_add-at-2
add-number-within c = omega (arith, place c.before, here c.before, (start c.before).well_formed.0)

number-within-requires : tie.Need-number_within-requires
number-within-requires c κs = (omega (arith, place c.before, here c.before), omega arith)

returns : tie.Need-returns
unfolding number_at
returns c =
    let read = c in
    c.number_within.ensures.0 ∙ ap (λ at. number_at (pack read.before.before) (at + suffix_at) suffix_width) (place read.before.before)

pub suffix_number_spec : {M : Type 1} → statement M
suffix_number_spec =
    tie.close
    (tie.spec
    (λ c κs. search rules)
    (λ c κs. search rules)
    (λ c. search rules)
    mul_at
    add_at
    add-number-within
    number-within-requires
    returns)
