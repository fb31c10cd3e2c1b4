-- Assumes nothing.
use Rattle.std.proofs.Common.{sym, ◌∙◌, arith, rules}
use Rattle.std.proofs.Math.Nat.{mul-le-mul_right}
use lib.Seq.{ext_get_or}
use Rattle.pack.specs.Sectors.{sector_counts}
use Rattle.pack.specs.Opening.{digits_from}
use Rattle.pack.proofs.Sectors.{counts-long}
use Rattle.pack_counts.proofs.Laws.{counted-below, counted_next, counted-all}
use Rattle.pack_counts.proofs.inner.count_digits.Goals as goal

pub count_byte-requires : goal.count_byte-requires
count_byte-requires c =
    let a = c.args in
    λ d h. counted-below a.points.now a.start a.width a.n _ _ d _
    (omega (arith, mul-le-mul_right {m = 2} {n = a.width} a.n (omega arith)))
    (c.loop-i.invariant.1 d h)

pub loop-i-preserved : goal.loop-i-preserved
loop-i-preserved c =
    let a = c.args in
    let l = c.loop-i in (
      search rules,
      λ d h. rw c.count_byte.ensures
          (counted_next a.points.now a.start a.width a.n l.of_digits l.i d l.invariant.0 h (l.invariant.1 d h) (omega arith)),
    )

pub returns : goal.returns
returns c =
    let a = c.args in
    let l = c.loop-i in
    let whole = digits_from a.points.now a.width a.n a.start in
    ext_get_or 0 l.of_digits (sector_counts whole) (l.invariant.0 ∙ sym (counts-long whole))
    (λ d h. counted-all a.points.now a.start a.width a.n l.of_digits l.i d l.invariant.0 (omega arith) (l.invariant.1 d (omega arith)) (omega arith))
