use Rattle.std.proofs.Common.{rules, arith}
use Rattle.build_points.proofs.Point.{offset_at, offsets-are, made-each}
use Rattle.build_points.proofs.inner.key_offsets.Goals as goal

pub returns : goal.returns
returns c =
    let a = c.args in
    let items = c.from_fn-of_keys.ensures.items in
    offsets-are a.starts.now a.keys a.rows _ (omega arith) (omega arith) items.long
    (λ k h. made-each _ _ (offset_at a.starts.now a.keys a.rows) (λ i y q called. search rules) _ 7 0 items.each k (omega arith) (omega arith))
