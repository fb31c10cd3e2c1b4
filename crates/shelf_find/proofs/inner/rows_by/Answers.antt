use Rattle.std.proofs.Common.{rules, arith}
use Rattle.source.specs.Address.{key_kinds}
use Rattle.shelf.specs.Search.{found}
use Rattle.shelf_find.proofs.Rows.{row_at, rows-are, made-each}
use Rattle.shelf_find.proofs.inner.rows_by.Goals as goal

pub returns : goal.returns
returns c =
    let a = c.args in
    let row = found a.s a.file.now in
    let items = c.from_fn-rows.ensures.items in
    rows-are row a.keys _ (omega arith) items.long
    (λ k h. made-each _ _ (row_at row key_kinds a.keys) (λ i y q called. search rules) _ 7 0 items.each k (omega arith) (omega arith))
