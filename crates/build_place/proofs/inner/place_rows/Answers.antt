use Rattle.std.proofs.Common.{ℕ, ◌≡◌, ◌-◌, not, cond, eqb, length, ap, ◌∙◌, arith}
use native.Mathlib.Nat.{le_refl}
use Rattle.shelf.specs.Shelf.{last_of}
use Rattle.shelf.specs.Stock.{stock_of}
use Rattle.build.specs.Rows.{row_bytes_at, bytes_to, count_to}
use Rattle.build.specs.Placed.{started}
use Rattle.build.proofs.Laws.{count-on, bytes-more, placing-on}
use Rattle.build_place.proofs.inner.place_rows.Goals as goal

pub loop-i-preserved : goal.loop-i-preserved
loop-i-preserved c =
    let a = c.args in
    let st = stock_of a.s a.file.now in
    let i = c.loop-i.i in
    let inv = c.loop-i.invariant in
    let placed = c.place_row-len.ensures in
    let size = placed.len.0 ∙ ap (λ (v : ℕ). cond (not (eqb v 0)) (length (row_bytes_at st i)) 0) (inv.placing.behind i (le_refl i)) in
    let one = c.one_if-rows.ensures.0 ∙ ap (λ (v : ℕ). cond (not (eqb v 0)) 1 0) size in
    record {
      placing = placing-on inv.placing (omega (arith, inv.placing.as_long)) (placed.start ∙ ap (started c.loop-i.marks i) inv.bytes);
      rows = omega (arith, one, count-on st a.marks.now i inv.placing.some);
      bytes = omega (arith, size, bytes-more st a.marks.now i inv.placing.some);
      within = omega arith;
      few = omega arith;
      small = omega arith;
    }

pub returns-clause-rows : goal.returns-clause-rows
returns-clause-rows c =
    let a = c.args in
    let end : c.loop-i.i - 1 ≡ last_of a.s a.file.now - 1 = omega arith in
    c.loop-i.invariant.rows ∙ ap (count_to a.marks.now) end

pub returns-clause-bytes : goal.returns-clause-bytes
returns-clause-bytes c =
    let a = c.args in
    let end : c.loop-i.i - 1 ≡ last_of a.s a.file.now - 1 = omega arith in
    c.loop-i.invariant.bytes ∙ ap (bytes_to (stock_of a.s a.file.now) a.marks.now) end
