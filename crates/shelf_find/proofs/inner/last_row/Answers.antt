use Rattle.std.proofs.Common.{sym, ◌∙◌}
use Rattle.shelf.specs.Shelf.{ref_at, last_of}
use Rattle.shelf.specs.Search.{last_found}
use Rattle.shelf.proofs.Search.{found_none, found_here, found-other}
use Rattle.shelf_find.proofs.inner.last_row.Goals as goal

pub returns-then-end-le1 : goal.returns-then-end-le1
unfolding last_found
returns-then-end-le1 c =
    let a = c.args in
    sym (found_none (ref_at a.s a.file.now) a.r (last_of a.s a.file.now) (rw c.upper_bound-end.ensures at c.if-end-le1.true))

pub returns-then-ref_at-r : goal.returns-then-ref_at-r
unfolding last_found
returns-then-ref_at-r c =
    let a = c.args in
    rw c.upper_bound-end.ensures
    (sym
    (found_here (ref_at a.s a.file.now) a.r (last_of a.s a.file.now) (rw c.upper_bound-end.ensures at c.if-end-le1.false)
    (rw c.upper_bound-end.ensures at (sym c.ref_at.ensures.0 ∙ c.if-ref_at-r.true))))

pub returns-else-ref_at-r : goal.returns-else-ref_at-r
unfolding last_found
returns-else-ref_at-r c =
    let a = c.args in
    sym
    (found-other (ref_at a.s a.file.now) a.r (last_of a.s a.file.now) (rw c.upper_bound-end.ensures at c.if-end-le1.false)
    (λ e. c.if-ref_at-r.false (c.ref_at.ensures.0 ∙ rw c.upper_bound-end.ensures e)))
