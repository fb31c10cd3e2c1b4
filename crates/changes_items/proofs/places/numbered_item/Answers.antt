use Rattle.std.proofs.Common.{ℕ, List, get_or, ap, ◌∙◌}
use Rattle.item.specs.Lines.{view_line}
use Rattle.changes_items.proofs.Laws.{numbered-item}
use Rattle.changes_items.proofs.places.numbered_item.Goals as goal

pub returns : goal.returns
returns c =
    let a = c.args in
    let read = c.byte_of-letter.ensures ∙ ap (λ (l : List ℕ). get_or l 40 0) c.point_record.ensures in
    let line = c.view_line-line.ensures.is ∙ ap (view_line a.view) read in
    rw line at c.item_at.ensures ∙ numbered-item a.table.now a.points.now a.place a.view a.out.now c.requires.1
