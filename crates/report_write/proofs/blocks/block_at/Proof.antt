-- `report_write::blocks::block_at` meets its contract. Assumes nothing.
use borrow.Author.Rules.{rules}
use mathlib.Core.Path.{ap, ◌∙◌}
use Prim.Native.Nat.{ℕ}
use mathlib.Core.List.{List, []}
use native.Mathlib.Omega.{arith}
use lib.ListN.{get_or}
use Rattle.file_record.specs.Parts.{record_at}
use Rattle.item.specs.Lines.{view_line}
use Rattle.changes_label.proofs.Laws.{wanted-place}
use Rattle.report.specs.Report.{view_text, block}
use Rattle.report.proofs.Feeds.{fed_then, fed-as}
use Rattle.report_write.proofs.blocks.block_at.Statement.{statement}
use Rattle.report_write.proofs.blocks.block_at.Tie as tie

line-at-requires : tie.Need-line_at-i-requires
line-at-requires c κs =
    let l = c in
    (l.requires.0, l.view_line.ensures.within)

view-at-requires : tie.Need-view_at-requires
view-at-requires c κs =
    let t = c in
    let w = t in
    let s = w.before.before.before.before.before in
    let place = wanted-place s.args.table.now s.args.points.now [] s.args.view s.requires.1 in
    (omega (arith, t.line_at-i.ensures.room), rw w.wanted_at-place.ensures place)

returns : tie.Need-returns
unfolding block
returns c =
    let v = c in
    let t = v in
    let l = t.before.before.before.before.before.before.before.before in
    let b = l in
    let r = b in
    let w = r in
    let a = w.args in
    let place = w.wanted_at-place.ensures in
    let letter =
    b.byte_of-letter.ensures
    ∙ ap (λ (l : List ℕ). get_or l 40 0)
    (r.point_record.ensures ∙ ap (λ (p : ℕ). record_at 168 a.points.now p) place) in
    fed_then (fed-as (l.view_line.ensures.is ∙ ap (view_line a.view) letter) t.line_at-i.ensures)
    (fed-as (ap (view_text a.table.now a.points.now) place) v.view_at.ensures)

pub block_at_spec : {M : Type 1} → statement M
block_at_spec =
    tie.close
    (tie.spec (search rules) (search rules) (search rules) (search rules) (search rules) line-at-requires
    view-at-requires (search rules) returns)
