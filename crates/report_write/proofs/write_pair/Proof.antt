-- `report_write::write_pair` meets its contract. Assumes nothing.
use borrow.Author.Rules.{rules}
use mathlib.Core.Path.{ap}
use Rattle.item.specs.Lines.{spaced_number}
use Rattle.report.specs.Report.{blocks, pair_text}
use Rattle.report.proofs.Feeds.{fed_then, fed-as}
use Rattle.report_write.proofs.write_pair.Statement.{statement}
use Rattle.report_write.proofs.write_pair.Tie as tie

returns : tie.Need-returns
unfolding pair_text
returns c =
    let b = c in
    let e = b in
    let v = e in
    let p = v in
    let t = p in
    let w = t in
    let n = w in
    let a = n.args in
    let views = n.count_wanted-views.ensures in
    fed_then w.text_at-i.ensures
    (fed_then t.number_at-j.ensures
    (fed_then p.number_at-k.ensures
    (fed_then (fed-as (ap spaced_number views) v.number_at-l.ensures)
    (fed_then e.text_at-m.ensures
    (fed-as (ap (blocks a.table.now a.points.now) views) b.blocks_at.ensures)))))

pub write_pair_spec : {M : Type 1} → statement M
write_pair_spec =
    tie.close
    (tie.spec (search rules) (search rules) (search rules) (search rules) (search rules) (search rules) (search rules) (λ c κs. search rules) (search rules) returns)
