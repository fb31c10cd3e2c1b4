-- `report_write::write_refused` meets its contract. Assumes nothing.
use borrow.Author.Rules.{rules}
use Rattle.report.proofs.Feeds.{fed_then}
use Rattle.report_write.proofs.write_refused.Statement.{statement}
use Rattle.report_write.proofs.write_refused.Tie as tie

returns : tie.Need-returns
returns c =
    let r = c in
    let t = r in
    let w = t in
    fed_then w.text_at-i.ensures (fed_then t.text_at-j.ensures r.refused_at.ensures)

pub write_refused_spec : {M : Type 1} → statement M
write_refused_spec =
    tie.close
    (tie.spec (search rules) (search rules) (search rules) (search rules) returns)
