-- `report_write::write_report` meets its contract. Assumes nothing.
use borrow.Author.Rules.{rules}
use mathlib.Core.Path.{sym, ◌∙◌}
use Rattle.report.proofs.Feeds.{fed-as, fed-wrote}
use Rattle.report_write.proofs.Runs.{table-long, table_taken, table-refused}
use Rattle.report_write.proofs.write_report.Statement.{statement}
use Rattle.report_write.proofs.write_report.Tie as tie

returns : tie.Need-returns-then-table-gt-TABLE_MOST
returns c =
    let t = c in
    let i = t in
    let a = i.args in
    fed-wrote (fed-as (table-long a.table.now a.points.now i.if-table-gt-TABLE_MOST.true) t.text_at.ensures)

write-points-requires : tie.Need-write_points-requires
write-points-requires c κs =
    sym c.check_table.ensures ∙ c.in-Ok.is

returns-2 : tie.Need-returns-in-Ok
returns-2 c =
    let k = c in
    let a = k.args in
    let same = sym k.check_table.ensures ∙ c.in-Ok.is in
    fed-wrote (fed-as (table_taken a.table.now a.points.now k.if-table-gt-TABLE_MOST.false _ same) c.write_points.ensures)

returns-3 : tie.Need-returns-in-Err
returns-3 c =
    let k = c in
    let a = k.args in
    let same = sym k.check_table.ensures ∙ c.in-Err.is in
    fed-wrote (fed-as (table-refused a.table.now a.points.now k.if-table-gt-TABLE_MOST.false _ _ same) c.write_refused.ensures)

pub write_report_spec : {M : Type 1} → statement M
write_report_spec =
    tie.close
    (tie.spec (search rules) (search rules) returns (search rules) (search rules) write-points-requires (search rules) (search rules) (search rules) returns-2 (search rules) returns-3)
