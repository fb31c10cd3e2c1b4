-- `report_write::write_points` meets its contract. Assumes nothing.
use borrow.Author.Rules.{rules}
use mathlib.Core.Path.{sym, ◌∙◌}
use Rattle.file.specs.Formats.{table_format, point_format}
use Rattle.file.proofs.Accepted.{accepted}
use Rattle.report.proofs.Feeds.{fed-as}
use Rattle.report_write.proofs.Runs.{points-long, points-taken, points-refused}
use Rattle.report_write.proofs.write_points.Statement.{statement}
use Rattle.report_write.proofs.write_points.Tie as tie

returns : tie.Need-returns-then-points-gt-POINTS_MOST
returns c =
    let t = c in
    let i = t in
    let a = i.args in
    fed-as (points-long a.table.now a.points.now a.t i.if-points-gt-POINTS_MOST.true) t.text_at.ensures

write-pair-requires : tie.Need-write_pair-requires
write-pair-requires c κs =
    let k = c in
    let s = k.before.before.before.before.before.before.before in
    (accepted table_format s.args.table.now s.args.t s.requires, accepted point_format s.args.points.now _ (sym k.check_points.ensures ∙ c.in-Ok.is))

returns-2 : tie.Need-returns-in-Ok
returns-2 c =
    let k = c in
    let a = k.args in
    let same = sym k.check_points.ensures ∙ c.in-Ok.is in
    fed-as (points-taken a.table.now a.points.now a.t k.if-points-gt-POINTS_MOST.false _ same) c.write_pair.ensures

returns-3 : tie.Need-returns-in-Err
returns-3 c =
    let k = c in
    let a = k.args in
    let same = sym k.check_points.ensures ∙ c.in-Err.is in
    fed-as (points-refused a.table.now a.points.now a.t k.if-points-gt-POINTS_MOST.false _ _ same) c.write_refused.ensures

pub write_points_spec : {M : Type 1} → statement M
write_points_spec =
    tie.close
    (tie.spec (search rules) (search rules) returns (search rules) (search rules) write-pair-requires (search rules) (search rules) (search rules) returns-2 (search rules) returns-3)
