-- `report::feed::refused_at` meets its contract. Assumes nothing.
use borrow.Author.Rules.{rules}
use Rattle.report.proofs.Feeds.{fed-as}
use Rattle.report.proofs.feed.refused_at.Statement.{statement}
use Rattle.report.proofs.feed.refused_at.Tie as tie

line-at-requires : tie.Need-line_at-requires
line-at-requires c κs = (c.requires, c.refused_line.ensures.within)

returns : tie.Need-returns
returns c =
    let written = c in
    fed-as written.refused_line.ensures.is written.line_at.ensures

pub refused_at_spec : {M : Type 1} → statement M
refused_at_spec = tie.close (tie.spec (search rules) line-at-requires (search rules) returns)
