-- `report::feed::number_at` meets its contract. Assumes nothing.
use borrow.Author.Rules.{rules}
use Rattle.report.proofs.Feeds.{fed-as}
use Rattle.report.proofs.feed.number_at.Statement.{statement}
use Rattle.report.proofs.feed.number_at.Tie as tie

line-at-requires : tie.Need-line_at-requires
line-at-requires c κs = (c.requires, c.number_line.ensures.within)

returns : tie.Need-returns
returns c =
    let written = c in
    fed-as written.number_line.ensures.is written.line_at.ensures

pub number_at_spec : {M : Type 1} → statement M
number_at_spec = tie.close (tie.spec (search rules) line-at-requires (search rules) returns)
