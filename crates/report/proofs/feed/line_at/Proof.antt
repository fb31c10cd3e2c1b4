-- `report::feed::line_at` meets its contract. Assumes nothing.
use borrow.Author.Rules.{rules}
use mathlib.Core.Path.{sym}
use lib.Seq.{length-take-le}
use Rattle.report.proofs.feed.line_at.Statement.{statement}
use Rattle.report.proofs.feed.line_at.Tie as tie

slice-aggregate-text-at : tie.Need-slice_bounds-text_at-end
slice-aggregate-text-at c = sym (length-take-le _ _ c.requires.1)

returns : tie.Need-returns
returns c = c.text_at.ensures

pub line_at_spec : {M : Type 1} → statement M
line_at_spec = tie.close (tie.spec (search rules) slice-aggregate-text-at (search rules) (search rules) returns)
