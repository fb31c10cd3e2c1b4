-- `label_premises::inner::front_of` meets its contract: in the arm of a row the row is told, its front put together, and no
-- text is no text. Assumes nothing.
use borrow.Author.Rules.{rules}
use mathlib.Core.Path.{◌≡◌}
use Rattle.label.specs.Rows.{no_text}
use Rattle.label_premises.proofs.inner.front_of.Statement.{statement}
use Rattle.label_premises.proofs.inner.front_of.Tie as tie

none : (c : tie.After-no_text-none) → c.no_text-none.result ≡ no_text
none c = c.no_text-none.ensures

bare : tie.Need-returns-in-Bare
bare c = rw (c.in-Bare.is, c.front_at.ensures, none c.before.before.before.before)

name-line : tie.Need-returns-in-NameLine
name-line c = rw (c.in-NameLine.is, c.front_at-in-NameLine.ensures, none c.before.before.before.before)

name-front : tie.Need-returns-in-NameFront
name-front c = rw (c.in-NameFront.is, c.front_at-in-NameFront.ensures, none c.before.before.before.before)

sub-line : tie.Need-returns-in-SubLine
sub-line c = rw (c.in-SubLine.is, c.front_at-in-SubLine.ensures, none c.before.before.before.before)

sub-front : tie.Need-returns-in-SubFront
sub-front c = rw (c.in-SubFront.is, c.front_at-in-SubFront.ensures, none c.before.before.before.before)

both-line : tie.Need-returns-in-BothLine
both-line c = rw (c.in-BothLine.is, c.front_at-in-BothLine.ensures, none c.before.before.before.before)

both-front : tie.Need-returns-in-BothFront
both-front c = rw (c.in-BothFront.is, c.front_at-in-BothFront.ensures)

sub-line-name-front : tie.Need-returns-in-SubLineNameFront
sub-line-name-front c = rw (c.in-SubLineNameFront.is, c.front_at-in-SubLineNameFront.ensures, none c.before.before.before.before)

two-lines : tie.Need-returns-in-TwoLines
two-lines c = rw (c.in-TwoLines.is, c.front_at-in-TwoLines.ensures, none c.before.before.before.before)

pub front_of_spec : {M : Type 1} → statement M
front_of_spec =
    tie.close
    (tie.spec (search rules) (search rules) (search rules) (search rules) (search rules) (search rules)
    (search rules) (search rules) (search rules) (search rules) (search rules) (search rules) (search rules)
    (search rules) (search rules) (search rules) (search rules) (search rules) (search rules) bare name-line
    name-front sub-line sub-front both-line both-front sub-line-name-front two-lines)
