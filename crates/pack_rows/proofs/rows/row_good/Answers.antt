-- Assumes nothing.
use Rattle.pack.specs.Opening.{row_good}
use Rattle.pack_rows.proofs.rows.row_good.Goals as goal

pub returns : goal.returns
unfolding row_good
returns c = rw (c.double_good-double.ensures, c.texts_good-texts.ensures, c.requires.1, c.byte_of-kind.ensures)
