-- Assumes nothing.
use Rattle.pack_rows.proofs.EndLaws.{ends-good}
use Rattle.pack_rows.proofs.fine.ends_good.Goals as goal

pub returns : goal.returns
returns c =
    let a = c.args in
    λ e none. ends-good a.rows.now a.at c.requires a.width a.blank (rw c.lesser.ensures at e) none
