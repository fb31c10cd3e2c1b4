-- `mainfile_rows::fine::is_fine_locality` meets its contract. Assumes nothing.
use borrow.Author.Rules.{rules}
use Rattle.field.proofs.Tests.{and_left, and_right}
use Rattle.mainfile_rows.proofs.Laws.{locality-fine}
use Rattle.mainfile_rows.proofs.fine.is_fine_locality.Statement.{statement}
use Rattle.mainfile_rows.proofs.fine.is_fine_locality.Tie as tie

returns : tie.Need-returns
returns c =
    let key = c in
    let rec = key.args.rec.now in
    λ e.
    let texts = c.is_fine_places.ensures (and_right key.is_fine_short_key-key.result _ e) in
    locality-fine rec (key.is_fine_short_key-key.ensures (and_left key.is_fine_short_key-key.result _ e)) texts.0 texts.1 texts.2

pub is_fine_locality_spec : {M : Type 1} → statement M
is_fine_locality_spec =
    tie.close
    (tie.spec (search rules) (search rules) returns)
