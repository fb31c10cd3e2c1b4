-- `mainfile_rows::fine::is_fine_descriptor` meets its contract. Assumes nothing.
use borrow.Author.Rules.{rules}
use Rattle.field.proofs.Tests.{and_left, and_right}
use Rattle.mainfile_rows.proofs.Laws.{text-fine}
use Rattle.mainfile_rows.proofs.fine.is_fine_descriptor.Statement.{statement}
use Rattle.mainfile_rows.proofs.fine.is_fine_descriptor.Tie as tie

returns : tie.Need-returns
returns c =
    let key = c in
    let rec = key.args.rec.now in
    λ e.
    text-fine rec 4 20 (key.is_fine_short_key-key.ensures (and_left key.is_fine_short_key-key.result _ e))
    (c.is_fine_text.ensures (and_right key.is_fine_short_key-key.result _ e))

pub is_fine_descriptor_spec : {M : Type 1} → statement M
is_fine_descriptor_spec =
    tie.close
    (tie.spec (search rules) (search rules) returns)
