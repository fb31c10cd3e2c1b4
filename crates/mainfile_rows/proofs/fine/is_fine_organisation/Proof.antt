-- `mainfile_rows::fine::is_fine_organisation` meets its contract. Assumes nothing.
use borrow.Author.Rules.{rules}
use mathlib.Core.Path.{sym, ◌∙◌}
use borrow.Author.Tests.{eqb-true}
use lib.Dec.{eqb}
use Rattle.file_fault.proofs.AtOnce.{three}
use Rattle.mainfile_rows.proofs.Laws.{organisation-fine}
use Rattle.mainfile_rows.proofs.fine.is_fine_organisation.Statement.{statement}
use Rattle.mainfile_rows.proofs.fine.is_fine_organisation.Tie as tie

returns : tie.Need-returns
returns c =
    let byte = c in
    let kind = byte in
    let key = kind in
    let rec = key.args.rec.now in
    λ e.
    let each = three key.is_fine_key-key.result (eqb kind.postcode_type_at-kind.result 0) c.is_fine_organisation-names.result e in
    let names = rw byte.byte_of-small.ensures at (c.is_fine_organisation-names.ensures each.2) in
    organisation-fine rec (key.is_fine_key-key.ensures each.0) (sym kind.postcode_type_at-kind.ensures ∙ eqb-true _ 0 each.1)
    names.0 names.1

pub is_fine_organisation_spec : {M : Type 1} → statement M
is_fine_organisation_spec =
    tie.close
    (tie.spec
    (search rules)
    (search rules)
    (search rules)
    (search rules)
    returns)
