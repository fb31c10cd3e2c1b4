-- `ttwibonal::rows::ttw_csv_labels` meets its contract. Assumes nothing.
use borrow.Author.Rules.{rules}
use Rattle.call.proofs.Laws.{told-running}
use Rattle.ttwibonal.proofs.rows.ttw_csv_labels.Statement.{statement}
use Rattle.ttwibonal.proofs.rows.ttw_csv_labels.Tie as tie

returns : tie.Need-returns
returns c =
    let b = c in
    let l = b in
    let a = l.args in
    told-running a.bytes.now c.packed_series.ensures b.bytes_of.ensures l.labels_of_rows-run.ensures

pub ttw_csv_labels_spec : {M : Type 1} → statement M
ttw_csv_labels_spec = tie.close (tie.spec (search rules) (search rules) (search rules) (search rules) returns)
