-- `ttwibonal::ttw_list` meets its contract. Assumes nothing.
use borrow.Author.Rules.{rules}
use Rattle.call.proofs.Laws.{told-running}
use Rattle.ttwibonal.proofs.ttw_list.Statement.{statement}
use Rattle.ttwibonal.proofs.ttw_list.Tie as tie

returns : tie.Need-returns
returns c =
    let b = c in
    let l = b in
    let a = l.args in
    told-running a.bytes.now c.packed_series.ensures b.bytes_of.ensures l.list_of_views-list.ensures

pub ttw_list_spec : {M : Type 1} → statement M
ttw_list_spec = tie.close (tie.spec (search rules) (search rules) (search rules) (search rules) returns)
