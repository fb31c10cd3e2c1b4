-- `ttwibonal::ttw_unspace_points` meets its contract. Assumes nothing.
use borrow.Author.Rules.{rules}
use mathlib.Core.Path.{ap}
use Rattle.refusal.proofs.Outcomes.{said-as}
use Rattle.call.proofs.Laws.{told-writing}
use Rattle.ttwibonal.proofs.ttw_unspace_points.Statement.{statement}
use Rattle.ttwibonal.proofs.ttw_unspace_points.Tie as tie
use Rattle.std.specs.Prelude.{Ok}

returns : tie.Need-returns
returns c =
    let u = c in
    told-writing c.packed_answer.ensures (said-as (ap Ok u.unspace_points.ensures.0) u.unspace_points.ensures.1)

pub ttw_unspace_points_spec : {M : Type 1} → statement M
ttw_unspace_points_spec = tie.close (tie.spec (search rules) (search rules) (search rules) returns)
