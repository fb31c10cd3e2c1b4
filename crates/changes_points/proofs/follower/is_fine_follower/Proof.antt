-- `changes_points::follower::is_fine_follower` meets its contract. Assumes nothing.
use borrow.Author.Rules.{rules}
use Rattle.changes_points.proofs.Owned.{own-head, not-a-view}
use Rattle.changes_points.proofs.Laws.{other-record}
use lib.ListN.{get_or}
use mathlib.Core.Bool.{false≢true}
use Rattle.changes_points.proofs.follower.is_fine_follower.Statement.{statement}
use Rattle.changes_points.proofs.follower.is_fine_follower.Tie as tie

returns : tie.Need-returns-then-rec-lt-WIDTH
returns c = λ e. absurd (false≢true e)

returns-2 : tie.Need-returns
returns-2 c =
    let byte = c in
    let start = byte in
    let owner = start.args.owner.now in
    let rec = start.args.rec.now in
    λ e.
    let each = c.is_fine_organisation.ensures e in
    other-record rec (not-a-view (get_or rec 41 0) start.requires.type) (own-head owner rec start.requires)
    (rw byte.byte_of-small.ensures at each.0)
    each.1

pub is_fine_follower_spec : {M : Type 1} → statement M
is_fine_follower_spec = tie.close (tie.spec returns (search rules) (search rules) returns-2)
