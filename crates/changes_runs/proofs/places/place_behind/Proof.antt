-- `changes_runs::places::place_behind` meets its contract. Assumes nothing.
use borrow.Author.Rules.{rules}
use mathlib.Core.Path.{◌∙◌}
use Prim.Native.Nat.{◌+◌, ◌≤◌, ◌<◌}
use native.Mathlib.Omega.{arith}
use borrow.Author.Tests.{lt-ltb, le-ltb}
use Rattle.changes_views.specs.Views.{last_of, next_wanted}
use Rattle.changes_runs.proofs.places.place_behind.Statement.{statement}
use Rattle.changes_runs.proofs.places.place_behind.Tie as tie

returns : tie.Need-returns-then-next-last_of
returns c =
    let l = c in
    let n = l in
    let a = n.args in
    let next = next_wanted a.code.now a.points.now (a.place + 1) in
    let inside : next < last_of a.points.now = omega (arith, c.if-next-last_of.true, n.next_wanted-next.ensures, l.last_of.ensures) in
    n.next_wanted-next.ensures ∙ simp (lt-ltb next (last_of a.points.now) inside)

returns-2 : tie.Need-returns-else-next-last_of
returns-2 c =
    let l = c in
    let n = l in
    let a = n.args in
    let next = next_wanted a.code.now a.points.now (a.place + 1) in
    let outside : last_of a.points.now ≤ next = omega (arith, c.if-next-last_of.false, n.next_wanted-next.ensures, l.last_of.ensures) in
    simp (le-ltb next (last_of a.points.now) outside)

pub place_behind_spec : {M : Type 1} → statement M
place_behind_spec = tie.close (tie.spec (search rules) (search rules) (search rules) returns returns-2)
