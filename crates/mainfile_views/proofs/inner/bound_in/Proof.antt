-- `mainfile_views::inner::bound_in` meets its contract. The invariant: what is left to search gives the same place. Assumes
-- nothing.
use borrow.Author.Rules.{rules}
use Prim.Native.Nat.{◌-◌, ◌/◌, ◌≤◌, ◌<◌}
use native.Mathlib.Omega.{arith}
use native.Mathlib.Nat.{div-le_self}
use lib.ListN.{length}
use Rattle.shelf.proofs.Search.{Left, left-all, left-low, left-high, left-none}
use Rattle.mainfile_views.specs.Range.{rank_at, last_of}
use Rattle.mainfile_views.proofs.inner.bound_in.Statement.{statement}
use Rattle.mainfile_views.proofs.inner.bound_in.Tie as tie

abbrev invariant-loop : tie.invariant-loop-low
invariant-loop addresses code r low₀ high₀ low high = Left (rank_at addresses code) (last_of addresses) r low high

abbrev decreases-loop : tie.decreases-loop-low
decreases-loop addresses code r low₀ high₀ low high = high - low

loop-holds : tie.Need-loop-low-init invariant-loop decreases-loop
loop-holds c =
    let a = c.args in
    rw c.last_of-high.ensures (left-all (rank_at a.addresses.now a.code.now) a.r (last_of a.addresses.now))

-- no place is behind the file
short : (c : tie.At-loop-low invariant-loop decreases-loop) → c.loop-low.high ≤ length c.args.addresses.now
short c =
    let a = c.args in
    omega (arith, c.loop-low.invariant.to, div-le_self (length a.addresses.now) 88)

rank-at-requires : tie.Need-rank_at-requires invariant-loop decreases-loop
rank-at-requires c κs = omega (arith, c.loop-low-test.true, c.loop-low.invariant.to)

loop-again : tie.Need-loop-low-preserved-then-r-rank_at invariant-loop decreases-loop
loop-again c =
    let at-middle = c in
    let at-loop = at-middle in
    let a = at-loop.args in
    left-low (rank_at a.addresses.now a.code.now) a.r (last_of a.addresses.now) at-loop.loop-low.low at-loop.loop-low.high
    at-loop.loop-low.invariant at-middle.loop-low-test.true (rw at-middle.rank_at.ensures at c.if-r-rank_at.true)

loop-again-2 : tie.Need-loop-low-preserved invariant-loop decreases-loop
loop-again-2 c =
    let at-middle = c in
    let at-loop = at-middle in
    let a = at-loop.args in
    left-high (rank_at a.addresses.now a.code.now) a.r (last_of a.addresses.now) at-loop.loop-low.low at-loop.loop-low.high
    at-loop.loop-low.invariant at-middle.loop-low-test.true (rw at-middle.rank_at.ensures at c.if-r-rank_at.false)

returns : tie.Need-returns invariant-loop decreases-loop
returns c =
    let at-loop = c in
    let a = at-loop.args in
    left-none (rank_at a.addresses.now a.code.now) a.r (last_of a.addresses.now) at-loop.loop-low.low at-loop.loop-low.high
    at-loop.loop-low.invariant c.loop-low-test.false

pub bound_in_spec : {M : Type 1} → statement M
bound_in_spec =
    tie.close
    (tie.spec
    invariant-loop
    decreases-loop
    (search rules)
    loop-holds
    (search rules)
    (λ c. omega (arith, short c.before))
    rank-at-requires
    (search rules)
    loop-again
    (λ c. omega (arith, short c.before.before.before))
    (search rules)
    loop-again-2
    returns)
