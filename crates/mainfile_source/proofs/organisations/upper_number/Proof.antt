-- `mainfile_source::organisations::upper_number` meets its contract. The invariant: what is left to search gives the same
-- place. Assumes nothing.
use borrow.Author.Rules.{rules}
use Prim.Native.Nat.{◌-◌, ◌≤◌}
use native.Mathlib.Omega.{arith}
use native.Mathlib.Nat.{div-le_self}
use lib.ListN.{length}
use Rattle.shelf.proofs.Search.{Left, left-all, left-low, left-high, left-none}
use Rattle.mainfile_source.specs.Organisations.{number_at, last_in}
use Rattle.mainfile_source.proofs.organisations.upper_number.Statement.{statement}
use Rattle.mainfile_source.proofs.organisations.upper_number.Tie as tie

abbrev invariant-loop : tie.invariant-loop-low
invariant-loop file r low₀ high₀ low high = Left (number_at file) (last_in file) r low high

abbrev decreases-loop : tie.decreases-loop-low
decreases-loop file r low₀ high₀ low high = high - low

loop-holds : tie.Need-loop-low-init invariant-loop decreases-loop
loop-holds c =
    let a = c.args in
    rw c.last_in-high.ensures (left-all (number_at a.file.now) a.r (last_in a.file.now))

-- no place is behind the file
short : (c : tie.At-loop-low invariant-loop decreases-loop) → c.loop-low.high ≤ length c.args.file.now
short c =
    let a = c.args in
    omega (arith, c.loop-low.invariant.to, div-le_self (length a.file.now) 153)

loop-again : tie.Need-loop-low-preserved-then-r-number_at invariant-loop decreases-loop
loop-again c =
    let at-middle = c in
    let at-loop = at-middle in
    let a = at-loop.args in
    left-low (number_at a.file.now) a.r (last_in a.file.now) at-loop.loop-low.low at-loop.loop-low.high
    at-loop.loop-low.invariant at-middle.loop-low-test.true (rw at-middle.number_at.ensures at c.if-r-number_at.true)

loop-again-2 : tie.Need-loop-low-preserved invariant-loop decreases-loop
loop-again-2 c =
    let at-middle = c in
    let at-loop = at-middle in
    let a = at-loop.args in
    left-high (number_at a.file.now) a.r (last_in a.file.now) at-loop.loop-low.low at-loop.loop-low.high
    at-loop.loop-low.invariant at-middle.loop-low-test.true (rw at-middle.number_at.ensures at c.if-r-number_at.false)

returns : tie.Need-returns invariant-loop decreases-loop
returns c =
    let at-loop = c in
    let a = at-loop.args in
    left-none (number_at a.file.now) a.r (last_in a.file.now) at-loop.loop-low.low at-loop.loop-low.high
    at-loop.loop-low.invariant c.loop-low-test.false

pub upper_number_spec : {M : Type 1} → statement M
upper_number_spec = tie.close (tie.spec invariant-loop decreases-loop (λ c κs. search rules) loop-holds (λ c. search rules) (λ c. omega (arith, short c.before))
    (λ c κs. search rules) (λ c. search rules) loop-again (λ c. omega (arith, short c.before.before.before)) (λ c. search rules) loop-again-2 returns)
