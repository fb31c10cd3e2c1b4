-- `shelf_find::search::upper_by_digits` meets its contract. The invariant: what is left to search gives the same place.
-- Assumes nothing.
use borrow.Author.Rules.{rules}
use Prim.Native.Nat.{◌+◌, ◌-◌, ◌≤◌}
use mathlib.Core.Path.{◌≡◌, refl, sym, ◌∙◌}
use native.Mathlib.Omega.{arith}
use borrow.Author.Tests.{ltb-true, ltb-false}
use lib.Dec.{ltb}
use lib.ListN.{length}
use Rattle.shelf.specs.Shelf.{ref_at, last_of}
use Rattle.shelf.specs.Search.{middle}
use Rattle.shelf.proofs.Search.{Left, left-all, left-low, left-high, left-none}
use Rattle.shelf_find.specs.Nine.{Nine}
use Rattle.shelf_find.proofs.Nine.{nine-there, ref-past}
use Rattle.shelf_find.proofs.search.upper_by_digits.Statement.{statement}
use Rattle.shelf_find.proofs.search.upper_by_digits.Tie as tie

abbrev invariant-loop : tie.invariant-loop-low
invariant-loop file s r first others key low₀ high₀ low high = Left (ref_at s file) (last_of s file) r low high

abbrev decreases-loop : tie.decreases-loop-low
decreases-loop file s r first others key low₀ high₀ low high = high - low

loop-holds : tie.Need-loop-low-init invariant-loop decreases-loop
loop-holds c =
    let a = c.args in
    rw c.last_of-high.ensures (left-all (ref_at a.s a.file.now) a.r (last_of a.s a.file.now))

-- the record in the middle has nine bytes for its number
there : (c : tie.After-record_of-rec invariant-loop decreases-loop) → let a = c.args in
    a.s.key + 9 ≤ length c.record_of-rec.result.now
there c =
    let at-loop = c in
    let start = at-loop in
    let a = start.args in
    rw c.record_of-rec.ensures
    (nine-there a.s a.file.now (middle at-loop.loop-low.low at-loop.loop-low.high) start.requires.1 start.requires.0
    (omega (arith, at-loop.loop-low.invariant.to, c.loop-low-test.true)))

-- it is past where its number is above r
past : (c : tie.After-is_past invariant-loop decreases-loop)
    → let at-loop = c in
    let a = at-loop.args in
    c.is_past.result ≡ ltb a.r (ref_at a.s a.file.now (middle at-loop.loop-low.low at-loop.loop-low.high))
past c =
    let at-nine = c in
    let at-record = at-nine in
    let at-loop = at-record in
    let weighed = at-loop in
    let start = weighed in
    let a = start.args in
    let nine : Nine a.r _ _ = record { small = start.requires.3; is_first = refl; are_others = weighed.weight_of-others.ensures } in
    ref-past a.s a.file.now (middle at-loop.loop-low.low at-loop.loop-low.high) start.requires.1 a.r c.is_past.result
    start.requires.2
    (rw at-record.record_of-rec.ensures at (c.is_past.ensures a.r nine (at-nine.are_nine.ensures (c.if-not-are_nine.false))))

loop-again : tie.Need-loop-low-preserved-then-is_past invariant-loop decreases-loop
loop-again c =
    let at-loop = c in
    let a = at-loop.args in
    left-low (ref_at a.s a.file.now) a.r (last_of a.s a.file.now) at-loop.loop-low.low at-loop.loop-low.high
    at-loop.loop-low.invariant c.loop-low-test.true
    (ltb-true _ _ (sym (past c.before) ∙ c.if-is_past.true))

loop-again-2 : tie.Need-loop-low-preserved invariant-loop decreases-loop
loop-again-2 c =
    let at-loop = c in
    let a = at-loop.args in
    left-high (ref_at a.s a.file.now) a.r (last_of a.s a.file.now) at-loop.loop-low.low at-loop.loop-low.high
    at-loop.loop-low.invariant c.loop-low-test.true
    (ltb-false _ _ (sym (past c.before) ∙ c.if-is_past.false))

returns-2 : tie.Need-returns invariant-loop decreases-loop
returns-2 c =
    let at-loop = c in
    let a = at-loop.args in
    left-none (ref_at a.s a.file.now) a.r (last_of a.s a.file.now) at-loop.loop-low.low at-loop.loop-low.high
    at-loop.loop-low.invariant c.loop-low-test.false

pub upper_by_digits_spec : {M : Type 1} → statement M
upper_by_digits_spec =
    tie.close
    (tie.spec
    invariant-loop
    decreases-loop
    (search rules)
    (λ c κs. search rules)
    (λ c κs. c.requires.0)
    loop-holds
    (search rules)
    (search rules)
    (λ c κs. c.requires.0)
    (λ c κs. there c)
    (λ c κs. (c.requires.0, c.loop-low.invariant))
    (λ c. c.upper_from.ensures)
    (λ c κs. there c.before.before)
    (search rules)
    loop-again
    (search rules)
    (search rules)
    loop-again-2
    returns-2)
