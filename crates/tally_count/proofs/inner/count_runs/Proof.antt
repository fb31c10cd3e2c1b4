-- `tally_count::inner::count_runs` meets its contract. The invariant: the entries of all codes before i stand. Assumes
-- nothing.
use borrow.Author.Rules.{rules}
use Prim.Native.Nat.{◌-◌, ◌≤◌, ◌<◌}
use native.Mathlib.Omega.{arith}
use lib.ListN.{length}
use Rattle.tally_count.proofs.Counting.{Counting, counting-start, counting-on, counting-end, ones-long, twos-long}
use Rattle.tally_count.proofs.inner.count_runs.Statement.{statement}
use Rattle.tally_count.proofs.inner.count_runs.Tie as tie

abbrev invariant-loop : tie.invariant-loop-i
invariant-loop codes₀ counts₀ entries₀ i₀ codes counts entries i = Counting codes₀ counts₀ codes counts entries i

abbrev decreases-loop : tie.decreases-loop-i
decreases-loop codes₀ counts₀ entries₀ i₀ codes counts entries i = length codes₀ - i

-- once the run's end is known
module _ (r : tie.After-run_end-end invariant-loop decreases-loop) where
  abbrev l : tie.At-loop-i invariant-loop decreases-loop
  l = r.before.before.before

  abbrev s : tie.Start invariant-loop decreases-loop
  s = l.before.before.before

  inside : l.loop-i.i < length s.args.codes.now
  inside = omega (arith, ones-long l.loop-i.invariant, r.loop-i-test.true)

  place : l.loop-i.entries < length s.args.codes.now
  place = omega (arith, inside, l.loop-i.invariant.low)

  end-within : r.run_end-end.result ≤ length s.args.codes.now
  end-within = omega (arith, ones-long l.loop-i.invariant, r.run_end-end.ensures.1)

loop-holds : tie.Need-loop-i-init invariant-loop decreases-loop
loop-holds c =
    let s = c in
    counting-start s.args.codes.now s.args.counts.now s.requires.0

mul-codes : tie.Need-offset_bounds-codes-entries invariant-loop decreases-loop
mul-codes c = omega (arith, place c, (s c).well_formed.0)

slice-write-codes : tie.Need-bounds-codes-entries invariant-loop decreases-loop
slice-write-codes c = omega (arith, place c, ones-long (l c).loop-i.invariant)

sub-counts : tie.Need-overflow_sub-counts invariant-loop decreases-loop
sub-counts c = omega (arith, c.run_end-end.ensures.0)

cast-counts : tie.Need-overflow_cast-counts invariant-loop decreases-loop
cast-counts c = omega (arith, end-within c, (s c).requires.2)

mul-counts : tie.Need-offset_bounds-counts-entries invariant-loop decreases-loop
mul-counts c = omega (arith, place c, (s c).well_formed.0)

slice-write-counts : tie.Need-bounds-counts-entries invariant-loop decreases-loop
slice-write-counts c = omega (arith, place c, (s c).requires.1, twos-long (l c).loop-i.invariant (s c).requires.1)

add-entries : tie.Need-overflow_add-entries invariant-loop decreases-loop
add-entries c = omega (arith, place c, (s c).well_formed.0)

loop-less : tie.Need-loop-i-smaller invariant-loop decreases-loop
loop-less c = omega (arith, inside c, c.run_end-end.ensures.0)

loop-again : tie.Need-loop-i-preserved invariant-loop decreases-loop
loop-again c =
    counting-on (l c).loop-i.invariant (inside c) c.run_end-end.result c.run_end-end.ensures.0 (end-within c) (s c).requires.1

same_length : tie.Need-shape_of-codes invariant-loop decreases-loop
same_length c = ones-long c.loop-i.invariant

same-length-2 : tie.Need-shape_of-counts invariant-loop decreases-loop
same-length-2 c =
    let l = c in
    twos-long l.loop-i.invariant l.requires.1

returns : tie.Need-returns invariant-loop decreases-loop
returns c =
    let l = c in
    counting-end l.loop-i.invariant (omega (arith, ones-long l.loop-i.invariant, c.loop-i-test.false))

pub count_runs_spec : {M : Type 1} → statement M
count_runs_spec =
    tie.close
    (tie.spec
    invariant-loop
    decreases-loop
    loop-holds
    (search rules)
    (search rules)
    (search rules)
    mul-codes
    slice-write-codes
    sub-counts
    cast-counts
    mul-counts
    slice-write-counts
    add-entries
    loop-less
    loop-again
    same_length
    same-length-2
    returns)
