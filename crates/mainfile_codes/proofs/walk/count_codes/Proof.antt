-- `mainfile_codes::walk::count_codes` meets its contract. The invariant: the codes from record i on are left to count.
-- Assumes nothing.
use borrow.Author.Rules.{rules}
use Prim.Native.Nat.{ℕ, ◌+◌, ◌-◌, ◌≤◌, ◌<◌}
use mathlib.Core.Path.{◌≡◌, ap}
use mathlib.Core.List.{List}
use native.Mathlib.Omega.{arith}
use lib.ListN.{length}
use Rattle.mainfile_views.specs.Range.{last_of}
use Rattle.mainfile_codes.specs.Codes.{codes_in}
use Rattle.mainfile_codes.proofs.Stretches.{entries_from, entries-end, Onward, last-is, entries-start, entries-few, onward}
use Rattle.mainfile_codes.proofs.walk.count_codes.Statement.{statement}
use Rattle.mainfile_codes.proofs.walk.count_codes.Tie as tie

abbrev invariant-loop : tie.invariant-loop-i
invariant-loop addresses views n₀ i₀ n i =
    (1 ≤ i) × (i ≤ last_of addresses) × (n + length (entries_from addresses i) ≡ length (codes_in addresses))

abbrev decreases-loop : tie.decreases-loop-i
decreases-loop addresses views n₀ i₀ n i = last_of addresses - i

module _ (n : tie.In-loop-i invariant-loop decreases-loop) where
  abbrev l : tie.At-loop-i invariant-loop decreases-loop
  l = n.before

  abbrev s : tie.Start invariant-loop decreases-loop
  s = l.before.before.before

  abbrev file : List ℕ
  file = s.args.addresses.now

  inside : l.loop-i.i < last_of file
  inside = omega (arith, n.loop-i-test.true, l.all_in-all.ensures.1, last-is file s.requires)

-- once the end of a code's addresses is known
module _ (e : tie.After-end_from-i invariant-loop decreases-loop) where
  abbrev turn : tie.In-loop-i invariant-loop decreases-loop
  turn = e.before

  on : Onward (file turn) (l turn).loop-i.i e.end_from-i.result
  on = onward (file turn) (s turn).requires _ (l turn).loop-i.invariant.0 (inside turn) _ e.end_from-i.ensures

loop-holds : tie.Need-loop-i-init invariant-loop decreases-loop
loop-holds c =
    let s = c in
    let file = s.args.addresses.now in
    (omega arith, omega (arith, last-is file s.requires), omega (arith, ap length (entries-start file s.requires)))

end-from-requires : tie.Need-end_from-i-requires invariant-loop decreases-loop
end-from-requires c κs = omega (arith, inside c)

add-n : tie.Need-overflow_add-n invariant-loop decreases-loop
add-n c =
    let n = turn c in
    omega (arith, (l n).loop-i.invariant.2, entries-few (file n) (s n).requires)

loop-less : tie.Need-loop-i-smaller invariant-loop decreases-loop
loop-less c = omega (arith, (on c).further, (on c).within)

loop-again : tie.Need-loop-i-preserved invariant-loop decreases-loop
loop-again c =
    let o = on c in
    (omega (arith, o.further), o.within, omega (arith, ap length o.entries, (l (turn c)).loop-i.invariant.2))

returns : tie.Need-returns invariant-loop decreases-loop
returns c =
    let l = c in
    let s = l in
    let file = s.args.addresses.now in
    let all_seen : last_of file ≤ l.loop-i.i =
    omega (arith, c.loop-i-test.false, l.all_in-all.ensures.1, last-is file s.requires) in
    let none = ap length (entries-end file l.loop-i.i all_seen) in
    let is : l.loop-i.n ≡ length (codes_in file) = omega (arith, none, l.loop-i.invariant.2) in
    (is, omega (arith, entries-few file s.requires))

pub count_codes_spec : {M : Type 1} → statement M
count_codes_spec =
    tie.close
    (tie.spec
    invariant-loop
    decreases-loop
    (search rules)
    loop-holds
    end-from-requires
    add-n
    loop-less
    loop-again
    returns)
