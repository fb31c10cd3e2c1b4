-- `mainfile_codes::walk::write_codes` meets its contract. The invariant: the entries from record i on are left to
-- write. Assumes nothing.
use borrow.Author.Rules.{rules}
use Prim.Native.Nat.{ℕ, ◌+◌, ◌-◌, ◌≤◌, ◌<◌}
use mathlib.Core.Path.{◌≡◌, refl, sym, ap, ◌∙◌}
use mathlib.Core.List.{List, ◌++◌}
use native.Mathlib.Omega.{arith}
use lib.ListN.{length}
use Rattle.label.proofs.Puts.{wrote, put_as}
use Rattle.label.proofs.Going.{Going, going_start, going-as, going-room, going_step, going_end}
use Rattle.mainfile_views.specs.Range.{last_of}
use Rattle.tally_bytes.specs.Entries.{one_entry, entry_bytes}
use Rattle.mainfile_codes.specs.Codes.{code_in, codes_in}
use Rattle.mainfile_codes.proofs.Stretches.{entries_from, entries-end, Onward, last-is, entries-start, onward}
use Rattle.mainfile_codes.proofs.walk.write_codes.Statement.{statement}
use Rattle.mainfile_codes.proofs.walk.write_codes.Tie as tie

abbrev invariant-loop : tie.invariant-loop-i
invariant-loop addresses out₀ views at₀ i₀ out at i =
    (length out ≡ length out₀)
    × (1 ≤ i)
    × (i ≤ last_of addresses)
    × Going (entry_bytes (codes_in addresses)) (entry_bytes (entries_from addresses i)) out₀ 0 at out

abbrev decreases-loop : tie.decreases-loop-i
decreases-loop addresses out₀ views at₀ i₀ out at i = last_of addresses - i

module _ (n : tie.In-loop-i invariant-loop decreases-loop) where
  abbrev l : tie.At-loop-i invariant-loop decreases-loop
  l = n.before

  abbrev s : tie.Start invariant-loop decreases-loop
  s = l.before.before.before.before

  abbrev file : List ℕ
  file = s.args.addresses.now

  abbrev i : ℕ
  i = l.loop-i.i

  inside : i < last_of file
  inside = omega (arith, n.loop-i-test.true, l.all_in-all.ensures.1, last-is file s.requires.0)

  room : 0 + length (entry_bytes (codes_in file)) ≤ length s.args.out.now
  room = omega (arith, s.requires.1)

-- once the end of a code's addresses is known
module _ (e : tie.After-end_from-end invariant-loop decreases-loop) where
  abbrev turn : tie.In-loop-i invariant-loop decreases-loop
  turn = e.before.before

  abbrev end : ℕ
  end = e.end_from-end.result

  on : Onward (file turn) (i turn) end
  on = onward (file turn) (s turn).requires.0 _ (l turn).loop-i.invariant.1 (inside turn) _ e.end_from-end.ensures

  -- this entry, and all entries behind it
  abbrev this : List ℕ
  this = one_entry (code_in (file turn) (i turn)) (end - i turn)

  abbrev behind : List ℕ
  behind = entry_bytes (entries_from (file turn) end)

  left : Going (entry_bytes (codes_in (file turn))) (this ++ behind) (s turn).args.out.now 0 (l turn).loop-i.at
      (l turn).loop-i.out
  left = going-as (ap entry_bytes on.entries) (l turn).loop-i.invariant.3

loop-holds : tie.Need-loop-i-init invariant-loop decreases-loop
loop-holds c =
    let s = c in
    let file = s.args.addresses.now in
    let all = ap entry_bytes (sym (entries-start file s.requires.0)) in (
      refl,
      omega arith,
      omega (arith, last-is file s.requires.0),
      going-as all (going_start (entry_bytes (codes_in file)) s.args.out.now 0),
    )

code-at-requires : tie.Need-code_at-code-requires invariant-loop decreases-loop
code-at-requires c κs = omega (arith, inside c)

end-from-requires : tie.Need-end_from-end-requires invariant-loop decreases-loop
end-from-requires c κs = omega (arith, inside c.before)

sub-entry-at : tie.Need-overflow_sub-end invariant-loop decreases-loop
sub-entry-at c = omega (arith, (on c).further)

entry-at-requires : tie.Need-entry_at-at-requires invariant-loop decreases-loop
entry-at-requires c κs =
    let e = c in
    going-room (this e.before) (behind e.before) (left e.before) (room (turn e.before))

loop-less : tie.Need-loop-i-smaller invariant-loop decreases-loop
loop-less c =
    let e = c in
    omega (arith, (on e.before.before.before.before).further, (on e.before.before.before.before).within)

loop-again : tie.Need-loop-i-preserved invariant-loop decreases-loop
loop-again c =
    let v = c in
    let e = v in
    let is = ap (λ (code : ℕ). one_entry code (end e.before.before.before.before - i (turn e.before.before.before.before))) e.code_at-code.ensures in (
      v.entry_at-at.auto.out ∙ (l (turn e.before.before.before.before)).loop-i.invariant.0,
      omega (arith, (on e.before.before.before.before).further),
      (on e.before.before.before.before).within,
      going_step (behind e.before.before.before.before) (left e.before.before.before.before) (put_as is v.entry_at-at.ensures) (room (turn e.before.before.before.before)),
    )

returns : tie.Need-returns invariant-loop decreases-loop
returns c =
    let l = c in
    let s = l in
    let file = s.args.addresses.now in
    let all_seen : last_of file ≤ l.loop-i.i =
    omega (arith, c.loop-i-test.false, l.all_in-all.ensures.1, last-is file s.requires.0) in
    wrote (going_end (going-as (ap entry_bytes (entries-end file l.loop-i.i all_seen)) l.loop-i.invariant.3))

pub write_codes_spec : {M : Type 1} → statement M
write_codes_spec =
    tie.close
    (tie.spec
    invariant-loop
    decreases-loop
    (search rules)
    loop-holds
    code-at-requires
    end-from-requires
    sub-entry-at
    entry-at-requires
    loop-less
    loop-again
    (search rules)
    returns)
