-- `changes_codes::gather::live_codes` meets its contract. The invariant: `next` is a view or behind all, and the codes from it
-- on are left to write. Assumes nothing.
use borrow.Author.Rules.{rules}
use Prim.Native.Nat.{ℕ, ◌+◌, ◌-◌, ◌≤◌, ◌<◌}
use mathlib.Core.Path.{◌≡◌, refl, sym, ap, ◌∙◌}
use mathlib.Core.Bool.{true}
use mathlib.Core.List.{List, [], ◌∷◌}
use native.Mathlib.Omega.{arith}
use lib.ListN.{length, length-set}
use Rattle.file_record.specs.Parts.{record_at}
use Rattle.file_record.proofs.Records.{record-length}
use Rattle.changes_views.specs.Views.{is_live, last_of, next_wanted}
use Rattle.changes_views.proofs.Laws.{next-next, next-range}
use Rattle.label.proofs.Puts.{put_byte, put_as, wrote}
use Rattle.label.proofs.Going.{Going, going_start, going-as, going-room, going_step, going_end}
use Rattle.changes_codes.specs.Codes.{code_of, all_codes}
use Rattle.changes_codes.proofs.Gathered.{codes_from, codes-start, codes-live, codes-other, codes-end}
use Rattle.changes_codes.proofs.gather.live_codes.Statement.{statement}
use Rattle.changes_codes.proofs.gather.live_codes.Tie as tie

abbrev invariant-loop : tie.invariant-loop-next
invariant-loop points codes₀ last n₀ next₀ codes n next =
    (length codes ≡ length codes₀)
    × (next_wanted [] points next ≡ next)
    × Going (all_codes points) (codes_from points next) codes₀ 0 n codes

abbrev decreases-loop : tie.decreases-loop-next
decreases-loop points codes₀ last n₀ next₀ codes n next = last - next

-- once it is known whether the view is live
module _ (f : tie.After-is_live invariant-loop decreases-loop) where
  abbrev r : tie.After-point_record-rec invariant-loop decreases-loop
  r = f.before.before

  abbrev l : tie.At-loop-next invariant-loop decreases-loop
  l = r.before.before

  abbrev k : tie.After-last_of-last invariant-loop decreases-loop
  k = l.before.before

  abbrev s : tie.Start invariant-loop decreases-loop
  s = k.before.before.before

  abbrev points : List ℕ
  points = s.args.points.now

  abbrev rec : List ℕ
  rec = record_at 168 points l.loop-next.next

  room : 0 + length (all_codes points) ≤ length s.args.codes.now
  room = omega (arith, s.requires)

  inside : l.loop-next.next < last_of points
  inside = omega (arith, r.loop-next-test.true, k.last_of-last.ensures)

  said : f.is_live.result ≡ is_live rec
  said = f.is_live.ensures ∙ ap is_live r.point_record-rec.ensures

  -- a live view's code is the next to write
  module _ (e : f.is_live.result ≡ true) where
    left : Going (all_codes points) (code_of rec ∷ codes_from points (next_wanted [] points (l.loop-next.next + 1)))
        s.args.codes.now
        0
        l.loop-next.n
        l.loop-next.codes
    left = going-as (codes-live points l.loop-next.next l.loop-next.invariant.1 inside (sym said ∙ e)) l.loop-next.invariant.2

    free : l.loop-next.n + 1 ≤ length l.loop-next.codes
    free = going-room (code_of rec ∷ []) (codes_from points (next_wanted [] points (l.loop-next.next + 1))) left room

loop-holds : tie.Need-loop-next-init invariant-loop decreases-loop
loop-holds c =
    let s = c in
    let points = s.args.points.now in
    rw c.next_wanted-next.ensures (
      refl,
      next-next [] points 1,
      going-as (codes-start points) (going_start (all_codes points) s.args.codes.now 0),
    )

code-of-requires : tie.Need-code_of-requires invariant-loop decreases-loop
code-of-requires c κs =
    let f = c in
    rw (r f.before).point_record-rec.ensures (omega (arith, record-length 168 (points f.before) (l f.before).loop-next.next (omega (arith, inside f.before))))

mul-codes : tie.Need-offset_bounds-codes-n invariant-loop decreases-loop
mul-codes c = omega (arith, free c.before.before c.if-is_live.true, (l c.before.before).loop-next.invariant.0)

slice-write-codes : tie.Need-bounds-codes-n invariant-loop decreases-loop
slice-write-codes c = omega (arith, free c.before.before c.if-is_live.true, (l c.before.before).loop-next.invariant.0)

add-n : tie.Need-overflow_add-n invariant-loop decreases-loop
add-n c = omega (arith, free c.before.before c.if-is_live.true, (l c.before.before).loop-next.invariant.0)

loop-less : tie.Need-loop-next-smaller-then-is_live invariant-loop decreases-loop
loop-less c =
    let f = c in
    omega (arith, f.next_wanted-next-in-loop-next.ensures, (next-range [] (points f.before.before) ((l f.before.before).loop-next.next + 1)).0, inside f.before.before)

loop-again : tie.Need-loop-next-preserved-then-is_live invariant-loop decreases-loop
loop-again c =
    let f = c.before.before in
    let i = (l f).loop-next.next in
    let live = c.if-is_live.true in
    let put = put_byte (l f).loop-next.codes (l f).loop-next.n c.code_of.result (free f live) in
    let is = c.code_of.ensures ∙ ap code_of (r f).point_record-rec.ensures in
    rw f.next_wanted-next-in-loop-next.ensures (
      length-set (l f).loop-next.codes (l f).loop-next.n _ ∙ (l f).loop-next.invariant.0,
      next-next [] (points f) (i + 1),
      going_step (codes_from (points f) (next_wanted [] (points f) (i + 1))) (left f live) (put_as (ap (◌∷ []) is) put)
          (room f),
    )

loop-less-2 : tie.Need-loop-next-smaller invariant-loop decreases-loop
loop-less-2 c =
    let f = c in
    omega (arith, f.next_wanted-next-in-loop-next.ensures, (next-range [] (points f.before) ((l f.before).loop-next.next + 1)).0, inside f.before)

loop-again-2 : tie.Need-loop-next-preserved invariant-loop decreases-loop
loop-again-2 c =
    let f = c in
    let i = (l f.before).loop-next.next in
    rw f.next_wanted-next-in-loop-next.ensures (
      (l f.before).loop-next.invariant.0,
      next-next [] (points f.before) (i + 1),
      going-as (codes-other (points f.before) i (l f.before).loop-next.invariant.1 (inside f.before) (sym (said f.before) ∙ c.if-is_live.false)) (l f.before).loop-next.invariant.2,
    )

returns : tie.Need-returns invariant-loop decreases-loop
returns c =
    let l = c in
    let k = l in
    let s = k in
    let points = s.args.points.now in
    let none = codes-end points l.loop-next.next (omega (arith, c.loop-next-test.false, k.last_of-last.ensures)) in
    wrote (going_end (going-as none l.loop-next.invariant.2))

pub live_codes_spec : {M : Type 1} → statement M
live_codes_spec =
    tie.close
    (tie.spec
    invariant-loop
    decreases-loop
    (search rules)
    (search rules)
    (search rules)
    loop-holds
    (search rules)
    (search rules)
    (search rules)
    (search rules)
    (search rules)
    code-of-requires
    mul-codes
    slice-write-codes
    add-n
    loop-less
    loop-again
    loop-less-2
    loop-again-2
    (search rules)
    returns)
