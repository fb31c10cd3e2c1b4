-- `changes_codes::list_codes` meets its contract. Assumes nothing.
use borrow.Author.Rules.{rules}
use Prim.Native.Nat.{ℕ}
use mathlib.Core.Path.{◌≡◌, ◌∙◌}
use mathlib.Core.List.{List}
use native.Mathlib.Omega.{arith}
use lib.ListN.{take}
use Rattle.changes_codes.specs.Codes.{all_codes}
use Rattle.changes_codes.proofs.Listed.{fresh-room, fresh-rooms, front-is, front-within, front-lent, codes-within, counts-within, codes-lent, counts-lent, as_many, few, told}
use Rattle.changes_codes.proofs.list_codes.Statement.{statement}
use Rattle.changes_codes.proofs.list_codes.Tie as tie

-- once the codes are counted
module _ (q : tie.After-count_codes-k) where
  abbrev g : tie.After-live_codes-n
  g = q.before.before.before.before

  abbrev s : tie.Start
  s = g.before.before.before.before

  abbrev points : List ℕ
  points = s.args.points.now

  listed : take g.live_codes-n.result g.live_codes-n.new.codes ≡ all_codes points
  listed = front-is g.live_codes-n.ensures

live-codes-requires : tie.Need-live_codes-n-requires
live-codes-requires c κs =
    let s = c.before.before.before in
    fresh-room 20000 s.args.points.now s.requires (omega arith)

array-borrow-prefix-codes : tie.Need-slice_bounds-codes-end
array-borrow-prefix-codes c = front-within c.live_codes-n.ensures

slice-aggregate-count-codes : tie.Need-slice_bounds-count_codes-end
slice-aggregate-count-codes c = front-lent c.live_codes-n.ensures

count-codes-requires : tie.Need-count_codes-k-requires
count-codes-requires c κs =
    let g = c in
    let s = g in
    fresh-rooms 20000 s.args.points.now s.requires (omega arith) g.live_codes-n.ensures

array-share-prefix-codes : tie.Need-slice_bounds-codes-end-2
array-share-prefix-codes c = codes-within c.count_codes-k.ensures _

slice-aggregate-write-if-room : tie.Need-slice_bounds-write_if_room-end
slice-aggregate-write-if-room c = codes-lent c.count_codes-k.ensures _

array-share-prefix-counts : tie.Need-slice_bounds-counts-end
array-share-prefix-counts c = counts-within c.count_codes-k.ensures

slice-aggregate-write-if-room-2 : tie.Need-slice_bounds-write_if_room-end-2
slice-aggregate-write-if-room-2 c = counts-lent c.count_codes-k.ensures

write-if-room-requires : tie.Need-write_if_room-requires
write-if-room-requires c κs =
    let q = c in
    let k = q.count_codes-k.ensures in (
      as_many k (points q.before.before.before.before.before) _ (listed q.before.before.before.before.before),
      few k (points q.before.before.before.before.before) _ (listed q.before.before.before.before.before) (s q.before.before.before.before.before).requires,
    )

returns : tie.Need-returns
returns c =
    let w = c in
    let q = w in
    w.write_if_room.ensures ∙ told q.count_codes-k.ensures (points q.before.before.before.before.before.before.before.before) _ (listed q.before.before.before.before.before.before.before.before) (s q.before.before.before.before.before.before.before.before).args.out.now

pub list_codes_spec : {M : Type 1} → statement M
list_codes_spec =
    tie.close
    (tie.spec
    (search rules)
    live-codes-requires
    array-borrow-prefix-codes
    slice-aggregate-count-codes
    (search rules)
    count-codes-requires
    array-share-prefix-codes
    slice-aggregate-write-if-room
    array-share-prefix-counts
    slice-aggregate-write-if-room-2
    write-if-room-requires
    (search rules)
    returns)
