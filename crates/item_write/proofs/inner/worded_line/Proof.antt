-- `item_write::inner::worded_line` meets its contract: one piece behind the other. Assumes nothing.
use borrow.Author.Rules.{rules}
use mathlib.Core.Path.{refl}
use mathlib.Core.List.{[], ◌∷◌}
use Prim.Native.Nat.{◌≤◌}
use native.Mathlib.Omega.{arith}
use lib.ListN.{length, replicate}
use Rattle.label.proofs.Walk.{Begun, begun-front, room, step, last}
use Rattle.item.specs.Lines.{spaced_number, worded}
use Rattle.item.proofs.Lines.{worded-short}
use Rattle.item_write.proofs.Laws.{line-holds}
use Rattle.item_write.proofs.inner.worded_line.Statement.{statement}
use Rattle.item_write.proofs.inner.worded_line.Tie as tie

module _ (c : tie.Start) where
  short : length (worded c.args.word.now c.args.n) ≤ 80
  short = worded-short c.args.word.now c.args.n c.requires (omega arith)

  begun : let a = c.args in
      Begun (worded a.word.now a.n) (a.word.now ∷ spaced_number a.n ∷ (10 ∷ []) ∷ []) (replicate 80 0) 0
  begun = begun-front (record { is = refl }) (omega (arith, short))

bytes-at-requires : tie.Need-bytes_at-i-requires
bytes-at-requires c κs = room (begun c.before.before)

spaced-at-requires : tie.Need-spaced_at-j-requires
spaced-at-requires c κs =
    let word = c in
    room (step (begun word.before.before.before.before.before) word.bytes_at-i.ensures)

byte-at-requires : tie.Need-byte_at-len-requires
byte-at-requires c κs =
    let number = c in
    let word = number.before.before.before in
    room (step (step (begun word.before.before.before.before.before) word.bytes_at-i.ensures) number.spaced_at-j.ensures)

returns : tie.Need-returns
returns c =
    let end = c in
    let number = end in
    let word = number in
    let s = word in
    line-holds _ (short s.before.before.before.before.before.before.before.before.before.before)
    (last (step (step (begun s.before.before.before.before.before.before.before.before.before.before) word.bytes_at-i.ensures) number.spaced_at-j.ensures) end.byte_at-len.ensures)

pub worded_line_spec : {M : Type 1} → statement M
worded_line_spec =
    tie.close
    (tie.spec (search rules) bytes-at-requires (search rules) spaced-at-requires (search rules) byte-at-requires returns)
