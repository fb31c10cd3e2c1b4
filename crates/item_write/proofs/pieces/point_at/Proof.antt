-- `item_write::pieces::point_at` meets its contract: one piece behind the other. Assumes nothing.
use borrow.Author.Rules.{rules}
use mathlib.Core.Path.{refl}
use mathlib.Core.List.{[], ◌∷◌}
use Rattle.label.proofs.Walk.{Begun, begun, room, step, last}
use Rattle.item.specs.Lines.{point_word, spaced_number, point_line}
use Rattle.item_write.proofs.pieces.point_at.Statement.{statement}
use Rattle.item_write.proofs.pieces.point_at.Tie as tie

at-start : (c : tie.Start) → let a = c.args in
    Begun (point_line a.k) (point_word ∷ spaced_number a.k ∷ (10 ∷ []) ∷ []) a.out.now a.at
unfolding point_line
at-start c = begun (record { is = refl }) c.requires

bytes-at-requires : tie.Need-bytes_at-i-requires
bytes-at-requires c κs = room (at-start c.before.before.before.before)

spaced-at-requires : tie.Need-spaced_at-j-requires
spaced-at-requires c κs =
    let word = c in
    room (step (at-start word.before.before.before.before.before.before.before.before) word.bytes_at-i.ensures)

byte-at-requires : tie.Need-byte_at-requires
byte-at-requires c κs =
    let number = c in
    let word = number.before.before.before.before in
    room (step (step (at-start word.before.before.before.before.before.before.before.before) word.bytes_at-i.ensures) number.spaced_at-j.ensures)

returns : tie.Need-returns
returns c =
    let end = c in
    let number = end in
    let word = number in
    last (step (step (at-start word.before.before.before.before.before.before.before.before.before.before.before.before.before.before.before) word.bytes_at-i.ensures) number.spaced_at-j.ensures)
    end.byte_at.ensures

pub point_at_spec : {M : Type 1} → statement M
point_at_spec =
    tie.close
    (tie.spec bytes-at-requires spaced-at-requires byte-at-requires (search rules) returns)
