-- `item_write::pieces::view_at` meets its contract: one piece behind the other. Assumes nothing.
use borrow.Author.Rules.{rules}
use mathlib.Core.Path.{refl}
use mathlib.Core.List.{[], ◌∷◌}
use Rattle.label.proofs.Walk.{Begun, begun, room, step, last}
use Rattle.item.specs.Lines.{view_word, spaced_number, view_line}
use Rattle.item_write.proofs.pieces.view_at.Statement.{statement}
use Rattle.item_write.proofs.pieces.view_at.Tie as tie

at-start : (c : tie.Start) → let a = c.args in
    Begun (view_line a.view a.letter) (view_word ∷ spaced_number a.view ∷ (32 ∷ a.letter ∷ 10 ∷ []) ∷ [])
    a.out.now a.at
unfolding view_line
at-start c = begun (record { is = refl }) c.requires

bytes-at-requires : tie.Need-bytes_at-i-requires
bytes-at-requires c κs = room (at-start c.before.before.before.before)

spaced-at-requires : tie.Need-spaced_at-j-requires
spaced-at-requires c κs =
    let word = c in
    room (step (at-start word.before.before.before.before.before.before.before.before) word.bytes_at-i.ensures)

bytes-at-requires-2 : tie.Need-bytes_at-requires
bytes-at-requires-2 c κs =
    let number = c in
    let word = number.before.before.before.before in
    room (step (step (at-start word.before.before.before.before.before.before.before.before.before) word.bytes_at-i.ensures) number.spaced_at-j.ensures)

returns : tie.Need-returns
returns c =
    let end = c in
    let number = end in
    let word = number in
    last (step (step (at-start word.before.before.before.before.before.before.before.before.before.before.before.before.before.before.before.before) word.bytes_at-i.ensures) number.spaced_at-j.ensures)
    end.bytes_at.ensures

pub view_at_spec : {M : Type 1} → statement M
view_at_spec =
    tie.close
    (tie.spec bytes-at-requires spaced-at-requires (search rules) bytes-at-requires-2 (search rules) returns)
