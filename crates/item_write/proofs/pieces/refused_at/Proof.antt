-- `item_write::pieces::refused_at` meets its contract: one piece behind the other. Assumes nothing.
use borrow.Author.Rules.{rules}
use mathlib.Core.Path.{refl}
use mathlib.Core.List.{[], ◌∷◌}
use Rattle.label.proofs.Walk.{Begun, begun, room, step, last}
use Rattle.item.specs.Lines.{refused_word, spaced_number, byte_text, refused_text}
use Rattle.item_write.proofs.pieces.refused_at.Statement.{statement}
use Rattle.item_write.proofs.pieces.refused_at.Tie as tie

at-start : (c : tie.Start) → let a = c.args in
    Begun (refused_text a.number a.detail a.second)
    (refused_word
    ∷ spaced_number a.number ∷ spaced_number a.detail ∷ byte_text a.number a.second ∷ (10 ∷ []) ∷ [])
    a.out.now a.at
unfolding refused_text
at-start c = begun (record { is = refl }) c.requires

bytes-at-requires : tie.Need-bytes_at-i-requires
bytes-at-requires c κs = room (at-start c.before.before.before.before)

spaced-at-requires : tie.Need-spaced_at-j-requires
spaced-at-requires c κs =
    let word = c in
    room (step (at-start word.before.before.before.before.before.before.before.before) word.bytes_at-i.ensures)

spaced-at-requires-2 : tie.Need-spaced_at-k-requires
spaced-at-requires-2 c κs =
    let number = c in
    let word = number.before.before.before.before in
    room (step (step (at-start word.before.before.before.before.before.before.before.before) word.bytes_at-i.ensures) number.spaced_at-j.ensures)

fault-at-requires : tie.Need-fault_at-l-requires
fault-at-requires c κs =
    let detail = c in
    let number = detail.before.before.before.before in
    let word = number.before.before.before.before in
    let said = step (step (at-start word.before.before.before.before.before.before.before.before) word.bytes_at-i.ensures) number.spaced_at-j.ensures in
    room (step said detail.spaced_at-k.ensures)

byte-at-requires : tie.Need-byte_at-requires
byte-at-requires c κs =
    let fault = c in
    let detail = fault.before.before.before.before in
    let number = detail.before.before.before.before in
    let word = number.before.before.before.before in
    let said = step (step (at-start word.before.before.before.before.before.before.before.before) word.bytes_at-i.ensures) number.spaced_at-j.ensures in
    room (step (step said detail.spaced_at-k.ensures) fault.fault_at-l.ensures)

returns : tie.Need-returns
returns c =
    let end = c in
    let fault = end in
    let detail = fault in
    let number = detail in
    let word = number in
    let said = step (step (at-start word.before.before.before.before.before.before.before.before.before.before.before.before.before.before.before.before.before.before.before.before.before.before.before) word.bytes_at-i.ensures) number.spaced_at-j.ensures in
    last (step (step said detail.spaced_at-k.ensures) fault.fault_at-l.ensures) end.byte_at.ensures

pub refused_at_spec : {M : Type 1} → statement M
refused_at_spec =
    tie.close
    (tie.spec bytes-at-requires spaced-at-requires spaced-at-requires-2 fault-at-requires byte-at-requires (search rules) returns)
