-- `mainfile_addresses::fine::is_fine` meets its contract. Assumes nothing.
use borrow.Author.Rules.{rules}
use mathlib.Core.Bool.{false≢true}
use Rattle.mainfile_addresses.proofs.Laws.{address-fine, good-outward}
use Rattle.mainfile_addresses.proofs.fine.is_fine.Statement.{statement}
use Rattle.mainfile_addresses.proofs.fine.is_fine.Tie as tie

returns : tie.Need-returns-then-not-are_keys
returns c = λ e. absurd (false≢true e)

is-fine-outward-requires : tie.Need-is_fine_outward-requires
is-fine-outward-requires c κs =
    let at-start = c in
    (search rules, λ e. good-outward at-start.args.before.now (at-start.requires.1 e))

returns-2 : tie.Need-returns-then-not-is_fine_outward
returns-2 c = λ e. absurd (false≢true e)

returns-3 : tie.Need-returns-then-not-is_fine_box
returns-3 c = λ e. absurd (false≢true e)

returns-4 : tie.Need-returns
returns-4 c =
    let boxed = c in
    let box = boxed in
    let coded = box in
    let code = coded in
    let keyed = code in
    let keys = keyed in
    let rec = keys.args.rec.now in
    λ e.
    let marks = c.are_marks.ensures e (box.is_fine_box.ensures (boxed.if-not-is_fine_box.false)) in
    address-fine rec (code.is_fine_outward.ensures (coded.if-not-is_fine_outward.false)) marks.0
    (keys.are_keys.ensures (keyed.if-not-are_keys.false)) marks.1

pub is_fine_spec : {M : Type 1} → statement M
is_fine_spec =
    tie.close
    (tie.spec
    (search rules)
    returns
    is-fine-outward-requires
    returns-2
    (search rules)
    returns-3
    (search rules)
    returns-4)
