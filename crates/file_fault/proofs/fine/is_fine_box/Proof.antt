-- `file_fault::fine::is_fine_box` meets its contract. Assumes nothing.
use borrow.Author.Rules.{rules}
use Rattle.file_fault.proofs.AtOnce.{begun-or-known, inside}
use Prim.Native.Nat.{◌+◌}
use native.Mathlib.Omega.{arith}
use Rattle.field.specs.Text.{text_byte}
use mathlib.Core.Path.{sym, ◌∙◌}
use mathlib.Core.Bool.{false≢true}
use Rattle.file_fault.proofs.fine.is_fine_box.Statement.{statement}
use Rattle.file_fault.proofs.fine.is_fine_box.Tie as tie

returns : tie.Need-returns-then-not-are_text
returns c = λ e. absurd (false≢true e)

returns-2 : tie.Need-returns
returns-2 c =
    let begins = c in
    let part = begins in
    let left = part in
    let texts = left in
    let all = texts in
    let at-start = all in
    let a = at-start.args in
    λ e.
    begun-or-known begins.starts_blank-begins.result c.is_blank_box.result _
    (rw part.part_of-2.ensures at (sym begins.starts_blank-begins.ensures)) c.is_blank_box.ensures e
    (inside a.rec.now text_byte a.from a.start (a.start + 6) (a.from + 16) at-start.requires.0 (omega arith) at-start.requires.1
    (rw all.part_of.ensures at (sym texts.are_text.ensures ∙ left.if-not-are_text.false)))

pub is_fine_box_spec : {M : Type 1} → statement M
is_fine_box_spec = tie.close (tie.spec (search rules) (search rules) (search rules) returns (search rules) (search rules) (search rules) (search rules) returns-2)
