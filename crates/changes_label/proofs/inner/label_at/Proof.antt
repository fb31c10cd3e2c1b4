-- `changes_label::inner::label_at` meets its contract. Assumes nothing.
use borrow.Author.Rules.{rules}
use mathlib.Core.Path.{refl, sym, ◌∙◌}
use Rattle.changes_label.proofs.Laws.{no_place, some-place}
use Rattle.changes_label.proofs.inner.label_at.Statement.{statement}
use Rattle.changes_label.proofs.inner.label_at.Tie as tie

returns : tie.Need-returns-then-place-eq0
returns c =
    let a = c.args in
    rw c.into.ensures (sym (no_place a.table.now a.points.now a.place a.out.now c.if-place-eq0.true))

label-there-requires : tie.Need-label_there-requires
label-there-requires c κs =
    let start = c in
    (start.requires.of_table, start.requires.high c.if-place-eq0.false)

returns-2 : tie.Need-returns
returns-2 c =
    let start = c in
    let a = start.args in
    let l = c in
    l.label_there.ensures
    ∙ sym (some-place a.table.now a.points.now a.place a.out.now l.if-place-eq0.false _ refl)

pub label_at_spec : {M : Type 1} → statement M
label_at_spec = tie.close (tie.spec (search rules) returns label-there-requires (search rules) returns-2)
