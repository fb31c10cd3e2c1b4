-- `book_label::shown::label_from` meets its contract. Assumes nothing.
use borrow.Author.Rules.{rules}
use mathlib.Core.Path.{sym, ◌∙◌}
use mathlib.Core.Bool.{false}
use Rattle.book_source.specs.Starts.{Inside}
use Rattle.book_label.proofs.Laws.{shown-none, shown-some, record-first}
use Rattle.book_label.proofs.shown.label_from.Statement.{statement}
use Rattle.book_label.proofs.shown.label_from.Tie as tie

returns : tie.Need-returns-then-at-eq0
returns c =
    let a = c.args in
    rw c.into.ensures (sym (shown-none false a.table.now a.book.now a.at a.out.now c.if-at-eq0.true))

-- where records start

module _ (e : tie.Else-at-eq0) where
  abbrev start : tie.Start
  start = e.before.before.before.before

  inside : Inside start.args.book.now start.args.at
  inside = start.requires.inside e.if-at-eq0.false

label-there-requires : tie.Need-label_there-requires
label-there-requires c κs =
    let e = c in
    ((start e.before.before).requires.of_table, record-first (start e.before.before).args.book.now (start e.before.before).args.at (inside e.before.before))

returns-2 : tie.Need-returns
returns-2 c =
    let l = c in
    let e = l in
    let a = (start e.before.before.before.before.before).args in
    l.label_there.ensures ∙ sym (shown-some false a.table.now a.book.now a.at a.out.now e.if-at-eq0.false)

pub label_from_spec : {M : Type 1} → statement M
label_from_spec =
    tie.close
    (tie.spec (search rules) returns
    (λ c. let h = inside c in let k = (start c).well_formed in search rules)
    (λ c. let h = inside c in search rules)
    (λ c. let h = inside c in search rules)
    (λ c. let h = inside c in search rules)
    label-there-requires (search rules) returns-2)
