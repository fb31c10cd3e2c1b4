-- `book_label::walk::walk` meets its contract. Assumes nothing.
use borrow.Author.Rules.{rules}
use Prim.Native.Nat.{ℕ}
use mathlib.Core.Path.{sym, ap, subst, ◌∙◌}
use mathlib.Core.List.{List}
use native.Mathlib.Omega.{arith}
use lib.Seq.{length-take-le}
use Rattle.run.specs.Series.{run_from}
use Rattle.book.proofs.Good.{book-facts}
use Rattle.book_source.specs.Starts.{AllInside}
use Rattle.book_source.proofs.Walked.{starts-inside}
use Rattle.book_label.specs.Shown.{shown_among}
use Rattle.book_label.proofs.walk.walk.Statement.{statement}
use Rattle.book_label.proofs.walk.walk.Tie as tie

-- once the starts are found
module _ (f : tie.After-starts_in-found) where
  abbrev start : tie.Start
  start = f.before.before.before.before.before

run-starts-requires : tie.Need-run_starts-requires
run-starts-requires c κs =
    let f = c.before.before.before in
    let a = (start f).args in (
      subst (AllInside a.book.now) (sym f.starts_in-found.ensures.are)
          (starts-inside a.book.now (book-facts a.book.now (start f).requires.0) a.code.now),
      (start f).requires.1,
    )

returns : tie.Need-returns
returns c =
    let w = c in
    let f = w in
    let a = (start f.before.before.before.before.before.before).args in
    w.run_starts.ensures
    ∙ ap
    (λ (l : List ℕ). run_from (shown_among a.listed a.table.now a.book.now l) a.first a.count a.out.now)
    f.starts_in-found.ensures.are

pub walk_spec : {M : Type 1} → statement M
walk_spec =
    tie.close
    (tie.spec (λ c κs. search rules)
    (λ c. let h = c.starts_in-found.ensures in omega (arith, h.few, h.long))
    (λ c. let h = c.starts_in-found.ensures in sym (length-take-le _ _ (omega (arith, h.few, h.long))))
    run-starts-requires (search rules) returns)
