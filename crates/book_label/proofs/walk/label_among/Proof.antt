-- `book_label::walk::label_among` meets its contract. Assumes nothing.
use borrow.Author.Rules.{rules}
use Prim.Native.Nat.{ℕ}
use mathlib.Core.Path.{◌≡◌, sym, ap, subst, ◌∙◌}
use mathlib.Core.Bool.{false}
use mathlib.Core.List.{List}
use native.Mathlib.Omega.{arith}
use lib.Seq.{length-take-le}
use Rattle.book.proofs.Good.{book-facts}
use Rattle.book_source.specs.Starts.{starts_in, start_among}
use Rattle.book_source.proofs.Walked.{starts-inside, among-inside}
use Rattle.book_label.specs.Shown.{shown_from, Standing}
use Rattle.book_label.proofs.walk.label_among.Statement.{statement}
use Rattle.book_label.proofs.walk.label_among.Tie as tie

-- once one of them is found
module _ (f : tie.After-start_among) where
  abbrev start : tie.Start
  start = f.before.before.before.before.before.before.before.before

  abbrev starts : List ℕ
  starts = starts_in start.args.code.now start.args.book.now

  found : f.start_among.result ≡ start_among starts start.args.k
  found = f.start_among.ensures ∙ ap (λ (l : List ℕ). start_among l start.args.k) f.starts_in-found.ensures.are

  standing : Standing start.args.table.now start.args.book.now f.start_among.result
  standing =
      subst (Standing start.args.table.now start.args.book.now) (sym found)
      (record {
        of_table = start.requires.1;
        inside =
            among-inside start.args.book.now starts
            (starts-inside start.args.book.now (book-facts start.args.book.now start.requires.0) start.args.code.now)
            start.args.k;
      })

returns : tie.Need-returns
returns c =
    let l = c in
    let f = l in
    let a = (start f.before.before.before.before).args in
    l.label_from.ensures ∙ ap (λ at. shown_from false a.table.now a.book.now at a.out.now) (found f.before.before.before.before)

pub label_among_spec : {M : Type 1} → statement M
label_among_spec =
    tie.close
    (tie.spec (λ c κs. search rules)
    (λ c. let h = c.starts_in-found.ensures in omega (arith, h.few, h.long))
    (λ c. let h = c.starts_in-found.ensures in sym (length-take-le _ _ (omega (arith, h.few, h.long))))
    (λ c κs. search rules)
    (λ c κs. standing c.before)
    (search rules) returns)
