-- `mainfile_source::organisations::organisation_row` meets its contract. Assumes nothing.
use borrow.Author.Rules.{rules}
use Prim.Native.Nat.{ℕ}
use mathlib.Core.Path.{◌≡◌, sym, ◌∙◌}
use mathlib.Core.List.{List}
use Rattle.shelf.specs.Search.{upper_of}
use Rattle.shelf.proofs.Search.{found_none, found_here, found-other}
use Rattle.mainfile_source.specs.Organisations.{organisation_number, number_at, last_in, organisation_found}
use Rattle.mainfile_source.proofs.organisations.organisation_row.Statement.{statement}
use Rattle.mainfile_source.proofs.organisations.organisation_row.Tie as tie

-- what is asked for, and the place behind it
module _ (c : tie.After-upper_number-end) where
  abbrev start : tie.Start
  start = c.before.before.before

  abbrev file : List ℕ
  file = start.args.file.now

  abbrev r : ℕ
  r = organisation_number start.args.user start.args.key

  upper : c.upper_number-end.result ≡ upper_of (number_at file) (last_in file) r
  upper = rw c.number_of-r.ensures at c.upper_number-end.ensures

returns : tie.Need-returns-then-end-le1
unfolding organisation_found
returns c =
    let b = c in
    sym (found_none (number_at (file b.before)) (r b.before) (last_in (file b.before)) (rw (upper b.before) at c.if-end-le1.true))

returns-2 : tie.Need-returns-then-number_at-r
unfolding organisation_found
returns-2 c =
    let k = c in
    let b = k in
    rw (upper b.before.before.before)
    (sym
    (found_here (number_at (file b.before.before.before)) (r b.before.before.before) (last_in (file b.before.before.before)) (rw (upper b.before.before.before) at k.if-end-le1.false)
    (rw (upper b.before.before.before) at (sym k.number_at.ensures ∙ (c.if-number_at-r.true ∙ b.number_of-r.ensures)))))

returns-3 : tie.Need-returns-else-number_at-r
unfolding organisation_found
returns-3 c =
    let k = c in
    let b = k in
    sym
    (found-other (number_at (file b.before.before.before)) (r b.before.before.before) (last_in (file b.before.before.before)) (rw (upper b.before.before.before) at k.if-end-le1.false)
    (λ e. c.if-number_at-r.false (k.number_at.ensures ∙ (rw (upper b.before.before.before) e ∙ sym b.number_of-r.ensures))))

pub organisation_row_spec : {M : Type 1} → statement M
organisation_row_spec = tie.close (tie.spec (λ c κs. search rules) (λ c κs. search rules) returns (λ c. search rules) (λ c κs. search rules) returns-2 returns-3)
