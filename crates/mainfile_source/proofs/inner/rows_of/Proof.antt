-- `mainfile_source::inner::rows_of` meets its contract. Assumes nothing.
use borrow.Author.Rules.{rules}
use Prim.Native.Nat.{ℕ, ◌-◌}
use mathlib.Core.Path.{◌≡◌, sym, ap, ◌∙◌}
use Rattle.shelf.specs.declared.Shelf.{Shelf}
use Rattle.shelf.specs.Shelf.{last_of}
use Rattle.mainfile.specs.Rows.{shelf_of}
use Rattle.mainfile_source.proofs.Shelves.{kind_fits}
use Rattle.mainfile_source.proofs.inner.rows_of.Statement.{statement}
use Rattle.mainfile_source.proofs.inner.rows_of.Tie as tie

last-of-requires : tie.Need-last_of-last-requires
last-of-requires c κs = rw c.row_shelf.ensures (kind_fits c.args.kind)

-- the trailer's place
module _ (c : tie.After-last_of-last) where
  abbrev start : tie.Start
  start = c.before.before.before

  last-is : c.last_of-last.result ≡ last_of (shelf_of start.args.kind) start.args.file.now
  last-is =
      c.last_of-last.ensures ∙ ap (λ (s : Shelf). last_of s start.args.file.now) c.row_shelf.ensures

returns : tie.Need-returns-then-last-eq0
returns c = ap (λ (n : ℕ). n - 1) (sym c.if-last-eq0.true ∙ last-is c.before)

returns-2 : tie.Need-returns-else-last-eq0
returns-2 c = ap (λ (n : ℕ). n - 1) (last-is c.before)

pub rows_of_spec : {M : Type 1} → statement M
rows_of_spec = tie.close (tie.spec (λ c κs. search rules) last-of-requires (λ c. search rules) returns returns-2)
