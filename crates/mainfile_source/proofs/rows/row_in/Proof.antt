-- `mainfile_source::rows::row_in` meets its contract. Assumes nothing.
use borrow.Author.Rules.{rules}
use mathlib.Core.Path.{◌≡◌, ap, ◌∙◌}
use mathlib.Core.Bool.{cond}
use Rattle.source.specs.Address.{present, ref}
use Rattle.shelf.specs.declared.Shelf.{Shelf}
use Rattle.shelf.specs.Search.{found}
use Rattle.mainfile_source.proofs.Shelves.{kind_fits}
use Rattle.mainfile_source.proofs.rows.row_in.Statement.{statement}
use Rattle.mainfile_source.proofs.rows.row_in.Tie as tie

row-for-requires : tie.Need-row_for-requires
row-for-requires c κs = rw c.row_shelf.ensures (kind_fits c.args.kind)

returns : tie.Need-returns
returns c =
    let a = c.args in
    c.row_for.ensures
    ∙ ap (λ (s : Shelf). cond (present a.key) (found s a.file.now (ref a.kind a.key)) 0) c.row_shelf.ensures

pub row_in_spec : {M : Type 1} → statement M
row_in_spec = tie.close (tie.spec (λ c κs. search rules) row-for-requires returns)
