-- `mainfile_source::rows::kind_rows` meets its contract. Assumes nothing.
use borrow.Author.Rules.{rules}
use mathlib.Core.Path.{sym}
use Rattle.mainfile_source.specs.Rows.{row_files, kind_found}
use Rattle.mainfile_source.proofs.Seven.{rows-seven}
use Rattle.mainfile_source.proofs.rows.kind_rows.Statement.{statement}
use Rattle.mainfile_source.proofs.rows.kind_rows.Tie as tie

returns : tie.Need-returns
returns c =
    let sixth = c in
    let fifth = sixth in
    let fourth = fifth in
    let third = fourth in
    let second = third in
    let first = second in
    let start = first in
    let a = start.args in
    let files =
    row_files a.localities.now a.thoroughfares.now a.descriptors.now a.buildings.now a.sub_buildings.now in
    rw (
      c.row_in-sub_building.ensures,
      sixth.row_in-building.ensures,
      fifth.row_in-second.ensures,
      fourth.row_in-dependent.ensures,
      third.row_in-descriptor.ensures,
      second.row_in-thoroughfare.ensures,
      first.row_in-locality.ensures,
    ) (sym (rows-seven (kind_found files) a.keys start.well_formed.1.1.1.1.1.0.1.0.1))

pub kind_rows_spec : {M : Type 1} → statement M
kind_rows_spec = tie.close (tie.spec (λ c. search rules) (λ c κs. search rules) (λ c. search rules) (λ c κs. search rules) (λ c. search rules) (λ c κs. search rules) (λ c. search rules) (λ c κs. search rules) (λ c. search rules) (λ c κs. search rules) (λ c. search rules) (λ c κs. search rules) (λ c. search rules) (λ c κs. search rules) returns)
