-- `mainfile_source::organisations::organisation_record` meets its contract. Assumes nothing.
use borrow.Author.Rules.{rules}
use borrow.Author.Tests.{le-ltb}
use Rattle.file_record.specs.Parts.{record_at}
use Rattle.file_record.proofs.Records.{record-fits}
use Rattle.mainfile_source.proofs.organisations.organisation_record.Statement.{statement}
use Rattle.mainfile_source.proofs.organisations.organisation_record.Tie as tie

whole-record-requires : tie.Need-whole_record-requires
whole-record-requires c κs =
    let a = c.args in
    (c.if-i-file.true, record-fits 153 a.file.now a.i c.if-i-file.true)

returns-2 : tie.Need-returns-else-i-file
unfolding record_at
returns-2 c = simp (le-ltb _ _ c.if-i-file.false)

pub organisation_record_spec : {M : Type 1} → statement M
organisation_record_spec = tie.close (tie.spec whole-record-requires (λ c. search rules) (λ c. search rules) returns-2)
