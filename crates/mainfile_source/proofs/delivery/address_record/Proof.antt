-- `mainfile_source::delivery::address_record` meets its contract. Assumes nothing.
use borrow.Author.Rules.{rules}
use borrow.Author.Tests.{le-ltb}
use Rattle.file_record.specs.Parts.{record_at}
use Rattle.file_record.proofs.Records.{record-fits}
use Rattle.mainfile_source.proofs.delivery.address_record.Statement.{statement}
use Rattle.mainfile_source.proofs.delivery.address_record.Tie as tie

whole-record-requires : tie.Need-whole_record-requires
whole-record-requires c κs =
    let a = c.args in
    (c.if-i-addresses.true, record-fits 88 a.addresses.now a.i c.if-i-addresses.true)

returns-2 : tie.Need-returns-else-i-addresses
unfolding record_at
returns-2 c = simp (le-ltb _ _ c.if-i-addresses.false)

pub address_record_spec : {M : Type 1} → statement M
address_record_spec = tie.close (tie.spec whole-record-requires (λ c. search rules) (λ c. search rules) returns-2)
