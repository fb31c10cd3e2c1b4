-- `mainfile_formats::rising::is_rising_address` meets its contract. Assumes nothing.
use borrow.Author.Rules.{rules}
use Rattle.mainfile_formats.proofs.Sequence.{address_above}
use Rattle.mainfile_formats.proofs.rising.is_rising_address.Statement.{statement}
use Rattle.mainfile_formats.proofs.rising.is_rising_address.Tie as tie

returns : tie.Need-returns
returns c =
    let organisation = c in
    let last-key = organisation in
    let key = last-key in
    let last-postcode = key in
    let postcode = last-postcode in
    let start = postcode in
    λ e.
    address_above start.args.rec.now start.args.before.now start.requires.1 start.requires.0 _ _ _ _ _ _
    postcode.weight_at-postcode.ensures last-postcode.weight_at-last_postcode.ensures key.weight_at-key.ensures last-key.weight_at-last_key.ensures
    organisation.weight_at-organisation.ensures c.weight_at-last_organisation.ensures e

pub is_rising_address_spec : {M : Type 1} → statement M
is_rising_address_spec =
    tie.close
    (tie.spec
    (search rules)
    (search rules)
    (search rules)
    (search rules)
    (search rules)
    (search rules)
    returns)
