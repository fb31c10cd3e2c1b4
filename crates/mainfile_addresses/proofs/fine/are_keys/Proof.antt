-- `mainfile_addresses::fine::are_keys` meets its contract. Assumes nothing.
use borrow.Author.Rules.{rules}
use mathlib.Core.Path.{sym, ◌∙◌}
use lib.Dec.{lit≤}
use Rattle.field.specs.Digits.{digit}
use Rattle.field.proofs.Tests.{and_left, and_right}
use Rattle.file_fault.proofs.AtOnce.{overlap, digits-none}
use Rattle.mainfile_addresses.proofs.fine.are_keys.Statement.{statement}
use Rattle.mainfile_addresses.proofs.fine.are_keys.Tie as tie

returns : tie.Need-returns
returns c =
    let other = c in
    let most = other in
    let part = most in
    let rec = part.args.rec.now in
    λ e.
    let front = most.are_digits-most.result in
    digits-none _
    (overlap rec digit 7 61 71 77 (lit≤ tt) (lit≤ tt) (lit≤ tt)
    (rw part.part_of.ensures at (sym most.are_digits-most.ensures ∙ and_left front _ e))
    (rw other.part_of-2.ensures at (sym c.are_digits-rest.ensures ∙ and_right front _ e)))

pub are_keys_spec : {M : Type 1} → statement M
are_keys_spec =
    tie.close
    (tie.spec
    (search rules)
    (search rules)
    (search rules)
    (search rules)
    returns)
