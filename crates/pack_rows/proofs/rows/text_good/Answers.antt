-- Assumes nothing.
use Rattle.std.proofs.Common.{◌≡◌, ◌-◌, length, get_or, sym, arith}
use Rattle.std.proofs.lemmas.Grind.{common_steps}
use Rattle.std.proofs.lemmas.Option.{gets}
use Rattle.pack_rows.proofs.Texts.{empty-good, filled-good}
use Rattle.pack_rows.proofs.rows.text_good.Goals as goal

pub returns-in_default : goal.returns-in_default
returns-in_default c =
    let t = c.args.t.now in
    let none = c.in_default.ensures.value in
    let empty : length t ≡ 0 = grind (arith, common_steps, gets) in
    sym (empty-good c.args.width c.args.blank t empty)

pub returns : goal.returns
returns c =
    let t = c.args.t.now in
    let some = c.in-Some.ensures.value in
    let last : c.in-Some.field-0.now ≡ get_or t (length t - 1) 0 = grind (arith, common_steps, gets) in
    rw (c.filled_fault-fault.ensures, last) (filled-good c.args.width c.args.blank t (λ e. grind (arith, common_steps, gets)))
