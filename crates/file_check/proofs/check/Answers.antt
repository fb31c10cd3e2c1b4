use mathlib.Core.Path.{sym, ap, ◌∙◌}
use Rattle.std.proofs.Common.{◌≡◌, Ok, Err}
use Rattle.file.specs.Check.{verdict, answered, checked}
use Rattle.file.specs.Formats.{format_of}
use Rattle.file_check.proofs.check.Goals as goal

pub returns-in-Ok : goal.returns-in-Ok
unfolding checked
returns-in-Ok c =
    let accepted : verdict (format_of c.args.kind) c.args.file.now ≡ Ok c.in-Ok.field-0 = sym c.verdict_of.ensures ∙ c.in-Ok.is in
    rw c.records_in.ensures (ap (answered (format_of c.args.kind) c.args.file.now) (sym accepted))

pub returns-in-Err : goal.returns-in-Err
unfolding checked
returns-in-Err c =
    let bad : verdict (format_of c.args.kind) c.args.file.now ≡ Err c.in-Err.reason = sym c.verdict_of.ensures ∙ c.in-Err.is in
    rw c.numbers_of.ensures.file (ap (answered (format_of c.args.kind) c.args.file.now) (sym bad))
