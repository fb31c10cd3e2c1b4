-- `field_read::is_numeric_like` meets its contract. Assumes nothing.
use Rattle.std.proofs.Common.{sym, ◌∙◌, arith}
use Rattle.field.proofs.Likes.{like-short, like-first, like-long}
use Rattle.field_read.proofs.is_numeric_like.Goals as goal

pub returns-then-n-lt2 : goal.returns-then-n-lt2
returns-then-n-lt2 c = sym (like-short c.args.s.now (omega arith))

pub returns-then-is_digit : goal.returns-then-is_digit
returns-then-is_digit c =
    rw (c.is_letter.ensures, c.is_digit-then-is_digit-2.ensures, c.is_digit-then-is_digit.ensures)
    (sym (like-long c.args.s.now (omega arith) (sym c.is_digit.ensures ∙ c.if-is_digit.true)))

pub returns-else-is_digit : goal.returns-else-is_digit
returns-else-is_digit c =
    c.if-is_digit.false
    ∙ sym (like-first c.args.s.now (omega arith) (sym c.is_digit.ensures ∙ c.if-is_digit.false))
