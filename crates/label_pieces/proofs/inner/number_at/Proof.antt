-- `label_pieces::inner::number_at` meets its contract: nothing of 0, and else the digits from the left, the last two at once.
-- Assumes nothing.
use borrow.Author.Rules.{rules}
use Prim.Native.Nat.{ℕ, ◌+◌, ◌/◌, ◌%◌}
use mathlib.Core.List.{List, [], ◌∷◌}
use native.Mathlib.Omega.{arith}
use Rattle.label.specs.Lines.{number_text}
use Rattle.label.proofs.Puts.{put-none, put_as}
use Rattle.label.proofs.Table.{number-0, number-1, number-2, number-3, number-4}
use Rattle.label.proofs.Walk.{Begun, begun, room, step, last}
use Rattle.label_pieces.proofs.inner.number_at.Statement.{statement}
use Rattle.label_pieces.proofs.inner.number_at.Tie as tie

abbrev tens : ℕ → List ℕ
tens n = (48 + n / 10 % 10) ∷ (48 + n % 10) ∷ []

returns : tie.Need-returns-then-n-eq0
returns c =
    let g = c.args in
    put_as (number-0 g.n c.if-n-eq0.true) (put-none g.out.now g.at)

-- of one digit, of two, of three, and of four
at_one : (c : tie.Then-n-lt10) → let g = c.args in
    Begun (number_text g.n) (((48 + g.n) ∷ []) ∷ []) g.out.now g.at
at_one c =
    let start = c in
    begun (record { is = number-1 start.args.n c.if-n-eq0.false c.if-n-lt10.true }) start.requires

at-two : (c : tie.Then-n-lt100) → let g = c.args in
    Begun (number_text g.n) (tens g.n ∷ []) g.out.now g.at
at-two c =
    let start = c in
    begun
    (record { is = number-2 start.args.n c.if-n-eq0.false c.if-n-lt10.false c.if-n-lt100.true })
    start.requires

at-three : (c : tie.Then-n-lt1000) → let g = c.args in
    Begun (number_text g.n) (((48 + g.n / 100) ∷ []) ∷ tens g.n ∷ []) g.out.now g.at
at-three c =
    let start = c in
    let two = c in
    begun (record { is = number-3 start.args.n two.if-n-eq0.false two.if-n-lt10.false c.if-n-lt100.false c.if-n-lt1000.true })
    start.requires

at-four : (c : tie.Else-n-lt1000) → let g = c.args in
    Begun (number_text g.n) (((48 + g.n / 1000) ∷ []) ∷ ((48 + g.n / 100 % 10) ∷ []) ∷ tens g.n ∷ [])
    g.out.now g.at
at-four c =
    let start = c in
    let two = c in
    begun (record { is = number-4 start.args.n two.if-n-eq0.false two.if-n-lt10.false c.if-n-lt100.false c.if-n-lt1000.false })
    start.requires

digit-at-requires : tie.Need-digit_at-requires
digit-at-requires c κs = (omega arith, room (at_one c.before))

returns-2 : tie.Need-returns-then-n-lt10
returns-2 c =
    let ones = c in
    last (at_one ones.before.before.before.before) ones.digit_at.ensures

tens-at-requires : tie.Need-tens_at-requires
tens-at-requires c κs = room (at-two c.before)

returns-3 : tie.Need-returns-then-n-lt100
returns-3 c =
    let tens = c in
    last (at-two tens.before.before.before.before) tens.tens_at.ensures

digit-at-requires-2 : tie.Need-digit_at-i-requires
digit-at-requires-2 c κs = (omega arith, room (at-three c.before))

tens-at-requires-2 : tie.Need-tens_at-requires-then-n-lt1000
tens-at-requires-2 c κs =
    let hundreds = c in
    room (step (at-three hundreds.before.before.before.before.before) hundreds.digit_at-i.ensures)

returns-4 : tie.Need-returns-then-n-lt1000
returns-4 c =
    let tens = c in
    let hundreds = tens in
    last (step (at-three hundreds.before.before.before.before.before.before.before.before) hundreds.digit_at-i.ensures) tens.tens_at-then-n-lt1000.ensures

digit-at-requires-3 : tie.Need-digit_at-i-requires-2
digit-at-requires-3 c κs = (omega arith, room (at-four c.before))

digit-at-requires-4 : tie.Need-digit_at-j-requires
digit-at-requires-4 c κs =
    let thousands = c in
    (omega arith, room (step (at-four thousands.before.before.before.before.before) thousands.digit_at-i-2.ensures))

tens-at-requires-3 : tie.Need-tens_at-requires-2
tens-at-requires-3 c κs =
    let hundreds = c in
    let thousands = hundreds in
    room (step (step (at-four thousands.before.before.before.before.before.before.before.before.before) thousands.digit_at-i-2.ensures) hundreds.digit_at-j.ensures)

returns-5 : tie.Need-returns
returns-5 c =
    let tens = c in
    let hundreds = tens in
    let thousands = hundreds in
    let one = step (at-four thousands.before.before.before.before.before.before.before.before.before.before.before.before) thousands.digit_at-i-2.ensures in
    last (step one hundreds.digit_at-j.ensures) tens.tens_at-2.ensures

pub number_at_spec : {M : Type 1} → statement M
number_at_spec =
    tie.close
    (tie.spec returns digit-at-requires (search rules) returns-2 tens-at-requires (search rules) returns-3
    digit-at-requires-2 tens-at-requires-2 (search rules) returns-4 digit-at-requires-3 digit-at-requires-4
    tens-at-requires-3 (search rules) returns-5)
