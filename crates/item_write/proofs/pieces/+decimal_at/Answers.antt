-- `item_write::pieces::decimal_at` meets its contract.
-- Assumes nothing.
use Prim.Native.Nat.{ℕ, ◌/◌, ◌<◌}
use mathlib.Core.Path.{sym, subst}
use native.Mathlib.Omega.{arith}
use Rattle.label.proofs.Puts.{put_as}
use Rattle.item.proofs.Decimals.{decimal-one}
use Rattle.item_write.proofs.Laws.{tens-less, tens-room, last-room, digits-put}
use Rattle.item_write.proofs.pieces.+decimal_at.Goals as goal

pub byte_at-requires : goal.byte_at-requires
byte_at-requires t c = omega (arith, rw (decimal-one c.args.n c.if-n-lt10.true) at c.requires)

pub returns-then-n-lt10 : goal.returns-then-n-lt10
returns-then-n-lt10 t c = put_as (sym (decimal-one c.args.n c.if-n-lt10.true)) c.byte_at.ensures

pub decimal_at-i-requires : goal.decimal_at-i-requires
decimal_at-i-requires t c =
    let a = c.args in (
      subst (λ (j : ℕ). a.n / 10 < j) c.decreases (tens-less a.n c.if-n-lt10.false),
      tens-room a.n a.at a.out.now c.if-n-lt10.false c.requires,
    )

pub byte_at-requires-2 : goal.byte_at-requires-2
byte_at-requires-2 t c =
    let a = c.args in
    last-room a.n a.at a.out.now c.if-n-lt10.false c.requires c.decimal_at-i.ensures

pub returns : goal.returns
returns t c =
    let a = c.args in
    digits-put a.n a.at a.out.now c.if-n-lt10.false c.requires c.decimal_at-i.ensures c.byte_at-2.ensures
