-- `file_fault::fine::is_blank_60` meets its contract. Assumes nothing.
use borrow.Author.Rules.{rules}
use Rattle.file_fault.proofs.AtOnce.{blank-on}
use Rattle.field.proofs.Tests.{and_left, and_right}
use native.Mathlib.Omega.{arith}
use mathlib.Core.Bool.{◌&&◌}
use mathlib.Core.Path.{◌≡◌, refl, sym, ◌∙◌}
use Prim.Native.Nat.{◌+◌}
use Rattle.file_fault.proofs.fine.is_blank_60.Statement.{statement}
use Rattle.file_fault.proofs.fine.is_blank_60.Tie as tie

returns : tie.Need-returns
returns c =
    let fourth = c in
    let third = fourth in
    let second = third in
    let first = second in
    let start = first in
    let rec = start.args.rec.now in
    let s = start.args.start in
    let b = first.eight_blank.result in
    let d = second.eight_blank-2.result in
    let f = third.eight_blank-3.result in
    let g = fourth.eight_blank-4.result in
    let h = c.is_blank_28.result in
    let end : s + 32 + 28 ≡ s + 60 = omega arith in
    λ e.
    let most = and_left ((b && d) && (f && g)) h e in
    let front = and_left (b && d) (f && g) most in
    let back = and_right (b && d) (f && g) most in
    blank-on rec s (s + 8) (s + 60) (s + 8) refl (omega arith) (omega arith)
    (sym first.eight_blank.ensures ∙ and_left b d front)
    (blank-on rec (s + 8) (s + 16) (s + 60) (s + 8 + 8) (omega arith) (omega arith) (omega arith)
    (sym second.eight_blank-2.ensures ∙ and_right b d front)
    (blank-on rec (s + 16) (s + 24) (s + 60) (s + 16 + 8) (omega arith) (omega arith) (omega arith)
    (sym third.eight_blank-3.ensures ∙ and_left f g back)
    (blank-on rec (s + 24) (s + 32) (s + 60) (s + 24 + 8) (omega arith) (omega arith) (omega arith)
    (sym fourth.eight_blank-4.ensures ∙ and_right f g back)
    (rw end at (c.is_blank_28.ensures (and_right ((b && d) && (f && g)) h e))))))

pub is_blank_60_spec : {M : Type 1} → statement M
is_blank_60_spec = tie.close (tie.spec (search rules) (search rules) (search rules) (search rules) (search rules) (search rules) (search rules) (search rules) (search rules) returns)
