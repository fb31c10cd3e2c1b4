-- `mainfile_rows::fine::is_fine_name` meets its contract. Assumes nothing.
use borrow.Author.Rules.{rules}
use Prim.Native.Nat.{◌+◌, ◌-◌}
use mathlib.Core.Path.{◌≡◌}
use native.Mathlib.Omega.{arith}
use Rattle.field.proofs.Tests.{and_left, and_right}
use Rattle.mainfile_rows.proofs.Laws.{text-fine}
use Rattle.mainfile_rows.proofs.fine.is_fine_name.Statement.{statement}
use Rattle.mainfile_rows.proofs.fine.is_fine_name.Tie as tie

returns : tie.Need-returns
returns c =
    let key = c in
    let a = key.args in
    let end : 8 + (a.end - 8) ≡ a.end = omega arith in
    λ e.
    text-fine a.rec.now 8 (a.end - 8) (key.is_fine_key-key.ensures (and_left key.is_fine_key-key.result _ e))
    (rw end (c.is_fine_text.ensures (and_right key.is_fine_key-key.result _ e)))

pub is_fine_name_spec : {M : Type 1} → statement M
is_fine_name_spec = tie.close (tie.spec (search rules) (search rules) returns)
