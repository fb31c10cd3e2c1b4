-- `label_length::inner::lead_len` meets its contract: nothing of a front that is empty or no longer pending, and else the front and a space.
-- Assumes nothing.
use borrow.Author.Rules.{rules}
use mathlib.Core.Path.{refl, sym, ap, ◌∙◌}
use native.Mathlib.Omega.{arith}
use lib.ListN.{length}
use Rattle.label.specs.Put.{front_text}
use Rattle.label.proofs.Places.{lead-none}
use Rattle.label.proofs.Pieces.{lead-made}
use Rattle.label.proofs.Walk.{two_sized}
use Rattle.label_length.proofs.inner.lead_len.Statement.{statement}
use Rattle.label_length.proofs.inner.lead_len.Tie as tie

returns : tie.Need-returns-then-n-eq0
returns c =
    let pending = c in
    let g = pending.args in
    let f = front_text g.a.now g.b.now g.f in
    rw pending.if-f.true
    (ap length (lead-none f (sym c.front_len-n.ensures.0 ∙ c.if-n-eq0.true)), omega arith)

returns-2 : tie.Need-returns-then-f
returns-2 c =
    let pending = c in
    let g = pending.args in
    let front = c.front_len-n.ensures in
    two_sized {v = 1} (lead-made g.a.now g.b.now g.f pending.if-f.true (λ z. c.if-n-eq0.false (front.0 ∙ z))) front
    (refl, omega arith) (omega arith)

returns-3 : tie.Need-returns
returns-3 c = rw c.if-f.false (refl, omega arith)

pub lead_len_spec : {M : Type 1} → statement M
lead_len_spec =
    tie.close (tie.spec (search rules) returns (search rules) returns-2 returns-3)
