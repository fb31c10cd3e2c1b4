-- `field_read::read_text` meets its contract. The invariant: what stands from `e` on is padding or lies past the record.
-- Assumes nothing.
use borrow.Author.Rules.{rules}
use Prim.Native.Nat.{◌+◌, ◌-◌, ◌≤◌}
use mathlib.Core.Path.{◌≡◌, sym, ◌∙◌}
use native.Mathlib.Omega.{arith}
use native.Mathlib.Nat.{min-le_right}
use lib.ListN.{length}
use Rattle.field.specs.Text.{text_in}
use Rattle.field.proofs.Texts.{text-none, text-within}
use Rattle.field.proofs.Parts.{text-spaces}
use Rattle.field_read.proofs.Padding.{padded-text}
use Rattle.field_read.proofs.read_text.Statement.{statement}
use Rattle.field_read.proofs.read_text.Tie as tie

abbrev invariant-loop : tie.invariant-loop-e
invariant-loop rec start end e₀ floor e = (start ≤ e) × (e ≤ length rec) × (text_in rec start e ≡ text_in rec start end)

abbrev decreases-loop : tie.decreases-loop-e
decreases-loop rec start end e₀ floor e = e

at_first : (c : tie.After-lesser-e invariant-loop decreases-loop) → let a = c.args in
    (c.lesser-e.result ≤ length a.rec.now) × (text_in a.rec.now a.start c.lesser-e.result ≡ text_in a.rec.now a.start a.end)
at_first c =
    let a = c.args in
    rw c.lesser-e.ensures
    (min-le_right a.end (length a.rec.now), text-within a.rec.now a.start a.end)

returns : tie.Need-returns-then-e-start invariant-loop decreases-loop
returns c =
    let first = c in
    let a = first.args in
    sym (text-none a.rec.now a.start first.lesser-e.result (omega arith)) ∙ (at_first first.before).1

add-floor : tie.Need-overflow_add-floor invariant-loop decreases-loop
add-floor c = omega (arith, (at_first c.before).0)

loop-holds : tie.Need-loop-e-init invariant-loop decreases-loop
loop-holds c = let f = at_first c.before in (omega arith, f.0, f.1)

padded-from-requires : tie.Need-padded_from-from-requires invariant-loop decreases-loop
padded-from-requires c κs =
    let asked = c in
    let l = asked in
    let whole : l.loop-e.e - 8 + 8 ≡ l.loop-e.e = omega arith in
    (omega arith, l.loop-e.invariant.1, rw whole at (sym asked.eight_blank.ensures ∙ c.if-not-eight_blank.true))

sub-result : tie.Need-slice_bounds-result-count invariant-loop decreases-loop
sub-result c = omega (arith, c.padded_from-from.ensures.room)

part-result-end : tie.Need-slice_bounds-result-end-then-not-eight_blank invariant-loop decreases-loop
part-result-end c = omega (arith, c.padded_from-from.ensures.before, c.loop-e.invariant.1)

returns-2 : tie.Need-returns-then-not-eight_blank invariant-loop decreases-loop
returns-2 c =
    let found = c in
    let l = found in
    let a = l.args in
    sym
    (padded-text a.rec.now l.loop-e.e (omega arith) a.start found.padded_from-from.result (omega arith) l.loop-e.invariant.1
    found.padded_from-from.ensures)
    ∙ l.loop-e.invariant.2

loop-again : tie.Need-loop-e-preserved invariant-loop decreases-loop
loop-again c =
    let asked = c in
    let l = asked in
    let a = l.args in
    let e = l.loop-e.e in
    let whole : e - 8 + 8 ≡ e = omega arith in
    let spaces = rw whole at (sym asked.eight_blank.ensures ∙ c.if-not-eight_blank.false) in (
      omega arith,
      omega (arith, l.loop-e.invariant.1),
      sym (text-spaces a.rec.now a.start (e - 8) e (omega arith) (omega arith) spaces) ∙ l.loop-e.invariant.2,
    )

returns-3 : tie.Need-returns invariant-loop decreases-loop
returns-3 c = c.text_by_bytes.ensures ∙ c.loop-e.invariant.2

pub read_text_spec : {M : Type 1} → statement M
read_text_spec =
    tie.close
    (tie.spec
    invariant-loop
    decreases-loop
    (search rules)
    (search rules)
    returns
    add-floor
    loop-holds
    (search rules)
    (search rules)
    padded-from-requires
    sub-result
    (search rules)
    part-result-end
    returns-2
    (search rules)
    (search rules)
    loop-again
    (search rules)
    returns-3)
