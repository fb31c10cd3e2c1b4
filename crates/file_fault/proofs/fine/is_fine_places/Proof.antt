-- `file_fault::fine::is_fine_places` meets its contract. Assumes nothing.
use borrow.Author.Rules.{rules}
use Prim.Native.Nat.{◌+◌}
use mathlib.Core.Path.{◌≡◌, sym, ◌∙◌}
use mathlib.Core.Bool.{not, ◌&&◌, ◌||◌}
use native.Mathlib.Omega.{arith}
use borrow.Author.Tests.{not-true}
use Rattle.field.specs.Text.{part}
use Rattle.field.proofs.Tests.{and_left, and_right}
use Rattle.field_test.proofs.Laws.{begun-filled}
use Rattle.file_fault.proofs.AtOnce.{begun-or-known, double-text}
use Rattle.file_fault.proofs.fine.is_fine_places.Statement.{statement}
use Rattle.file_fault.proofs.fine.is_fine_places.Tie as tie

returns : tie.Need-returns
returns c =
    let n = c in
    let behind-starts-blank3 = n in
    let behind-part-of3 = behind-starts-blank3 in
    let behind-starts-blank2 = behind-part-of3 in
    let behind-part-of2 = behind-starts-blank2 in
    let behind-starts-blank = behind-part-of2 in
    let behind-part-of = behind-starts-blank in
    let t = behind-part-of in
    let a = t.args in
    let middle : a.town + 30 + 35 ≡ a.town + 65 = omega arith in
    let end : a.town + 65 + 35 ≡ a.town + 100 = omega arith in
    λ e.
    let texts = t.are_places-texts.result in
    let town = not behind-starts-blank.starts_blank-begun.result in
    let dependent = not behind-starts-blank2.starts_blank-dependent.result in
    let double = not behind-starts-blank3.starts_blank-double.result in
    let no-dependent = n.is_blank_35-no_dependent.result in
    let no-double = c.is_blank_35-no_double.result in
    let one = dependent || no-dependent in
    let two = no-double || (double && dependent) in
    let front = and_left (texts && town) (one && two) e in
    let back = and_right (texts && town) (one && two) e in
    let each = t.are_places-texts.ensures (and_left texts town front) in
    let begins = rw behind-part-of2.part_of-2.ensures at (sym behind-starts-blank2.starts_blank-dependent.ensures) in
    let needed = part a.rec.now (a.town + 30) (a.town + 65) in (
      begun-filled _ (rw behind-part-of.part_of.ensures at (sym behind-starts-blank.starts_blank-begun.ensures ∙ not-true _ (and_right texts town front))) each.0,
      begun-or-known _ no-dependent _ begins (rw middle at n.is_blank_35-no_dependent.ensures) (and_left one two back) each.1,
      double-text _ each.2 needed _ no-double _ begins
          (rw behind-part-of3.part_of-3.ensures at (sym behind-starts-blank3.starts_blank-double.ensures))
          (rw end at c.is_blank_35-no_double.ensures)
          (and_right one two back),
    )

pub is_fine_places_spec : {M : Type 1} → statement M
is_fine_places_spec = tie.close (tie.spec (search rules) (search rules) (search rules) (search rules) (search rules) (search rules) (search rules) (search rules) (search rules) (search rules) (search rules) (search rules) (search rules) (search rules) (search rules) (search rules) returns)
