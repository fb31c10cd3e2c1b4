-- `mainfile_texts::inner::gather_own` meets its contract. Assumes nothing.
use borrow.Author.Rules.{rules}
use Prim.Native.Nat.{ℕ, ◌+◌, ◌≤◌}
use mathlib.Core.Path.{◌≡◌, refl, ◌∙◌}
use native.Mathlib.Omega.{arith}
use native.Mathlib.Nat.{le_refl}
use lib.ListN.{length}
use Rattle.field.specs.Text.{text_in}
use Rattle.field.proofs.Texts.{part-bound}
use Rattle.source_spans.proofs.Laws.{name-said, department-said, if-end}
use Rattle.mainfile_texts.proofs.Kept.{kept-as, kept_same, kept-stood, same_then, stays}
use Rattle.mainfile_texts.proofs.inner.gather_own.Statement.{statement}
use Rattle.mainfile_texts.proofs.inner.gather_own.Tie as tie

text-into-requires : tie.Need-text_into-inward-requires
text-into-requires c κs =
    let start = c in
    let at = start.args.p.postcode in
    let short = part-bound start.args.addresses.now (at + 4) (at + 7) in
    let long =
    c.field_into-outward.ensures.long
    ∙ (c.field_into-po_box.ensures.long
    ∙ (c.field_into-department.ensures.long ∙ c.field_into-organisation.ensures.long)) in
    let three = c.part_of-three.result.now in
    let small : length three ≤ 3 = rw c.part_of-three.ensures (omega arith) in
    let room : 130 + length three ≤ length c.field_into-outward.new.texts =
    omega (arith, long, start.requires.1, small) in
    (omega arith, room)

returns : tie.Need-returns
returns c =
    let start = c in
    let a = start.args in
    let p = a.p in
    let o = p.organisation in
    let there = p.organised in
    let others = a.organisations.now in
    let name = text_in others o (o + 60) in
    let department = text_in others (o + 60) (o + 120) in
    let part_of = c in
    let first =
    kept-as 60 c.field_into-organisation.ensures (name-said there p.lacking name department) (le_refl 60) in
    let second =
    kept-as 60 c.field_into-department.ensures
    (if-end there others (o + 60) 60 (o + 120) (omega arith) ∙ department-said there p.lacking name department)
    (le_refl 60) in
    let third = c.field_into-po_box.ensures in
    let fourth = c.field_into-outward.ensures in
    let short = part-bound a.addresses.now (p.postcode + 4) (p.postcode + 7) in
    let fifth =
    kept-as 3 c.text_into-inward.ensures part_of.part_of-three.ensures (rw part_of.part_of-three.ensures (omega arith)) in
    -- what the later ones leave as it is
    let last = kept_same 130 fifth (omega arith) in
    let from-fourth = same_then (kept_same 126 fourth (omega arith)) (kept_same 126 fifth (omega arith)) in
    let from-third =
    same_then (kept_same 120 third (omega arith))
    (same_then (kept_same 120 fourth (omega arith)) (kept_same 120 fifth (omega arith))) in
    let from_Second =
    same_then (kept_same 60 second (omega arith))
    (same_then (kept_same 60 third (omega arith))
    (same_then (kept_same 60 fourth (omega arith)) (kept_same 60 fifth (omega arith)))) in (
      record {
        organisation = stays 133 from_Second (omega arith) (omega arith) (kept-stood 60 first (omega arith));
        department = stays 133 from-third (omega arith) (omega arith) (kept-stood 120 second (omega arith));
        box = stays 133 from-fourth (omega arith) (omega arith) (kept-stood 126 third (omega arith));
        outward = stays 133 last (omega arith) (omega arith) (kept-stood 130 fourth (omega arith));
        inward = kept-stood 133 fifth (omega arith);
      },
      same_then (kept_same 0 first (omega arith))
          (same_then (kept_same 0 second (omega arith))
          (same_then (kept_same 0 third (omega arith))
          (same_then (kept_same 0 fourth (omega arith)) (kept_same 0 fifth (omega arith))))),
    )

pub gather_own_spec : {M : Type 1} → statement M
gather_own_spec = tie.close (tie.spec (λ c κs. search rules) (λ c. search rules) (λ c κs. search rules) (λ c κs. search rules) (λ c κs. search rules) (λ c. search rules) (λ c. search rules) (λ c κs. search rules) text-into-requires (λ c. search rules) returns)
