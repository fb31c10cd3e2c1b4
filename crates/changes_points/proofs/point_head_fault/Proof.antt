-- `changes_points::point_head_fault` meets its contract. Assumes nothing.
use borrow.Author.Rules.{rules}
use lib.Dec.{lit≤}
use Rattle.file_fault.proofs.Laws.{digits-join}
use Rattle.changes_points.proofs.point_head_fault.Statement.{statement}
use Rattle.changes_points.proofs.point_head_fault.Tie as tie

returns : tie.Need-returns
returns c =
    let behind-digits-at2 = c in
    let behind-first-of7 = behind-digits-at2 in
    let behind-outward-at = behind-first-of7 in
    let behind-first-of6 = behind-outward-at in
    let behind-inward-at = behind-first-of6 in
    let behind-first-of5 = behind-inward-at in
    let behind-suffix-at = behind-first-of5 in
    let behind-first-of4 = behind-suffix-at in
    let behind-postcode-type-at = behind-first-of4 in
    let behind-first-of3 = behind-postcode-type-at in
    let behind-digits-at = behind-first-of3 in
    let behind-first-of2 = behind-digits-at in
    let behind-letter-at = behind-first-of2 in
    let behind-first-of = behind-letter-at in
    let behind-type-at = behind-first-of in
    let at-start = behind-type-at in
    rw (c.first_of.ensures, behind-digits-at2.digits_at-2.ensures, behind-first-of7.first_of-outward.ensures, behind-outward-at.outward_at.ensures, behind-first-of6.first_of-inward.ensures, behind-inward-at.inward_at.ensures, behind-first-of5.first_of-suffix.ensures, behind-suffix-at.suffix_at.ensures, behind-first-of4.first_of-user.ensures, behind-postcode-type-at.postcode_type_at.ensures, behind-first-of3.first_of-both_keys.ensures, behind-digits-at.digits_at.ensures, behind-first-of2.first_of-letter.ensures, behind-letter-at.letter_at.ensures, behind-first-of.first_of-kind.ensures, behind-type-at.type_at.ensures)
    (rw (digits-join at-start.args.rec.now 24 32 40 (lit≤ tt) (lit≤ tt), digits-join at-start.args.rec.now 0 8 14 (lit≤ tt) (lit≤ tt)))

pub point_head_fault_spec : {M : Type 1} → statement M
point_head_fault_spec =
    tie.close
    (tie.spec
    (λ c κs. search rules)
    (λ c κs. search rules)
    (λ c κs. search rules)
    (λ c κs. search rules)
    (λ c κs. search rules)
    (λ c κs. search rules)
    (λ c κs. search rules)
    (λ c κs. search rules)
    (λ c κs. search rules)
    (λ c κs. search rules)
    (λ c κs. search rules)
    (λ c κs. search rules)
    (λ c κs. search rules)
    (λ c κs. search rules)
    (λ c κs. search rules)
    (λ c κs. search rules)
    returns)
