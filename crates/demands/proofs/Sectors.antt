-- Demand 2 for sectors: what asking a pack for one comes to, case by case; and that the ten counts together are its points.
-- Assumes nothing.
use Prim.Native.Nat.{ℕ, zero, suc, ◌+◌, ◌≤◌}
use mathlib.Core.Path.{◌≡◌, refl, sym, ap, ◌∙◌}
use mathlib.Core.Bool.{Bool, true, false, cond}
use mathlib.Core.List.{List}
use native.Mathlib.Omega.{arith}
use borrow.Author.Tests.{eqb-true, eq-eqb, leb-true, leb-false}
use lib.Dec.{leb}
use lib.ListN.{get_or}
use Rattle.field.specs.Digits.{digit}
use Rattle.field.specs.Text.{part}
use Rattle.field.proofs.Tests.{and_left, and_right}
use Rattle.file_compare.specs.Order.{same}
use Rattle.field_outward.specs.Inward.{inward_letter, inward_fault}
use Rattle.field_outward.proofs.Long.{inward-long}
use Rattle.field_outward.proofs.Codes.{inward-bytes}
use Rattle.refusal.specs.Outcome.{after}
use Rattle.refusal.specs.declared.Reason.TheVariants.{BadDigit}
use Rattle.pack.specs.Names.{inward_at, postcode_width, point_width}
use Rattle.pack.specs.Sectors.{in_sector}
use Rattle.pack.specs.Opening.{edition, outward, points_start, point_count, offset_kinds, rest_of, given, postcode_good, offsets_good, parts_good, points_good, all_points_good, digits_from, point_digits, opened}
use Rattle.pack.specs.Points.{sector_answer, pack_sector}
use Rattle.pack.proofs.Sectors.{AllDigits, how-many-few, digits_long, counts-together}
use Rattle.pack_carries.proofs.Point.{part-first}
use Rattle.pack_counts.proofs.Laws.{read-is-counted}
use Rattle.pack_open.proofs.Opened.{opened-all}
use Rattle.demands.specs.Two.{SectorAsked, pack_refused, no_digit, counted, SectorsTogether}
use Rattle.std.specs.Prelude.{Ok, Err}
use Rattle.refusal.specs.Answer.{Answer, refusal}

-- no sector has more points than there are
pub sector-few : (pack : List ℕ) (d : ℕ) → in_sector d (point_digits pack) ≤ point_count pack
sector-few pack d =
    omega (
      arith,
      how-many-few (48 + d) (point_digits pack),
      digits_long pack (point_width (edition pack)) (point_count pack) (points_start pack),
    )

pub sector-asked : (pack : List ℕ) (d : ℕ) → SectorAsked pack d
unfolding pack_sector sector_answer
sector-asked pack d = by-opened (opened pack) refl
  where
    asked : {n : ℕ} → opened pack ≡ Ok n → pack_sector pack d ≡ sector_answer (point_digits pack) d
    asked e = ap (λ a. after a (sector_answer (point_digits pack) d)) e

    by-digit : {n : ℕ} → opened pack ≡ Ok n → (t : Bool) → leb d 9 ≡ t → SectorAsked pack d
    by-digit {n} e true h =
        let low = leb-true d 9 h in
        counted e low
        (λ third. read-is-counted pack (opened-all pack n e).counts (eq-eqb (edition pack) 3 third) d (omega arith))
        (asked e ∙ ap (λ t. cond t (Ok (in_sector d (point_digits pack))) (refusal 0 BadDigit)) h)
    by-digit e false h =
        no_digit e (leb-false d 9 h)
        (asked e ∙ ap (λ t. cond t (Ok (in_sector d (point_digits pack))) (refusal 0 BadDigit)) h)

    by-opened : (o : Answer) → opened pack ≡ o → SectorAsked pack d
    by-opened (Ok n) e = by-digit e (leb d 9) refl
    by-opened (Err r) e = pack_refused e (ap (λ a. after a (sector_answer (point_digits pack) d)) e)

-- ---- together

-- a well_formed inward code begins with a digit
inward-digit : (s : List ℕ) → inward_fault s ≡ 0 → digit (get_or s 0 0) ≡ true
inward-digit s e = by-test (digit (get_or s 0 0)) (sym (inward-bytes s (inward-long s e)) ∙ e)
  where
    by-test : (t : Bool)
        → ◌≡◌ {A = ℕ} (cond t (cond (inward_letter (get_or s 1 0)) (cond (inward_letter (get_or s 2 0)) 0 3) 2) 1) 0
        → t ≡ true
    by-test true h = refl
    by-test false h = absurd (omega arith)

-- so that good points have digits
module _ (pack : List ℕ) where
  point-digit : (at : ℕ) → parts_good pack at (rest_of pack at) ≡ true → digit (get_or pack (at + inward_at) 0) ≡ true
  unfolding parts_good
  point-digit at good =
      let rest = rest_of pack at in
      let inward = part pack (at + inward_at) (at + postcode_width) in
      let behind-locality = and_right (given pack rest 0) _ (and_right (offsets_good pack rest 0 offset_kinds) _ good) in
      let postcode = and_left (postcode_good pack at) _ behind-locality in
      let clean = and_right (same (part pack at (at + inward_at)) (outward pack)) _ postcode in
      ap digit (sym (part-first pack (at + inward_at) (at + postcode_width) (omega arith)))
      ∙ inward-digit inward (eqb-true (inward_fault inward) 0 clean)

  points-digits : (n at : ℕ) → points_good pack n at ≡ true → AllDigits (digits_from pack (point_width (edition pack)) n at)
  points-digits zero at good = tt
  points-digits (suc n) at good = (
    point-digit at (and_left (parts_good pack at (rest_of pack at)) _ good),
    points-digits n (at + point_width (edition pack)) (and_right (parts_good pack at (rest_of pack at)) _ good),
  )

  pub sectors-together : SectorsTogether pack
  unfolding all_points_good
  sectors-together n e =
      let all = opened-all pack n e in
      counts-together (point_digits pack) (points-digits (point_count pack) (points_start pack) all.points)
      ∙ (digits_long pack (point_width (edition pack)) (point_count pack) (points_start pack) ∙ sym all.counted)
