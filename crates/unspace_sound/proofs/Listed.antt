-- What is asked of a rewritten point file alone is what was asked of the file.
-- Assumes nothing.
use Prim.Native.Nat.{ℕ, ◌+◌}
use mathlib.Core.Path.{◌≡◌, refl, ap, ap₂, ◌∙◌}
use mathlib.Core.Bool.{cond}
use mathlib.Core.List.{List, [], ◌∷◌}
use lib.Dec.{lit≤, eqb}
use lib.ListN.{length, get_or}
use Rattle.field.specs.Test.{elem}
use Rattle.field_outward.specs.Outward.{outward_fault}
use Rattle.file_record.specs.Parts.{record_at}
use Rattle.file_record.specs.Names.Point
use Rattle.refusal.specs.declared.Reason.TheVariants.{NoSuchNumber, BadCode}
use Rattle.refusal.specs.Outcome.{Outcome, after, afterwards}
use Rattle.file.specs.Check.{checked}
use Rattle.file.specs.Formats.{point_format}
use Rattle.changes_views.specs.Views.{is_live, wanted_in, wanted_count, wanted_at}
use Rattle.changes_list.specs.Listing.{views_answer, letter_at, letter_answer, live_at, live_answer}
use Rattle.pack.specs.Numbers.{number_from, number_at}
use Rattle.tally.specs.Tally.{tally}
use Rattle.tally_bytes.specs.Entries.{entries_outcome}
use Rattle.changes_codes.specs.Codes.{code_of, live_codes, codes_in, codes_outcome}
use Rattle.unspace_file.proofs.Records.{record-like, record-part-like}
use Rattle.unspace_sound.specs.Sound.{new_points, SameLists}
use Rattle.unspace_sound.proofs.Reader.{checked-kept}
use Rattle.unspace_sound.proofs.Formats.{points-identified}
use Rattle.unspace_sound.proofs.Views.{wanted-kept}
use Rattle.std.specs.Prelude.{Ok}
use Rattle.refusal.specs.Answer.{Answer, refusal}

module _ (points : List ℕ) where
  abbrev new : List ℕ
  new = new_points points

  judged-kept : checked point_format new ≡ checked point_format points
  judged-kept = checked-kept point_format Point.identifier points-identified points

  count_kept : (code : List ℕ) → wanted_count code new ≡ wanted_count code points
  unfolding wanted_count
  count_kept code = ap length (wanted-kept points code)

  place_kept : (view : ℕ) → wanted_at [] new view ≡ wanted_at [] points view
  unfolding wanted_at
  place_kept view = ap (λ (l : List ℕ). get_or (0 ∷ l) view 0) (wanted-kept points [])

  letter-kept : (i : ℕ) → get_or (record_at Point.width new i) Point.letter 0 ≡ get_or (record_at Point.width points i) Point.letter 0
  letter-kept i = record-like Point.width Point.identifier (lit≤ tt) points i Point.letter (lit≤ tt)

  letter-at-kept : (place : ℕ) → letter_at new place ≡ letter_at points place
  unfolding letter_at
  letter-at-kept place =
      ap (λ (letter : ℕ). cond (eqb place 0) (refusal 0 NoSuchNumber) (Ok letter)) (letter-kept place)

  live-at-kept : (code : List ℕ) → live_at new code ≡ live_at points code
  unfolding live_at
  live-at-kept code =
      ap (λ (n : ℕ). cond (eqb (outward_fault code) 0) (Ok n) (refusal 0 BadCode)) (count_kept code)

  code-kept : (i : ℕ) → code_of (record_at Point.width new i) ≡ code_of (record_at Point.width points i)
  unfolding number_at
  code-kept i =
      ap (number_from 0) (record-part-like Point.width Point.identifier (lit≤ tt) points i Point.outward (Point.outward + 4) (lit≤ tt))

  is-live-kept : (i : ℕ) → is_live (record_at Point.width new i) ≡ is_live (record_at Point.width points i)
  is-live-kept i = ap (λ (letter : ℕ). elem letter (73 ∷ 67 ∷ [])) (letter-kept i)

  codes-at-kept : (places : List ℕ) → live_codes new places ≡ live_codes points places
  codes-at-kept [] = refl
  codes-at-kept (place ∷ places) =
      rw (is-live-kept place, code-kept place, codes-at-kept places) refl

  codes-kept : codes_in new ≡ codes_in points
  codes-kept = ap tally (codes-at-kept (wanted_in [] new) ∙ ap (live_codes points) (wanted-kept points []))

  views_same : views_answer new ≡ views_answer points
  unfolding views_answer
  views_same = ap₂ after judged-kept (ap Ok (count_kept []))

  letters-same : (view : ℕ) → letter_answer new view ≡ letter_answer points view
  unfolding letter_answer
  letters-same view =
      ap₂ after judged-kept (letter-at-kept (wanted_at [] new view) ∙ ap (letter_at points) (place_kept view))

  live_same : (code : List ℕ) → live_answer new code ≡ live_answer points code
  unfolding live_answer
  live_same code = ap₂ after judged-kept (live-at-kept code)

  codes_same : (out : List ℕ) → codes_outcome new out ≡ codes_outcome points out
  unfolding codes_outcome
  codes_same out =
      ap₂ (λ (a : Answer) (o : Outcome Answer). afterwards refusal a out o) judged-kept
      (ap (λ es. entries_outcome es out) codes-kept)

pub lists-same : (points : List ℕ) → SameLists points
lists-same points =
    record { views = views_same points; letters = letters-same points; live = live_same points; codes = codes_same points }
