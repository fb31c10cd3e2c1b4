-- Laws of spans: a field of a record as a part of the record's file, and the organisation of a delivery point.
-- Assumes nothing.
use Prim.Native.Nat.{ℕ, ◌+◌, ◌-◌, ◌*◌, ◌/◌, min, ◌≤◌, ◌<◌}
use mathlib.Core.Path.{◌≡◌, refl, sym, ap, ◌∙◌}
use mathlib.Core.Bool.{Bool, true, false, cond}
use mathlib.Core.List.{List, [], ◌∷◌}
use native.Mathlib.Omega.{arith}
use lib.ListN.{length, length-take, length-drop}
use lib.Seq.{take-nil, drop-nil}
use Rattle.field.specs.Text.{trim, part, text_in}
use Rattle.file_record.specs.Parts.{record_at}
use Rattle.field.proofs.Fronts.{front-text}
use Rattle.file_record.proofs.Records.{part-part, record-none, record-length, record-part}
use Rattle.source.specs.Address.{none_needed, named, lacking}
use Rattle.source.specs.Resolve.{name_of, department_of}

module _ (w : ℕ) (file : List ℕ) (row from : ℕ) where
  -- the bytes of a record that a text takes up, as bytes of the record's file
  within : (t : List ℕ) → row < length file / w → part (record_at w file row) from (from + length t) ≡ t
      → part file (row * w + from) (row * w + from + length t) ≡ t
  within [] h e = rw (let none : row * w + from + 0 - (row * w + from) ≡ 0 = omega arith in none)
  within (x ∷ xs) h e =
      let t = x ∷ xs in
      let taken : min (from + length t - from) (length (record_at w file row) - from) ≡ length t
      = sym (simp (length-take, length-drop)) ∙ ap length e in
      let fits : from + length t ≤ w = omega (arith, record-length w file row h, taken) in
      let end : row * w + from + length t ≡ row * w + (from + length t) = omega arith in
      rw end (sym (record-part w file row h from (from + length t) fits) ∙ e)

  -- the text of a field of a record that is there, and of one that is not
  pub record-text : row < length file / w → (end : ℕ)
      → part file (row * w + from) (row * w + from + length (text_in (record_at w file row) from end))
      ≡ text_in (record_at w file row) from end
  record-text h end = within (text_in (record_at w file row) from end) h (front-text (record_at w file row) from end)

  pub record-no-text : length file / w ≤ row → (end : ℕ) → text_in (record_at w file row) from end ≡ []
  unfolding text_in
  record-no-text h end = rw (record-none w file row h, drop-nil {A = ℕ} from, take-nil {A = ℕ} (end - from))

-- the text of a field is that of the field alone
pub field-text : (own : List ℕ) (at n : ℕ) → text_in (part own at (at + n)) 0 n ≡ text_in own at (at + n)
unfolding text_in
field-text own at n =
    let whole : part own (at + 0) (at + n) ≡ part own at (at + n) = rw (let z : at + 0 ≡ at = omega arith in z) in
    ap trim (part-part own at n 0 n (omega arith) ∙ whole)

-- name and department, by whether there is an organisation, and one that is not there
pub name-said : (t u : Bool) (n d : List ℕ) → cond t n [] ≡ name_of (cond t (named n d) (cond u lacking none_needed))
name-said true u n d = refl
name-said false true n d = refl
name-said false false n d = refl

pub department-said : (t u : Bool) (n d : List ℕ)
    → cond t d [] ≡ department_of (cond t (named n d) (cond u lacking none_needed))
department-said true u n d = refl
department-said false true n d = refl
department-said false false n d = refl

-- a field by its end
module _ (t : Bool) (own : List ℕ) (at n end : ℕ) (e : at + n ≡ end) where
  pub unless-end : cond t [] (text_in own at (at + n)) ≡ cond t [] (text_in own at end)
  unless-end = rw e

  pub if-end : cond t (text_in own at (at + n)) [] ≡ cond t (text_in own at end) []
  if-end = rw e

-- the three bytes behind the outward code
pub inward-bytes : (own : List ℕ) (at : ℕ) → part own (at + 4) (at + 4 + 3) ≡ part own (at + 4) (at + 7)
inward-bytes own at = rw (let end : at + 4 + 3 ≡ at + 7 = omega arith in end)
