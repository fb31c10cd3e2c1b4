-- What folding makes of a label: short lines stay as they are, and the postcode keeps the last line to itself.
-- Assumes nothing.
use Prim.Native.Nat.{ℕ, suc, ◌+◌, ◌≤◌}
use mathlib.Core.Path.{◌≡◌, refl, ap, ◌∙◌}
use mathlib.Core.Bool.{Bool, true, false}
use mathlib.Core.List.{List, [], ◌∷◌, ◌++◌, append_assoc}
use native.Mathlib.Omega.{arith}
use lib.Dec.{eqb}
use lib.ListN.{length, length-append}
use Rattle.source.specs.Address.{Elements}
use Rattle.label.specs.Lines.{line, box_line, spaced, premises_of, fronted, places, lines_of}
use Rattle.label.specs.Label.{ended, label_of}
use Rattle.label.specs.Widths.{NoneAbove}
use Rattle.label.proofs.Places.{ended-append}
use Rattle.van.specs.Fold as Fold
use Rattle.van.specs.Fold.{columns, rows, Line, line_end, onto, lines_in, folded, texts, folded_bytes}
use Rattle.van.specs.Walk.{line_length}
use Rattle.van.proofs.Whole.{folds-to-itself, ended-whole, last_line, last-bytes, last-size}

-- ---- lines that are short

-- the first line has at most m bytes, and no other more than n
abbrev Headed : (m n : ℕ) → List (List ℕ) → Type 0
Headed m n [] = Unit {0}
Headed m n (l ∷ ls) = (length l ≤ m) × NoneAbove n ls

headed-all : (m n : ℕ) (ls : List (List ℕ)) → m ≤ n → Headed m n ls → NoneAbove n ls
headed-all m n [] h k = tt
headed-all m n (l ∷ ls) h k = (omega (arith, k.0), k.1)

headed-onto : (b m n : ℕ) (ls : List Line) → Headed m n (texts ls) → Headed (suc m) n (texts (onto b ls))
headed-onto b m n [] h = (omega arith, tt)
headed-onto b m n (l ∷ ls) h = (omega (arith, h.0), h.1)

headed-lines : (n : ℕ) (l rest : List ℕ) → length l ≤ n → NoneAbove n (texts (lines_in rest))
    → Headed (length l) n (texts (lines_in (l ++ (10 ∷ rest))))
unfolding lines_in
headed-lines n [] rest h k = (omega arith, k)
headed-lines n (b ∷ l) rest h k = by-test (eqb b 10) refl (headed-lines n l rest (omega arith) k)
  where
    by-test : (t : Bool) → eqb b 10 ≡ t → Headed (length l) n (texts (lines_in (l ++ (10 ∷ rest))))
        → Headed (suc (length l)) n (texts (lines_in ((b ∷ l) ++ (10 ∷ rest))))
    by-test true e more =
        rw e (omega arith, headed-all (length l) n (texts (lines_in (l ++ (10 ∷ rest)))) (omega arith) more)
    by-test false e more = rw e (headed-onto b (length l) n (lines_in (l ++ (10 ∷ rest))) more)

lines-narrow : (n : ℕ) (ls : List (List ℕ)) → NoneAbove n ls → NoneAbove n (texts (lines_in (ended ls)))
unfolding lines_in
lines-narrow n [] h = tt
lines-narrow n (l ∷ ls) h =
    headed-all (length l) n (texts (lines_in (l ++ (10 ∷ ended ls)))) h.0
    (headed-lines n l (ended ls) h.0 (lines-narrow n ls h.1))

-- "a label whose lines are all at most 36 long folds to itself"
pub label-itself : (e : Elements) → NoneAbove columns (lines_of e) → folded_bytes (label_of e) ≡ label_of e
unfolding label_of
label-itself e narrow = folds-to-itself (ended (lines_of e)) (ended-whole (lines_of e)) (lines-narrow columns (lines_of e) narrow)

-- ---- the postcode

module _ (e : Elements) where
  abbrev pub postcode : List ℕ
  postcode = spaced e.outward e.inward

  -- the lines before it
  abbrev pub before : List (List ℕ)
  before =
      line e.organisation
      ++ (line e.department
      ++ (box_line e.box ++ ((premises_of e).lines ++ fronted (premises_of e).front (places e))))

  label_is : label_of e ≡ ended before ++ (postcode ++ (10 ∷ []))
  unfolding label_of lines_of
  label_is = ap ended regrouped ∙ ended-append before (postcode ∷ [])
    where
      regroup : (a b c d f g : List (List ℕ)) → a ++ (b ++ (c ++ (d ++ (f ++ g)))) ≡ (a ++ (b ++ (c ++ (d ++ f)))) ++ g
      regroup a b c d f g = simp append_assoc

      regrouped : lines_of e ≡ before ++ (postcode ∷ [])
      regrouped =
          regroup (line e.organisation) (line e.department) (box_line e.box) (premises_of e).lines
          (fronted (premises_of e).front (places e)) (postcode ∷ [])

  -- no line end stands in it, and it is as long as document 01 has it
  module _ (one : line_length postcode ≡ length postcode) (long : length e.outward + length e.inward ≤ 7) where
    short : length postcode ≤ 8
    short = omega (arith, length-append e.outward (32 ∷ e.inward))

    -- "the last line of a folded label is its postcode"
    pub label-last : folded (label_of e) ≡ folded (ended before) ++ (Fold.line postcode line_end ∷ [])
    label-last =
        ap folded label_is ∙ last_line (ended before) postcode (ended-whole before) one (omega (arith, short))

    pub label-bytes : folded_bytes (label_of e) ≡ folded_bytes (ended before) ++ (postcode ++ (10 ∷ []))
    label-bytes =
        ap folded_bytes label_is ∙ last-bytes (ended before) postcode (ended-whole before) one (omega (arith, short))

    -- "for a label at most 194"
    pub label-194 : length (folded (label_of e)) ≤ rows → length (folded_bytes (label_of e)) ≤ 194
    label-194 h =
        let size = last-size (ended before) postcode (ended-whole before) one (omega (arith, short)) in
        omega (
          arith,
          size (omega (arith, ap (λ (t : List ℕ). length (folded t)) label_is)),
          ap (λ (t : List ℕ). length (folded_bytes t)) label_is,
          short,
        )
