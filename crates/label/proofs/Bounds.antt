-- "A label has at most 11 lines and 499 bytes, no line above 163 without its end."
-- Lines: organisation, department, box, two of premises, five from dependent thoroughfare to post town, postcode: 11.
-- The longest line: `s b` in front of a thoroughfare with its descriptor, (30 + 1 + 50) + 1 + (60 + 1 + 20) = 163.
-- Bytes, each line with its end: organisation and department 61 + 61; `PO BOX ` and the box 7 + 6 + 1 = 14; sub building
-- and building, on one line or two, 30 + 50 + 2 = 82; the number and a space 5; two thoroughfares 82 + 82; localities
-- 36 + 36; town 31; postcode 4 + 1 + 3 + 1 = 9. In all 499. `Worked` has labels that reach each of the three.
-- Assumes nothing.
use Prim.Native.Nat.{ℕ, ◌+◌, ◌≤◌, ◌/◌, ◌%◌}
use mathlib.Core.Path.{◌≡◌}
use mathlib.Core.Bool.{Bool, true, false, cond}
use mathlib.Core.List.{List, [], ◌∷◌, ◌++◌}
use native.Mathlib.Omega.{arith}
use lib.Dec.{eqb, ltb}
use lib.ListN.{length, length-append}
use Rattle.field.specs.Text.{numeric_like}
use Rattle.source.specs.Address.{Elements}
use Rattle.label.specs.Lines.{line, box_line, spaced, street, street_line, number_text, Premises, premises, table, fronted, places, premises_of, lines_of}
use Rattle.label.specs.Label.{ended, label_of}
use Rattle.label.specs.Widths.{Slim, Fits, NoneAbove}
use Rattle.label.specs.declared.Spans.{Spans}
use Rattle.label.specs.Spans.{elements_in}
use Rattle.label.proofs.Places.{ended-append}
use Rattle.label.proofs.Texts.{text-short}

-- bytes of lines after lines
size-append : (a b : List (List ℕ)) → length (ended (a ++ b)) ≡ length (ended a) + length (ended b)
size-append a b = rw (ended-append a b) (length-append (ended a) (ended b))

above-append : (n : ℕ) (a b : List (List ℕ)) → NoneAbove n a → NoneAbove n b → NoneAbove n (a ++ b)
above-append n [] b h k = k
above-append n (l ∷ ls) b h k = (h.0, above-append n ls b h.1 k)

above-five : (n : ℕ) (a b c d f : List (List ℕ)) → NoneAbove n a → NoneAbove n b → NoneAbove n c → NoneAbove n d
    → NoneAbove n f
    → NoneAbove n (a ++ (b ++ (c ++ (d ++ f))))
above-five n a b c d f h i j k l =
    above-append n a (b ++ (c ++ (d ++ f))) h
    (above-append n b (c ++ (d ++ f)) i (above-append n c (d ++ f) j (above-append n d f k l)))

above_more : (m n : ℕ) (ls : List (List ℕ)) → m ≤ n → NoneAbove m ls → NoneAbove n ls
above_more m n [] g h = tt
above_more m n (l ∷ ls) g h = (omega (arith, h.0), above_more m n ls g h.1)

-- one text, one line
line-count : (t : List ℕ) → length (line t) ≤ 1
line-count [] = omega arith
line-count (x ∷ xs) = omega arith

line-size : (t : List ℕ) → length (ended (line t)) ≤ length t + 1
line-size [] = omega arith
line-size (x ∷ xs) = simp length-append (omega arith)

line-above : (n : ℕ) (t : List ℕ) → length t ≤ n → NoneAbove n (line t)
line-above n [] h = tt
line-above n (x ∷ xs) h = (h, tt)

box-count : (t : List ℕ) → length (box_line t) ≤ 1
box-count [] = omega arith
box-count (x ∷ xs) = omega arith

box-size : (t : List ℕ) → length (ended (box_line t)) ≤ length t + 8
box-size [] = omega arith
box-size (x ∷ xs) = simp length-append (omega arith)

box-above : (n : ℕ) (t : List ℕ) → length t + 7 ≤ n → NoneAbove n (box_line t)
box-above n [] h = tt
box-above n (x ∷ xs) h = (omega arith, tt)

-- a name and its descriptor
pub street-length : (name d : List ℕ) → length (street name d) ≤ length name + length d + 1
street-length name [] = omega arith
street-length name (x ∷ xs) = simp length-append (omega arith)

street-count : (name d : List ℕ) → length (street_line name d) ≤ 1
street-count [] d = omega arith
street-count (x ∷ xs) d = omega arith

street-size : (name d : List ℕ) → length (ended (street_line name d)) ≤ length name + length d + 2
street-size [] d = omega arith
street-size (x ∷ xs) d = simp length-append (omega (arith, street-length (x ∷ xs) d))

street-above : (n : ℕ) (name d : List ℕ) → length name + length d + 1 ≤ n → NoneAbove n (street_line name d)
street-above n [] d h = tt
street-above n (x ∷ xs) d h = (omega (arith, street-length (x ∷ xs) d), tt)

pub number-length : (n : ℕ) → length (number_text n) ≤ 4
unfolding number_text
number-length n = by_tests (eqb n 0) (ltb n 10) (ltb n 100) (ltb n 1000)
  where
    by_tests : (t u v w : Bool)
        → length
        (cond t []
        (cond u ((48 + n) ∷ [])
        (cond v ((48 + n / 10) ∷ (48 + n % 10) ∷ [])
        (cond w ((48 + n / 100) ∷ (48 + n / 10 % 10) ∷ (48 + n % 10) ∷ [])
        ((48 + n / 1000) ∷ (48 + n / 100 % 10) ∷ (48 + n / 10 % 10) ∷ (48 + n % 10) ∷ [])))))
        ≤ 4
    by_tests true u v w = omega arith
    by_tests false true v w = omega arith
    by_tests false false true w = omega arith
    by_tests false false false true = omega arith
    by_tests false false false false = omega arith

-- what each row of the table of premises gives at most: its lines, its bytes, its longest line, its front
record Sized (s b n : List ℕ) (p : Premises) : Type 0 where
  count : length p.lines ≤ 2
  size : length (ended p.lines) + length p.front ≤ length s + length b + length n + 2
  above : (k : ℕ) → length s + length b + 1 ≤ k → NoneAbove k p.lines
  ahead : (k : ℕ) → length s + length b + 1 ≤ k → length n + length s ≤ k → length p.front ≤ k

table-sized : (s b n : List ℕ) (y : Bool) → Sized s b n (table s b n y)
table-sized [] [] n y =
    record { count = omega arith; size = omega arith; above = λ k g. tt; ahead = λ k g h. omega arith }
table-sized [] (b ∷ bs) [] y = by-test (numeric_like (b ∷ bs))
  where
    by-test : (t : Bool) → Sized [] (b ∷ bs) [] (cond t (premises [] (b ∷ bs)) (premises ((b ∷ bs) ∷ []) []))
    by-test true = record { count = omega arith; size = omega arith; above = λ k g. tt; ahead = λ k g h. omega arith }
    by-test false =
        record {
          count = omega arith;
          size = simp length-append (omega arith);
          above = λ k g. (omega arith, tt);
          ahead = λ k g h. omega arith;
        }
table-sized [] (b ∷ bs) (n ∷ ns) y =
    record {
      count = omega arith;
      size = simp length-append (omega arith);
      above = λ k g. (omega arith, tt);
      ahead = λ k g h. omega arith;
    }
table-sized (s ∷ ss) [] n true =
    record {
      count = omega arith;
      size = simp length-append (omega arith);
      above = λ k g. tt;
      ahead = λ k g h. simp length-append (omega arith);
    }
table-sized (s ∷ ss) [] n false =
    record {
      count = omega arith;
      size = simp length-append (omega arith);
      above = λ k g. (omega arith, tt);
      ahead = λ k g h. omega arith;
    }
table-sized (s ∷ ss) (b ∷ bs) [] y = by_tests (numeric_like (s ∷ ss)) (numeric_like (b ∷ bs))
  where
    by_tests : (t u : Bool)
        → Sized (s ∷ ss) (b ∷ bs) []
        (cond t
        (cond u (premises [] (spaced (s ∷ ss) (b ∷ bs))) (premises (spaced (s ∷ ss) (b ∷ bs) ∷ []) []))
        (cond u (premises ((s ∷ ss) ∷ []) (b ∷ bs)) (premises ((s ∷ ss) ∷ (b ∷ bs) ∷ []) [])))
    by_tests true true =
        record {
          count = omega arith;
          size = simp length-append (omega arith);
          above = λ k g. tt;
          ahead = λ k g h. simp length-append (omega arith);
        }
    by_tests true false =
        record {
          count = omega arith;
          size = simp length-append (omega arith);
          above = λ k g. (simp length-append (omega arith), tt);
          ahead = λ k g h. omega arith;
        }
    by_tests false true =
        record {
          count = omega arith;
          size = simp length-append (omega arith);
          above = λ k g. (omega arith, tt);
          ahead = λ k g h. omega arith;
        }
    by_tests false false =
        record {
          count = omega arith;
          size = simp length-append (omega arith);
          above = λ k g. (omega arith, (omega arith, tt));
          ahead = λ k g h. omega arith;
        }
table-sized (s ∷ ss) (b ∷ bs) (n ∷ ns) y = by-test (numeric_like (s ∷ ss))
  where
    by-test : (t : Bool)
        → Sized (s ∷ ss) (b ∷ bs) (n ∷ ns)
        (cond t (premises (spaced (s ∷ ss) (b ∷ bs) ∷ []) (n ∷ ns)) (premises ((s ∷ ss) ∷ (b ∷ bs) ∷ []) (n ∷ ns)))
    by-test true =
        record {
          count = omega arith;
          size = simp length-append (omega arith);
          above = λ k g. (simp length-append (omega arith), tt);
          ahead = λ k g h. omega arith;
        }
    by-test false =
        record {
          count = omega arith;
          size = simp length-append (omega arith);
          above = λ k g. (omega arith, (omega arith, tt));
          ahead = λ k g h. omega arith;
        }

-- what a front adds
front-count : (f : List ℕ) (ls : List (List ℕ)) → length (fronted f ls) ≤ length ls
front-count [] ls = omega arith
front-count (f ∷ fs) [] = omega arith
front-count (f ∷ fs) (l ∷ ls) = omega arith

front-size : (f : List ℕ) (ls : List (List ℕ)) → length (ended (fronted f ls)) ≤ length f + 1 + length (ended ls)
front-size [] ls = omega arith
front-size (f ∷ fs) [] = omega arith
front-size (f ∷ fs) (l ∷ ls) = simp length-append (omega arith)

front_above : (m n : ℕ) (f : List ℕ) (ls : List (List ℕ)) → length f + 1 + m ≤ n → NoneAbove m ls
    → NoneAbove n (fronted f ls)
front_above m n [] ls g h = above_more m n ls (omega arith) h
front_above m n (f ∷ fs) [] g h = tt
front_above m n (f ∷ fs) (l ∷ ls) g h =
    (simp length-append (omega (arith, h.0)), above_more m n ls (omega arith) h.1)

-- how many bytes all the texts of a label have
abbrev pub all_texts : Elements → ℕ
all_texts e =
    length e.organisation + length e.department + length e.box + length e.sub_building + length e.building
    + length e.dependent + length e.dependent_descriptor + length e.thoroughfare + length e.descriptor
    + length e.double_locality + length e.dependent_locality + length e.town + length e.outward
    + length e.inward

module _ (e : Elements) where
  abbrev number : List ℕ
  number = number_text e.number

  premises-sized : Sized e.sub_building e.building number (premises_of e)
  premises-sized = table-sized e.sub_building e.building number e.concatenation

  places_count : length (places e) ≤ 5
  places_count =
      simp length-append
      (omega (
        arith,
        street-count e.dependent e.dependent_descriptor,
        street-count e.thoroughfare e.descriptor,
        line-count e.double_locality,
        line-count e.dependent_locality,
        line-count e.town,
      ))

  pub at-most-11-lines : length (lines_of e) ≤ 11
  unfolding lines_of
  at-most-11-lines =
      simp length-append
      (omega (
        arith,
        line-count e.organisation,
        line-count e.department,
        box-count e.box,
        premises-sized.count,
        front-count (premises_of e).front (places e),
        places_count,
      ))

  places-size : length (ended (places e))
      ≤ length e.dependent + length e.dependent_descriptor + length e.thoroughfare + length e.descriptor
      + length e.double_locality + length e.dependent_locality + length e.town + 7
  places-size =
      simp size-append
      (omega (
        arith,
        street-size e.dependent e.dependent_descriptor,
        street-size e.thoroughfare e.descriptor,
        line-size e.double_locality,
        line-size e.dependent_locality,
        line-size e.town,
      ))

  -- of any elements: all their texts, the number, `PO BOX `, spaces and ends
  pub at-most-texts : length (label_of e) ≤ all_texts e + 26
  unfolding label_of lines_of
  at-most-texts =
      simp (size-append, length-append)
      (omega (
        arith,
        line-size e.organisation,
        line-size e.department,
        box-size e.box,
        premises-sized.size,
        number-length e.number,
        front-size (premises_of e).front (places e),
        places-size,
      ))

  module _ (slim : Slim e) where
    pub slim-499 : length (label_of e) ≤ 499
    slim-499 = omega (arith, at-most-texts)

    places-above : NoneAbove 81 (places e)
    places-above =
        above-five 81 (street_line e.dependent e.dependent_descriptor) (street_line e.thoroughfare e.descriptor)
        (line e.double_locality) (line e.dependent_locality) (line e.town)
        (street-above 81 e.dependent e.dependent_descriptor (omega arith))
        (street-above 81 e.thoroughfare e.descriptor (omega arith))
        (line-above 81 e.double_locality (omega arith))
        (line-above 81 e.dependent_locality (omega arith))
        (line-above 81 e.town (omega arith))

    front_length : length (premises_of e).front ≤ 81
    front_length = premises-sized.ahead 81 (omega arith) (omega (arith, number-length e.number))

    abbrev placed : List (List ℕ)
    placed = fronted (premises_of e).front (places e)

    pub slim-lines : NoneAbove 163 (lines_of e)
    unfolding lines_of
    slim-lines =
        above-five 163 (line e.organisation) (line e.department) (box_line e.box) (premises_of e).lines
        (placed ++ (spaced e.outward e.inward ∷ []))
        (line-above 163 e.organisation (omega arith))
        (line-above 163 e.department (omega arith))
        (box-above 163 e.box (omega arith))
        (premises-sized.above 163 (omega arith))
        (above-append 163 placed (spaced e.outward e.inward ∷ [])
        (front_above 81 163 (premises_of e).front (places e) (omega (arith, front_length)) places-above)
        (simp length-append (omega arith), tt))

-- no text is longer than its field
module _ (e : Elements) (fits : Fits e) where
  fits-slim : Slim e
  fits-slim =
      record {
        organisation = fits.organisation;
        department = fits.department;
        box = fits.box;
        sub_building = fits.sub_building;
        building = fits.building;
        dependent = omega arith;
        thoroughfare = omega arith;
        double_locality = fits.double_locality;
        dependent_locality = fits.dependent_locality;
        town = fits.town;
        postcode = omega arith;
      }

  pub at-most-499 : length (label_of e) ≤ 499
  at-most-499 = slim-499 e fits-slim

  pub each_line : NoneAbove 163 (lines_of e)
  each_line = slim-lines e fits-slim

-- how many bytes the spans of a label say
abbrev pub spanned : Spans → ℕ
spanned e =
    e.organisation.len + e.department.len + e.po_box.len + e.sub_building.len + e.building.len
    + e.dependent.len + e.dependent_descriptor.len + e.thoroughfare.len + e.descriptor.len
    + e.double_locality.len + e.dependent_locality.len + e.town.len + e.outward.len + e.inward.len

-- of any spans, since no text is longer than its span says
pub at-most-spans : (a b : List ℕ) (e : Spans) → length (label_of (elements_in a b e)) ≤ spanned e + 26
unfolding elements_in
at-most-spans a b e =
    omega (
      arith,
      at-most-texts (elements_in a b e),
      text-short a b e.organisation,
      text-short a b e.department,
      text-short a b e.po_box,
      text-short a b e.sub_building,
      text-short a b e.building,
      text-short a b e.dependent,
      text-short a b e.dependent_descriptor,
      text-short a b e.thoroughfare,
      text-short a b e.descriptor,
      text-short a b e.double_locality,
      text-short a b e.dependent_locality,
      text-short a b e.town,
      text-short a b e.outward,
      text-short a b e.inward,
    )
