-- Worked labels, computed from the definitions: document 01's view 1, the slips that it names, three examples of the
-- guide's chapter 3 (a table gives the fields, the rule above it the lines), and labels that reach the bounds of
-- `Bounds`. Each text stands as its bytes.
-- Assumes nothing.
use Prim.Native.Nat.{ℕ}
use mathlib.Core.Path.{◌≡◌, refl}
use mathlib.Core.Bool.{Bool, true, false}
use mathlib.Core.List.{List, [], ◌∷◌, ◌++◌}
use native.Mathlib.Omega.{arith}
use lib.ListN.{length, get_or, replicate, length-replicate}
use Rattle.field.specs.Text.{numeric_like}
use Rattle.source.specs.Address.{Elements}
use Rattle.label.specs.Lines.{number_text, lines_of}
use Rattle.label.specs.Label.{label_of}
use Rattle.label.specs.Widths.{Fits}

-- sub building, building name, number and concatenation; dependent thoroughfare, thoroughfare, each with its descriptor;
-- dependent locality, town, outward, inward
abbrev elements : (s b : List ℕ) → ℕ → Bool → (d dd t td l town out inn : List ℕ) → Elements
elements s b n y d dd t td l town out inn =
    record {
      organisation = [];
      department = [];
      box = [];
      sub_building = s;
      building = b;
      number = n;
      concatenation = y;
      dependent = d;
      dependent_descriptor = dd;
      thoroughfare = t;
      descriptor = td;
      double_locality = [];
      dependent_locality = l;
      town = town;
      outward = out;
      inward = inn;
    }

-- ATTIC FLAT
abbrev attic-flat : List ℕ
attic-flat = 65 ∷ 84 ∷ 84 ∷ 73 ∷ 67 ∷ 32 ∷ 70 ∷ 76 ∷ 65 ∷ 84 ∷ []

-- 110-114
abbrev range : List ℕ
range = 49 ∷ 49 ∷ 48 ∷ 45 ∷ 49 ∷ 49 ∷ 52 ∷ []

-- QUARRY
abbrev quarry : List ℕ
quarry = 81 ∷ 85 ∷ 65 ∷ 82 ∷ 82 ∷ 89 ∷ []

-- LANE
abbrev lane : List ℕ
lane = 76 ∷ 65 ∷ 78 ∷ 69 ∷ []

-- HARTWELL BAY
abbrev hartwell-bay : List ℕ
hartwell-bay = 72 ∷ 65 ∷ 82 ∷ 84 ∷ 87 ∷ 69 ∷ 76 ∷ 76 ∷ 32 ∷ 66 ∷ 65 ∷ 89 ∷ []

-- AB1
abbrev ab1 : List ℕ
ab1 = 65 ∷ 66 ∷ 49 ∷ []

-- 9ZZ
abbrev nine-zz : List ℕ
nine-zz = 57 ∷ 90 ∷ 90 ∷ []

-- 110-114 QUARRY LANE
abbrev range-quarry-lane : List ℕ
range-quarry-lane = 49 ∷ 49 ∷ 48 ∷ 45 ∷ 49 ∷ 49 ∷ 52 ∷ 32 ∷ 81 ∷ 85 ∷ 65 ∷ 82 ∷ 82 ∷ 89 ∷ 32 ∷ 76 ∷ 65 ∷ 78 ∷ 69 ∷ []

-- AB1 9ZZ
abbrev ab1-9zz : List ℕ
ab1-9zz = 65 ∷ 66 ∷ 49 ∷ 32 ∷ 57 ∷ 90 ∷ 90 ∷ []

-- document 01, "One run, complete"
pub view-1 : lines_of (elements attic-flat range 0 false [] [] quarry lane [] hartwell-bay ab1 nine-zz)
    ≡ attic-flat
    ∷ range-quarry-lane
    ∷ hartwell-bay
    ∷ ab1-9zz
    ∷ []
unfolding lines_of number_text numeric_like
view-1 = refl

-- "Dropping punctuation, so `110-114` becomes a number": it is kept
pub range-kept : lines_of (elements [] range 0 false [] [] quarry lane [] hartwell-bay ab1 nine-zz)
    ≡ range-quarry-lane
    ∷ hartwell-bay
    ∷ ab1-9zz
    ∷ []
unfolding lines_of number_text numeric_like
range-kept = refl

-- FLAT 1
abbrev flat-1 : List ℕ
flat-1 = 70 ∷ 76 ∷ 65 ∷ 84 ∷ 32 ∷ 49 ∷ []

-- QUARRY LANE
abbrev quarry-lane : List ℕ
quarry-lane = 81 ∷ 85 ∷ 65 ∷ 82 ∷ 82 ∷ 89 ∷ 32 ∷ 76 ∷ 65 ∷ 78 ∷ 69 ∷ []

-- "Putting `FLAT 1` on the street line because it ends in a digit": it has its own line, as building name
pub flat-1-building : lines_of (elements [] flat-1 0 false [] [] quarry lane [] hartwell-bay ab1 nine-zz)
    ≡ flat-1
    ∷ quarry-lane
    ∷ hartwell-bay
    ∷ ab1-9zz
    ∷ []
unfolding lines_of number_text numeric_like
flat-1-building = refl

-- .. and as sub building
pub flat-1-sub-building : lines_of (elements flat-1 range 0 false [] [] quarry lane [] hartwell-bay ab1 nine-zz)
    ≡ flat-1
    ∷ range-quarry-lane
    ∷ hartwell-bay
    ∷ ab1-9zz
    ∷ []
unfolding lines_of number_text numeric_like
flat-1-sub-building = refl

-- PENN
abbrev penn : List ℕ
penn = 80 ∷ 69 ∷ 78 ∷ 78 ∷ []

-- 12 PENN
abbrev twelve-penn : List ℕ
twelve-penn = 49 ∷ 50 ∷ 32 ∷ 80 ∷ 69 ∷ 78 ∷ 78 ∷ []

-- 12 HARTWELL BAY
abbrev twelve-hartwell-bay : List ℕ
twelve-hartwell-bay = 49 ∷ 50 ∷ 32 ∷ 72 ∷ 65 ∷ 82 ∷ 84 ∷ 87 ∷ 69 ∷ 76 ∷ 76 ∷ 32 ∷ 66 ∷ 65 ∷ 89 ∷ []

-- "With no street, losing the number instead of putting it before locality or town"
pub number-before-locality : lines_of (elements [] [] 12 false [] [] [] [] penn hartwell-bay ab1 nine-zz)
    ≡ twelve-penn
    ∷ hartwell-bay
    ∷ ab1-9zz
    ∷ []
unfolding lines_of number_text numeric_like
number-before-locality = refl

pub number-before-town : lines_of (elements [] [] 12 false [] [] [] [] [] hartwell-bay ab1 nine-zz)
    ≡ twelve-hartwell-bay
    ∷ ab1-9zz
    ∷ []
unfolding lines_of number_text numeric_like
number-before-town = refl

-- 1A
abbrev one-a : List ℕ
one-a = 49 ∷ 65 ∷ []

-- SEASTONE
abbrev seastone : List ℕ
seastone = 83 ∷ 69 ∷ 65 ∷ 83 ∷ 84 ∷ 79 ∷ 78 ∷ 69 ∷ []

-- COURT
abbrev court : List ℕ
court = 67 ∷ 79 ∷ 85 ∷ 82 ∷ 84 ∷ []

-- STATION
abbrev station : List ℕ
station = 83 ∷ 84 ∷ 65 ∷ 84 ∷ 73 ∷ 79 ∷ 78 ∷ []

-- ROAD
abbrev road : List ℕ
road = 82 ∷ 79 ∷ 65 ∷ 68 ∷ []

-- HOLT
abbrev holt : List ℕ
holt = 72 ∷ 79 ∷ 76 ∷ 84 ∷ []

-- NR25
abbrev nr25 : List ℕ
nr25 = 78 ∷ 82 ∷ 50 ∷ 53 ∷ []

-- 7HG
abbrev seven-hg : List ℕ
seven-hg = 55 ∷ 72 ∷ 71 ∷ []

-- 1A SEASTONE COURT
abbrev seastone-court : List ℕ
seastone-court = 49 ∷ 65 ∷ 32 ∷ 83 ∷ 69 ∷ 65 ∷ 83 ∷ 84 ∷ 79 ∷ 78 ∷ 69 ∷ 32 ∷ 67 ∷ 79 ∷ 85 ∷ 82 ∷ 84 ∷ []

-- STATION ROAD
abbrev station-road : List ℕ
station-road = 83 ∷ 84 ∷ 65 ∷ 84 ∷ 73 ∷ 79 ∷ 78 ∷ 32 ∷ 82 ∷ 79 ∷ 65 ∷ 68 ∷ []

-- NR25 7HG
abbrev nr25-7hg : List ℕ
nr25-7hg = 78 ∷ 82 ∷ 50 ∷ 53 ∷ 32 ∷ 55 ∷ 72 ∷ 71 ∷ []

-- the guide, table 27a: a building name that is numeric-like stands before the first thoroughfare
pub table-27a : lines_of (elements [] one-a 0 false seastone court station road [] holt nr25 seven-hg)
    ≡ seastone-court
    ∷ station-road
    ∷ holt
    ∷ nr25-7hg
    ∷ []
unfolding lines_of number_text numeric_like
table-27a = refl

-- A
abbrev a : List ℕ
a = 65 ∷ []

-- HIGH STREET
abbrev high-street : List ℕ
high-street = 72 ∷ 73 ∷ 71 ∷ 72 ∷ 32 ∷ 83 ∷ 84 ∷ 82 ∷ 69 ∷ 69 ∷ 84 ∷ []

-- NORTH
abbrev north : List ℕ
north = 78 ∷ 79 ∷ 82 ∷ 84 ∷ 72 ∷ []

-- COOMBE BISSETT
abbrev bissett : List ℕ
bissett = 67 ∷ 79 ∷ 79 ∷ 77 ∷ 66 ∷ 69 ∷ 32 ∷ 66 ∷ 73 ∷ 83 ∷ 83 ∷ 69 ∷ 84 ∷ 84 ∷ []

-- SALISBURY
abbrev salisbury : List ℕ
salisbury = 83 ∷ 65 ∷ 76 ∷ 73 ∷ 83 ∷ 66 ∷ 85 ∷ 82 ∷ 89 ∷ []

-- SP5
abbrev sp5 : List ℕ
sp5 = 83 ∷ 80 ∷ 53 ∷ []

-- 4NA
abbrev four-na : List ℕ
four-na = 52 ∷ 78 ∷ 65 ∷ []

-- 12A HIGH STREET NORTH
abbrev twelve-a : List ℕ
twelve-a = 49 ∷ 50 ∷ 65 ∷ 32 ∷ 72 ∷ 73 ∷ 71 ∷ 72 ∷ 32 ∷ 83 ∷ 84 ∷ 82 ∷ 69 ∷ 69 ∷ 84 ∷ 32 ∷ 78 ∷ 79 ∷ 82 ∷ 84 ∷ 72 ∷ []

-- SP5 4NA
abbrev sp5-4na : List ℕ
sp5-4na = 83 ∷ 80 ∷ 53 ∷ 32 ∷ 52 ∷ 78 ∷ 65 ∷ []

-- the guide, table 29b: number and sub building as one, where the concatenation is Y
pub table-29b : lines_of (elements a [] 12 true [] [] high-street north bissett salisbury sp5 four-na)
    ≡ twelve-a
    ∷ bissett
    ∷ salisbury
    ∷ sp5-4na
    ∷ []
unfolding lines_of number_text numeric_like
table-29b = refl

-- 10B
abbrev ten-b : List ℕ
ten-b = 49 ∷ 48 ∷ 66 ∷ []

-- BARRY JACKSON TOWER
abbrev tower : List ℕ
tower = 66 ∷ 65 ∷ 82 ∷ 82 ∷ 89 ∷ 32 ∷ 74 ∷ 65 ∷ 67 ∷ 75 ∷ 83 ∷ 79 ∷ 78 ∷ 32 ∷ 84 ∷ 79 ∷ 87 ∷ 69 ∷ 82 ∷ []

-- ESTONE
abbrev estone : List ℕ
estone = 69 ∷ 83 ∷ 84 ∷ 79 ∷ 78 ∷ 69 ∷ []

-- WALK
abbrev walk : List ℕ
walk = 87 ∷ 65 ∷ 76 ∷ 75 ∷ []

-- BIRMINGHAM
abbrev birmingham : List ℕ
birmingham = 66 ∷ 73 ∷ 82 ∷ 77 ∷ 73 ∷ 78 ∷ 71 ∷ 72 ∷ 65 ∷ 77 ∷ []

-- B6
abbrev b6 : List ℕ
b6 = 66 ∷ 54 ∷ []

-- 5BA
abbrev five-ba : List ℕ
five-ba = 53 ∷ 66 ∷ 65 ∷ []

-- ESTONE WALK
abbrev estone-walk : List ℕ
estone-walk = 69 ∷ 83 ∷ 84 ∷ 79 ∷ 78 ∷ 69 ∷ 32 ∷ 87 ∷ 65 ∷ 76 ∷ 75 ∷ []

-- B6 5BA
abbrev b6-5ba : List ℕ
b6-5ba = 66 ∷ 54 ∷ 32 ∷ 53 ∷ 66 ∷ 65 ∷ []

-- 10B BARRY JACKSON TOWER
abbrev ten-b-tower : List ℕ
ten-b-tower = (49 ∷ 48 ∷ 66 ∷ 32 ∷ []) ++ tower

-- the guide, table 30: a sub building that is numeric-like stands before the building name
pub table-30 : lines_of (elements ten-b tower 0 false [] [] estone walk [] birmingham b6 five-ba)
    ≡ ten-b-tower
    ∷ estone-walk
    ∷ birmingham
    ∷ b6-5ba
    ∷ []
unfolding lines_of number_text numeric_like
table-30 = refl

-- every field full of the byte c, and the number n
abbrev full : ℕ → ℕ → Elements
full c n =
    record {
      organisation = replicate 60 c;
      department = replicate 60 c;
      box = replicate 6 c;
      sub_building = replicate 30 c;
      building = replicate 50 c;
      number = n;
      concatenation = false;
      dependent = replicate 60 c;
      dependent_descriptor = replicate 20 c;
      thoroughfare = replicate 60 c;
      descriptor = replicate 20 c;
      double_locality = replicate 35 c;
      dependent_locality = replicate 35 c;
      town = replicate 30 c;
      outward = replicate 4 c;
      inward = replicate 3 c;
    }

pub full-fits : (c n : ℕ) → Fits (full c n)
full-fits c n =
    record {
      organisation = simp length-replicate (omega arith);
      department = simp length-replicate (omega arith);
      box = simp length-replicate (omega arith);
      sub_building = simp length-replicate (omega arith);
      building = simp length-replicate (omega arith);
      dependent = simp length-replicate (omega arith);
      dependent_descriptor = simp length-replicate (omega arith);
      thoroughfare = simp length-replicate (omega arith);
      descriptor = simp length-replicate (omega arith);
      double_locality = simp length-replicate (omega arith);
      dependent_locality = simp length-replicate (omega arith);
      town = simp length-replicate (omega arith);
      outward = simp length-replicate (omega arith);
      inward = simp length-replicate (omega arith);
    }

-- texts of As, which are not numeric-like, and the number 9999: 11 lines of 499 bytes
pub reaches-11 : length (lines_of (full 65 9999)) ≡ 11
unfolding lines_of number_text numeric_like
reaches-11 = refl

pub reaches-499 : length (label_of (full 65 9999)) ≡ 499
unfolding label_of lines_of number_text numeric_like
reaches-499 = refl

-- texts of 1s, which are numeric-like, and no number: a fourth line of 163 bytes
pub reaches-163 : length (get_or (lines_of (full 49 0)) 3 []) ≡ 163
unfolding lines_of number_text numeric_like
reaches-163 = refl
