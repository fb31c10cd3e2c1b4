-- What the widths of the fields say of the elements of a label; lines of which none is long; a label's elements without
-- the organisation and the department.
-- Assumes nothing.
use Rattle.std.specs.Prelude.{ℕ, ◌+◌, ◌≤◌, List, [], ◌∷◌, length}
use Rattle.source.specs.Address.{Elements}

-- No text is longer than its field. The number needs no bound here, since `number_text` has four bytes at most, and
-- nothing is asked of which elements are present.
pub record Fits (e : Elements) : Type 0 where
  -- "Types 2 (small user) and 3 (large user): organisation 60, department 60"
  pub organisation : length e.organisation ≤ 60
  pub department : length e.department ≤ 60
  -- "Type 1 goes on: .. PO box 6"
  pub box : length e.box ≤ 6
  -- "5 sub building name | text 30"
  pub sub_building : length e.sub_building ≤ 30
  -- "4 building name | text 50"
  pub building : length e.building ≤ 50
  -- "2 thoroughfare | name 60", "3 descriptor | text 20, .."
  pub dependent : length e.dependent ≤ 60
  pub dependent_descriptor : length e.dependent_descriptor ≤ 20
  pub thoroughfare : length e.thoroughfare ≤ 60
  pub descriptor : length e.descriptor ≤ 20
  -- "1 locality | .. post town 30, dependent locality 35, double dependent locality 35"
  pub double_locality : length e.double_locality ≤ 35
  pub dependent_locality : length e.dependent_locality ≤ 35
  pub town : length e.town ≤ 30
  -- "All others begin with .. outward 4, inward 3"
  pub outward : length e.outward ≤ 4
  pub inward : length e.inward ≤ 3

-- The same where a name and its descriptor may share their bytes, as in a row of CSV PAF, which joins them.
pub record Slim (e : Elements) : Type 0 where
  pub organisation : length e.organisation ≤ 60
  pub department : length e.department ≤ 60
  pub box : length e.box ≤ 6
  pub sub_building : length e.sub_building ≤ 30
  pub building : length e.building ≤ 50
  pub dependent : length e.dependent + length e.dependent_descriptor ≤ 80
  pub thoroughfare : length e.thoroughfare + length e.descriptor ≤ 80
  pub double_locality : length e.double_locality ≤ 35
  pub dependent_locality : length e.dependent_locality ≤ 35
  pub town : length e.town ≤ 30
  pub postcode : length e.outward + length e.inward ≤ 7

-- "no line above n without its end"
abbrev pub NoneAbove : ℕ → List (List ℕ) → Type 0
NoneAbove n [] = Unit {0}
NoneAbove n (l ∷ ls) = (length l ≤ n) × NoneAbove n ls

-- the same elements with organisation and department absent
abbrev pub without : Elements → Elements
without e =
    record {
      organisation = [];
      department = [];
      box = e.box;
      sub_building = e.sub_building;
      building = e.building;
      number = e.number;
      concatenation = e.concatenation;
      dependent = e.dependent;
      dependent_descriptor = e.dependent_descriptor;
      thoroughfare = e.thoroughfare;
      descriptor = e.descriptor;
      double_locality = e.double_locality;
      dependent_locality = e.dependent_locality;
      town = e.town;
      outward = e.outward;
      inward = e.inward;
    }
