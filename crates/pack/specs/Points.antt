-- The labels of a pack, "Labels from a pack: 11, 7, 10", the items of its listing, the suffixes of its points, and how many
-- of them a sector has.
-- Assumes nothing.
use Rattle.std.specs.Prelude.{ℕ, ◌+◌, ◌*◌, ◌-◌, Bool, cond, ◌&&◌, List, [], eqb, leb, get_or}
use Rattle.std.proofs.Math.Option.{Option, none, some}
use Rattle.field.specs.Text.{text_in, part}
use Rattle.refusal.specs.declared.Reason.TheVariants.{NoSuchNumber, NoSuffix, BadDigit}
use Rattle.refusal.specs.Outcome.{Outcome, said, after, afterwards}
use Rattle.source.specs.Address.{Address, Elements}
use Rattle.source.specs.Resolve.{Resolved, elements}
use Rattle.label.specs.Label.{label_of, room_outcome}
use Rattle.item.specs.Item.{Heading, item_outcome}
use Rattle.ask.specs.Labels.{kth}
use Rattle.pack.specs.Numbers.{number_from}
use Rattle.pack.specs.Sectors.{in_sector}
use Rattle.pack.specs.Layout.{inward_digits}
use Rattle.pack.specs.Names.{has_suffix, inward_at, postcode_width, concatenation_at, box_at, offsets_at, point_width, absent}
use Rattle.pack.specs.Opening.{edition, points_start, point_count, row_area, row_text, suffix_in, rest_of, offset_of_point, building_number, point_digits, opened}
use Rattle.std.specs.Prelude.{Ok}
use Rattle.refusal.specs.Answer.{Answer, refusal}

-- a text of the row that the n-th offset of a rest gives; none where it is absent
abbrev pub offset_text : List ℕ → ℕ → ℕ → ℕ → List ℕ
offset_text pack rest n which =
    cond (eqb (offset_of_point pack rest n) absent) [] (row_text (row_area pack) (offset_of_point pack rest n) which)

-- what the label of a point is printed from, its rest starting at a place
unfoldable pub elements_from : List ℕ → ℕ → ℕ → Elements
elements_from pack at rest =
    record {
      organisation = offset_text pack rest 7 0;
      department = offset_text pack rest 7 1;
      box = text_in pack (rest + box_at) (rest + offsets_at);
      sub_building = offset_text pack rest 6 0;
      building = offset_text pack rest 5 0;
      number = building_number pack rest;
      concatenation = eqb (get_or pack (rest + concatenation_at) 0) 89;
      dependent = offset_text pack rest 3 0;
      dependent_descriptor = offset_text pack rest 4 0;
      thoroughfare = offset_text pack rest 1 0;
      descriptor = offset_text pack rest 2 0;
      double_locality = offset_text pack rest 0 2;
      dependent_locality = offset_text pack rest 0 1;
      town = offset_text pack rest 0 0;
      outward = text_in pack at (at + inward_at);
      inward = part pack (at + inward_at) (at + postcode_width);
    }

-- the same of a point of the pack's edition
abbrev pub elements_at : List ℕ → ℕ → Elements
elements_at pack at = elements_from pack at (rest_of pack at)

-- where point k stands, counted from 1
abbrev pub point_place : List ℕ → ℕ → ℕ
point_place pack k = points_start pack + point_width (edition pack) * (k - 1)

-- "7: no view or point of that number"
abbrev pub is_point : List ℕ → ℕ → Bool
is_point pack k = leb 1 k && leb k (point_count pack)

-- the label of a point, of a pack that is opened
unfoldable pub point_label : List ℕ → ℕ → List ℕ → Outcome Answer
point_label pack k out =
    cond (is_point pack k) (room_outcome (label_of (elements_at pack (point_place pack k))) out) (said (refusal 0 NoSuchNumber) out)

-- of any bytes: "Labels from a pack: 11, 7, 10"
unfoldable pub pack_label : List ℕ → ℕ → List ℕ → Outcome Answer
pack_label pack k out = afterwards refusal (opened pack) out (point_label pack k out)

-- the same as an item of a listing, under any heading
abbrev pub point_resolved : List ℕ → ℕ → Option Resolved
point_resolved pack k = cond (is_point pack k) (some (elements (elements_at pack (point_place pack k)))) none

unfoldable pub point_item : Heading → List ℕ → ℕ → List ℕ → Outcome Answer
point_item heading pack k out = item_outcome (heading k) (point_resolved pack k) out

unfoldable pub pack_item : Heading → List ℕ → ℕ → List ℕ → Outcome Answer
pack_item heading pack k out = afterwards refusal (opened pack) out (point_item heading pack k out)

-- a suffix as one number: the first byte times 256 plus the second, 12609 for `1A`
abbrev pub suffix_number : List ℕ → ℕ
suffix_number suffix = number_from 0 suffix

-- of a point that is there: "13, no suffix in this edition"
abbrev pub suffix_there : List ℕ → ℕ → Answer
suffix_there pack k =
    cond (has_suffix (edition pack)) (Ok (suffix_number (suffix_in pack (point_place pack k)))) (refusal 0 NoSuffix)

-- of a pack that is opened: 13 "after 7"
unfoldable pub point_suffix : List ℕ → ℕ → Answer
point_suffix pack k = cond (is_point pack k) (suffix_there pack k) (refusal 0 NoSuchNumber)

-- of any bytes: 11, 7, 13
unfoldable pub pack_suffix : List ℕ → ℕ → Answer
pack_suffix pack k = after (opened pack) (point_suffix pack k)

-- what a source says of the k-th of its addresses
abbrev pub suffix_of : Option Address → Answer
suffix_of none = refusal 0 NoSuchNumber
suffix_of (some a) = Ok (suffix_number a.suffix)

unfoldable pub kth_suffix : List Address → ℕ → Answer
kth_suffix addresses k = suffix_of (kth addresses k)

-- how many of these first bytes of inward codes are of a sector: "27, inward digit above 9"
unfoldable pub sector_answer : List ℕ → ℕ → Answer
sector_answer firsts digit = cond (leb digit 9) (Ok (in_sector digit firsts)) (refusal 0 BadDigit)

-- of all points of any bytes: "27 .., after 11"
unfoldable pub pack_sector : List ℕ → ℕ → Answer
pack_sector pack digit = after (opened pack) (sector_answer (point_digits pack) digit)

-- of the addresses of a source
abbrev pub address_sector : List Address → ℕ → Answer
address_sector addresses digit = sector_answer (inward_digits addresses) digit
