-- Where the parts of a pack stand, by name: the editions, a point and the trailer.
-- Assumes nothing.
use Rattle.std.specs.Prelude.{ℕ, ◌+◌, Bool, cond, ◌||◌, eqb}

-- ---- editions

-- the editions that there are, and the one that is built
abbrev pub known : ℕ → Bool
known edition = eqb edition 1 || (eqb edition 2 || eqb edition 3)

abbrev pub newest : ℕ
newest = 3

-- those whose points have a suffix: "Packs of edition 1 still open .. asking one for a suffix is refused" (document 02, No. 6)
abbrev pub has_suffix : ℕ → Bool
has_suffix edition = eqb edition 2 || eqb edition 3

-- those whose trailer has counts: "the edition byte, which becomes 3" (No. 7)
abbrev pub has_counts : ℕ → Bool
has_counts edition = eqb edition 3

-- ---- a point: its postcode, what its edition puts behind it, and the rest

-- "postcode 7": outward 4, inward 3
abbrev pub inward_at : ℕ
inward_at = 4

abbrev pub postcode_width : ℕ
postcode_width = 7

-- "the suffix standing after the postcode"
abbrev pub suffix_at : ℕ
suffix_at = postcode_width

abbrev pub suffix_width : ℕ
suffix_width = 2

-- what stands between the postcode and the rest
abbrev pub behind_postcode : ℕ → ℕ
behind_postcode edition = cond (has_suffix edition) suffix_width 0

-- the rest, counted from its own start: "postcode type 1, address key 4, organisation key 4, building number 2,
-- concatenation 1, PO box 6, then eight row offsets of 4"
abbrev pub type_at : ℕ
type_at = 0

abbrev pub address_key_at : ℕ
address_key_at = 1

abbrev pub organisation_key_at : ℕ
organisation_key_at = 5

abbrev pub building_number_at : ℕ
building_number_at = 9

abbrev pub concatenation_at : ℕ
concatenation_at = 11

abbrev pub box_at : ℕ
box_at = 12

abbrev pub offsets_at : ℕ
offsets_at = 18

abbrev pub rest_width : ℕ
rest_width = 50

-- where the rest of a point starts, counted from the point, and in the pack
abbrev pub rest_start : ℕ → ℕ
rest_start edition = postcode_width + behind_postcode edition

abbrev pub rest_at : ℕ → ℕ → ℕ
rest_at edition at = at + rest_start edition

-- "57 bytes each"; "Each point grows from 57 to 59 bytes"
abbrev pub point_width : ℕ → ℕ
point_width edition = rest_start edition + rest_width

-- "4294967295 means absent"
abbrev pub absent : ℕ
absent = 4_294_967_295

-- ---- the trailer: its fields, what its edition puts behind them, and the edition as its last byte

-- the fields, counted from the trailer's start: "row count 4, points start 4, point count 4, outward 4, pack length 4"
abbrev pub row_count_at : ℕ
row_count_at = 0

abbrev pub points_start_at : ℕ
points_start_at = 4

abbrev pub point_count_at : ℕ
point_count_at = 8

abbrev pub outward_at : ℕ
outward_at = 12

abbrev pub length_at : ℕ
length_at = 16

abbrev pub fields_width : ℕ
fields_width = 20

-- "ten counts of 4 bytes .., for inward digits 0 to 9, in front of the edition byte"
abbrev pub counts_at : ℕ
counts_at = fields_width

abbrev pub counts_width : ℕ
counts_width = 40

-- what stands between the fields and the edition
abbrev pub behind_fields : ℕ → ℕ
behind_fields edition = cond (has_counts edition) counts_width 0

-- the edition has one byte, the last: "edition 1"
abbrev pub edition_width : ℕ
edition_width = 1

-- "Trailer, 21 bytes"; "The trailer is then 61 bytes"
abbrev pub trailer_width : ℕ → ℕ
trailer_width edition = fields_width + edition_width + behind_fields edition
