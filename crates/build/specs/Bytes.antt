-- The bytes of a pack as a builder writes them, from the starts of the rows and the delivery points.
-- Assumes nothing.
use Rattle.std.specs.Prelude.{ℕ, ◌+◌, ◌-◌, cond, List, [], ◌∷◌, ◌++◌, length, get_or}
use Rattle.field.specs.Text.{part, text_in}
use Rattle.source.specs.Address.{present}
use Rattle.source.specs.declared.DeliveryPoint.{DeliveryPoint}
use Rattle.shelf.specs.Stock.{Stock}
use Rattle.pack.specs.Numbers.{bytes_of}
use Rattle.pack.specs.Names.{absent, newest, point_width}
use Rattle.pack.specs.Sectors.{sector_counts, counts_bytes}
use Rattle.pack.specs.Layout.{mark_of, trailer_bytes}
use Rattle.pack.specs.Opening.{digits_from}
use Rattle.build.specs.Plan.{Packed, rows_of, organisation_row, organisation_rows, organisation_count}
use Rattle.build.specs.Rows.{is_marked, row_bytes_at, all_count, rows_from}

-- "each a length byte and its bytes"
abbrev pub sized : List ℕ → List ℕ
sized t = length t ∷ t

-- two texts, of which the second begins where the first ends
abbrev pub two_texts : List ℕ → (start middle end : ℕ) → List (List ℕ)
two_texts rec start middle end = text_in rec start middle ∷ text_in rec middle end ∷ []

-- the offset of the row that a key finds; a row that is packed has its start, plus 1
abbrev pub key_offset : List ℕ → (key row : ℕ) → ℕ
key_offset starts key row = cond (present key) (get_or starts row 0 - 1) absent

-- the offsets of the rows that the keys find
abbrev pub offsets_for : List ℕ → (keys rows : List ℕ) → List ℕ
offsets_for starts [] rows = []
offsets_for starts (k ∷ ks) [] = []
offsets_for starts (k ∷ ks) (r ∷ rs) = key_offset starts k r ∷ offsets_for starts ks rs

-- "eight row offsets of 4", those of the keys; 4 bytes each, as a count has
abbrev pub offset_bytes : List ℕ → List ℕ
offset_bytes offsets = counts_bytes offsets

-- and the organisation's, whose row would stand at `at`
abbrev pub organisation_offset : DeliveryPoint → ℕ → ℕ
organisation_offset p at = cond p.organised at absent

-- "postcode type 1, address key 4, organisation key 4, building number 2, concatenation 1, PO box 6"
abbrev pub numbers_in : DeliveryPoint → List ℕ
numbers_in p =
    p.postcode_type ∷ (bytes_of 4 p.address_key ++ (bytes_of 4 p.organisation_key ++ bytes_of 2 p.number))

abbrev pub plain_in : List ℕ → DeliveryPoint → List ℕ
plain_in own p = numbers_in p ++ (mark_of p.concatenation ∷ part own p.po_box (p.po_box + 6))

-- "postcode 7", and "the suffix standing after the postcode"
abbrev pub front_in : List ℕ → DeliveryPoint → List ℕ
front_in own p = part own p.postcode (p.postcode + 7) ++ part own p.suffix (p.suffix + 2)

-- a point, behind postcode and suffix: the offsets of its keys' rows, and its organisation's row, which stands at `at` if it has one
unfoldable pub point_with : (own : List ℕ) → DeliveryPoint → (offsets : List ℕ) → ℕ → List ℕ
point_with own p offsets at =
    front_in own p
    ++ (plain_in own p ++ (offset_bytes offsets ++ bytes_of 4 (organisation_offset p at)))

-- the same by the starts of the rows
abbrev pub point_in : (own starts : List ℕ) → DeliveryPoint → (rows : List ℕ) → ℕ → List ℕ
point_in own starts p rows at = point_with own p (offsets_for starts p.keys rows) at

-- the points of these, the organisations' rows standing from `at` on
abbrev pub points_in : Stock → (own others starts : List ℕ) → ℕ → List Packed → List ℕ
points_in st own others starts at [] = []
points_in st own others starts at (d ∷ ds) =
    point_in own starts d.point (rows_of st d.point) at
    ++ points_in st own others starts (at + length (organisation_row others d.point)) ds

-- a row that has a start
abbrev pub used_at : Stock → List ℕ → ℕ → List ℕ
used_at st starts i = cond (is_marked starts i) (row_bytes_at st i) []

-- the rows that have a start
abbrev pub used_rows : Stock → List ℕ → List ℕ
used_rows st starts = rows_from st starts (st.last - 1) 1

-- the counts of so many points that stand in these bytes from a place on
abbrev pub counts_at_in : List ℕ → (n at : ℕ) → List ℕ
counts_at_in bytes n at = counts_bytes (sector_counts (digits_from bytes (point_width newest) n at))

-- the counts of so many points, of which these are the bytes
abbrev pub counts_in : List ℕ → ℕ → List ℕ
counts_in points n = counts_at_in points n 0

-- the last fields of a trailer: "outward 4, pack length 4", the ten counts, "edition 1"
abbrev pub trailer_end : List ℕ → ℕ → List ℕ → List ℕ
trailer_end code bytes counts = code ++ (bytes_of 4 bytes ++ (counts ++ (newest ∷ [])))

-- the whole pack for a code, of the points that it has
abbrev pub pack_with : Stock → (others starts : List ℕ) → List Packed → (code points : List ℕ) → List ℕ
pack_with st others starts ds code points =
    used_rows st starts
    ++ (organisation_rows others ds
    ++ (points
    ++ trailer_bytes newest (all_count st starts + organisation_count ds)
    (length (used_rows st starts) + length (organisation_rows others ds)) (length ds) code (counts_in points (length ds))))

-- the whole pack for a code
unfoldable pub pack_in : Stock → (own others starts : List ℕ) → List Packed → List ℕ → List ℕ
pack_in st own others starts ds code =
    pack_with st others starts ds code (points_in st own others starts (length (used_rows st starts)) ds)
