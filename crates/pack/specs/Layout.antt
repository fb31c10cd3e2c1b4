-- The pack of some addresses, their rows being looked up: "Rows, then points, then a trailer that points back." What it
-- holds is said through the look-up and the keys that are used, and through nothing else.
-- Assumes nothing.
use Rattle.std.specs.Prelude.{ℕ, ◌+◌, ◌*◌, Bool, cond, List, [], ◌∷◌, ◌++◌, eqb, ltb, length, get_or}
use Rattle.std.proofs.Math.Option.{Option, none, some}
use Rattle.source.specs.Address.{Lookup, Organisation, none_needed, named, lacking, Address, present, Asked, keys_of, ref, kind_of, key_of}
use Rattle.pack.specs.Names.{newest, has_suffix, has_counts, absent, point_width, trailer_width}
use Rattle.pack.specs.Numbers.{bytes_of}
use Rattle.pack.specs.Sectors.{sector_counts, counts_bytes}

-- a row of a pack
pub record Entry : Type 0 where
  pub stands_for : ℕ
  pub texts : List (List ℕ)

abbrev pub entry : ℕ → List (List ℕ) → Entry
entry r ts = record { stands_for = r; texts = ts }

-- "each once": a number in its place of a rising list, unless it is there
abbrev pub insert : ℕ → List ℕ → List ℕ
insert r [] = r ∷ []
insert r (x ∷ xs) = cond (ltb r x) (r ∷ x ∷ xs) (cond (eqb r x) (x ∷ xs) (x ∷ insert r xs))

-- a key that is zero refers to no row
abbrev pub insert_keys : List Asked → List ℕ → List ℕ
insert_keys [] rs = rs
insert_keys (a ∷ more) rs =
    cond (present a.key) (insert (ref a.kind a.key) (insert_keys more rs)) (insert_keys more rs)

-- "the table rows used by a packed view, by type then key, each once"
abbrev pub used_by : List Address → List ℕ
used_by [] = []
used_by (a ∷ more) = insert_keys (keys_of a) (used_by more)

abbrev pub texts_or : Option (List (List ℕ)) → List (List ℕ)
texts_or none = []
texts_or (some ts) = ts

abbrev pub table_entries : Lookup → List ℕ → List Entry
table_entries look [] = []
table_entries look (r ∷ rs) = entry r (texts_or (look (kind_of r) (key_of r))) ∷ table_entries look rs

-- "one row of type 6 (organisation, department) for each packed view with a follower, in view order"; "for each packed address
-- with an organisation"
abbrev pub organisation_entry : ℕ → Organisation → List Entry
organisation_entry view none_needed = []
organisation_entry view (named name department) = entry (ref 6 view) (name ∷ department ∷ []) ∷ []
organisation_entry view lacking = []

abbrev pub organisation_entries : List Address → List Entry
organisation_entries [] = []
organisation_entries (a ∷ more) = organisation_entry a.view a.organisation ++ organisation_entries more

unfoldable pub entries_of : Lookup → List Address → List Entry
entries_of look addresses = table_entries look (used_by addresses) ++ organisation_entries addresses

-- "a type byte, then texts, each a length byte and its bytes"
abbrev pub texts_bytes : List (List ℕ) → List ℕ
texts_bytes [] = []
texts_bytes (t ∷ ts) = length t ∷ (t ++ texts_bytes ts)

abbrev pub entry_bytes : Entry → List ℕ
entry_bytes e = kind_of e.stands_for ∷ texts_bytes e.texts

abbrev pub entries_bytes : List Entry → List ℕ
entries_bytes [] = []
entries_bytes (e ∷ es) = entry_bytes e ++ entries_bytes es

-- what a point refers to, in the order of its offsets: "locality, thoroughfare, descriptor, dependent thoroughfare, its
-- descriptor, building name, sub building, organisation"
abbrev pub key_refs : List Asked → List (Option ℕ)
key_refs [] = []
key_refs (a ∷ more) = cond (present a.key) (some (ref a.kind a.key)) none ∷ key_refs more

abbrev pub organisation_ref : ℕ → Organisation → Option ℕ
organisation_ref view none_needed = none
organisation_ref view (named name department) = some (ref 6 view)
organisation_ref view lacking = none

abbrev pub refs_of : Address → List (Option ℕ)
refs_of a = key_refs (keys_of a) ++ (organisation_ref a.view a.organisation ∷ [])

-- "row offsets .. from the pack's start": the bytes of the rows before it
abbrev pub offset_of : List Entry → ℕ → ℕ
offset_of [] r = 0
offset_of (e ∷ es) r = cond (eqb e.stands_for r) 0 (length (entry_bytes e) + offset_of es r)

abbrev pub ref_bytes : List Entry → Option ℕ → List ℕ
ref_bytes es none = bytes_of 4 absent
ref_bytes es (some r) = bytes_of 4 (offset_of es r)

abbrev pub refs_bytes : List Entry → List (Option ℕ) → List ℕ
refs_bytes es [] = []
refs_bytes es (r ∷ rs) = ref_bytes es r ++ refs_bytes es rs

-- "Concatenation and indicator: Y or space"
abbrev pub mark_of : Bool → ℕ
mark_of concatenation = cond concatenation 89 32

-- "postcode 7"
abbrev pub postcode_of : Address → List ℕ
postcode_of a = a.outward ++ a.inward

-- "postcode type 1, address key 4, organisation key 4, building number 2, concatenation 1, PO box 6"
abbrev pub plain_of : Address → List ℕ
plain_of a =
    a.postcode_type
    ∷ (bytes_of 4 a.address_key
    ++ (bytes_of 4 a.organisation_key ++ (bytes_of 2 a.number ++ (mark_of a.concatenation ∷ a.box))))

-- what an edition puts behind the postcode: the suffix, where it has one
abbrev pub behind_of : ℕ → Address → List ℕ
behind_of edition a = cond (has_suffix edition) a.suffix []

-- a point of an edition
abbrev pub point_bytes : ℕ → List Entry → Address → List ℕ
point_bytes edition es a = postcode_of a ++ (behind_of edition a ++ (plain_of a ++ refs_bytes es (refs_of a)))

abbrev pub points_bytes : ℕ → List Entry → List Address → List ℕ
points_bytes edition es [] = []
points_bytes edition es (a ∷ more) = point_bytes edition es a ++ points_bytes edition es more

-- the first byte of each inward code
abbrev pub inward_digits : List Address → List ℕ
inward_digits [] = []
inward_digits (a ∷ more) = get_or a.inward 0 0 ∷ inward_digits more

-- what an edition puts behind the trailer's fields: the counts, where it has them
abbrev pub counts_of : ℕ → List Address → List ℕ
counts_of edition addresses = cond (has_counts edition) (counts_bytes (sector_counts (inward_digits addresses))) []

-- "row count 4, points start 4, point count 4, outward 4, pack length 4, edition 1", the counts "in front of the edition byte"
abbrev pub trailer_bytes : (edition rows start points : ℕ) → (code counts : List ℕ) → List ℕ
trailer_bytes edition rows start points code counts =
    bytes_of 4 rows
    ++ (bytes_of 4 start
    ++ (bytes_of 4 points
    ++ (code
    ++ (bytes_of 4 (start + point_width edition * points + trailer_width edition) ++ (counts ++ (edition ∷ []))))))

-- the pack of an edition, of rows and addresses
unfoldable pub pack_bytes : ℕ → List Entry → List Address → List ℕ → List ℕ
pack_bytes edition es addresses code =
    entries_bytes es
    ++ (points_bytes edition es addresses
    ++ trailer_bytes edition (length es) (length (entries_bytes es)) (length addresses) code (counts_of edition addresses))

-- the pack of these addresses in a code
unfoldable pub pack_of : Lookup → List Address → List ℕ → List ℕ
pack_of look addresses code = pack_bytes newest (entries_of look addresses) addresses code
