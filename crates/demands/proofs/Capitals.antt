-- No line of a label begins with a small letter, under accepted files, of a pack that opens and of an accepted file of rows;
-- a heading and the line of a refusal do. So a listing can be taken apart by the first byte of each line.
-- Assumes nothing.
use Prim.Native.Nat.{ℕ, ◌+◌, ◌/◌, ◌%◌, ◌≤◌, ◌<◌}
use mathlib.Core.Path.{◌≡◌, refl, sym, ap}
use mathlib.Core.Bool.{Bool, true, false, cond, not, ◌&&◌, true≢false}
use mathlib.Core.List.{List, [], ◌∷◌, ◌++◌}
use mathlib.Core.Logic.{◌⊎◌, inl, inr}
use native.Mathlib.Omega.{arith}
use borrow.Author.Tests.{lt-leb, le-leb, ne_eqb, eqb-true, leb-true, ltb-true, not-true}
use lib.Dec.{eqb, ltb, leb, lit<}
use lib.ListN.{length, get_or}
use Rattle.field.specs.Test.{within, elem, every, fault_from, first_fault}
use Rattle.field.specs.Text.{text_byte, blank, text_fault, filled_fault, numeric_like, keep, trim, part, text_in, from_end}
use Rattle.field.proofs.Tests.{and_left, and_right, range-low}
use Rattle.field.proofs.Fronts.{digits-below}
use Rattle.field_outward.specs.Outward.{class, outward_fault}
use Rattle.field_outward.proofs.Codes.{sequence, no-pattern, not-four}
use Rattle.source.specs.Address.{Lookup, Address, Elements}
use Rattle.source.specs.Resolve.{elements_of}
use Rattle.source.specs.Same.{AllOf}
use Rattle.file_compare.specs.Order.{order, same}
use Rattle.file_compare.proofs.Order.{order-equal}
use Rattle.file.specs.Formats.{table_format, point_format}
use Rattle.file.specs.Accepted.{Accepted}
use Rattle.label.specs.Lines.{line, box_line, spaced, street_line, number_text, Premises, premises, table, fronted, places, premises_of, lines_of}
use Rattle.item.specs.Lines.{view_line, point_line}
use Rattle.pack.specs.Names.{known, inward_at, address_key_at, trailer_width}
use Rattle.pack.specs.Numbers.{number_at}
use Rattle.pack.specs.Opening.{edition, row_count, row_area, outward as packOutward, length_said, trailer_good, slots_of, offset_good, all_rows_good, offset_kinds, rest_of, offset_of_point, postcode_good, suffix_good, given, type_byte, organisation_key, building_number, plain_good, offsets_good, allowed_mix, organisation_good, parts_good, opened}
use Rattle.pack.specs.Points.{offset_text, elements_from, elements_at, point_place}
use Rattle.pack_sound.proofs.Elements.{Printed as FromTexts, all-printed}
use Rattle.pack_open.proofs.Opened.{opened-all}
use Rattle.pack_open.proofs.Fits.{offset-bytes, all-offsets, point-good}
use Rattle.changes_source.specs.Rows.{table_lookup}
use Rattle.changes_source.specs.Addresses.{addresses_in}
use Rattle.changes_sound.proofs.Rows.{rows-sound}
use Rattle.changes_sound.proofs.Addresses.{views-fields}
use Rattle.mainfile.specs.Set.{Set}
use Rattle.mainfile.specs.Accepted.{AcceptedSet}
use Rattle.mainfile.specs.Rows.{set_lookup}
use Rattle.mainfile.specs.Addresses as Main
use Rattle.mainfile.specs.Main.{number_line}
use Rattle.mainfile_sound.proofs.Capitals.{views-printed}
use Rattle.csv_paf.specs.File.{fields_of, is_text, is_filled, padded, is_outward, outward_in, is_postcode, double_form, organisation_form}
use Rattle.csv_paf.specs.Ask.{row_elements, row_line}
use Rattle.csv_spans.specs.Row.{GoodRow}
use Rattle.csv_spans.proofs.Laws.{formed, short}
use Rattle.csv_label.proofs.RowLaws.{accepted-row}
use Rattle.demands.specs.Two.{refused_as, begins_small, NoneSmall, ViewsCapital, PointsCapital}
use Rattle.demands.specs.Csv.{elements_for, RowsCapital}
use Rattle.demands.proofs.Two.{all_then}
use Rattle.std.specs.Prelude.{Ok}

-- ---- the lines between labels

pub view-begins : (view letter : ℕ) → begins_small (view_line view letter) ≡ true
unfolding view_line
view-begins view letter = refl

pub number-begins : (view : ℕ) → begins_small (number_line view) ≡ true
number-begins view = refl

pub point-begins : (k : ℕ) → begins_small (point_line k) ≡ true
unfolding point_line
point-begins k = refl

pub row-begins : (row : ℕ) → begins_small (row_line row) ≡ true
unfolding row_line
row-begins row = refl

pub refused-begins : (n d : ℕ) → begins_small (refused_as n d) ≡ true
refused-begins n d = refl

-- ---- texts

abbrev Capital : List ℕ → Type 0
Capital t = begins_small t ≡ false

append-capital : (s t : List ℕ) → Capital s → Capital t → Capital (s ++ t)
append-capital [] t p q = q
append-capital (x ∷ xs) t p q = p

bytes-capital : (t : List ℕ) → every text_byte t ≡ true → Capital t
bytes-capital [] e = refl
bytes-capital (x ∷ xs) e =
    not-true (within 97 122 x) (and_right (within 32 126 x) _ (and_left (text_byte x) (every text_byte xs) e))

trim-capital : (s : List ℕ) → Capital s → Capital (trim s)
trim-capital [] p = refl
trim-capital (x ∷ xs) p = by-test (eqb x 32) (trim xs)
  where
    by-test : (t : Bool) (ys : List ℕ) → Capital (keep t x ys)
    by-test true [] = refl
    by-test true (y ∷ ys) = p
    by-test false ys = p

digit-capital : (d : ℕ) → d ≤ 9 → within 97 122 (48 + d) ≡ false
digit-capital d h = rw (lt-leb 97 (48 + d) (omega arith))

number-capital : (n : ℕ) → n ≤ 9_999 → Capital (number_text n)
unfolding number_text
number-capital n h = by_tests (eqb n 0) (ltb n 10) (ltb n 100) (ltb n 1000) refl refl refl
  where
    by_tests : (t u v w : Bool) → ltb n 10 ≡ u → ltb n 100 ≡ v → ltb n 1000 ≡ w
        → Capital
        (cond t []
        (cond u ((48 + n) ∷ [])
        (cond v ((48 + n / 10) ∷ (48 + n % 10) ∷ [])
        (cond w ((48 + n / 100) ∷ (48 + n / 10 % 10) ∷ (48 + n % 10) ∷ [])
        ((48 + n / 1000) ∷ (48 + n / 100 % 10) ∷ (48 + n / 10 % 10) ∷ (48 + n % 10) ∷ [])))))
    by_tests true u v w p q r = refl
    by_tests false true v w p q r = digit-capital n (omega (arith, ltb-true n 10 p))
    by_tests false false true w p q r = digit-capital (n / 10) (omega (arith, ltb-true n 100 q))
    by_tests false false false true p q r = digit-capital (n / 100) (omega (arith, ltb-true n 1000 r))
    by_tests false false false false p q r = digit-capital (n / 1000) (omega arith)

-- a code whose first byte is a small letter has none of the patterns
small-class : (a : ℕ) → 97 ≤ a → class a ≡ 3
unfolding class
small-class a h =
    simp (
      le-leb 65 a (omega arith),
      lt-leb a 90 (omega arith),
      le-leb 48 a (omega arith),
      lt-leb a 57 (omega arith),
      ne_eqb a 32 (λ e. omega arith),
    )

no_code : (a b c d : ℕ) → class a ≡ 3 → outward_fault (a ∷ b ∷ c ∷ d ∷ []) ≡ 1
no_code a b c d is =
    no-pattern a b c d (neither 1200 1220 (lit< tt) (lit< tt)) (neither 1120 1122 (lit< tt) (lit< tt))
    (λ p. omega (arith, high)) (λ p. omega (arith, high))
  where
    high : 3000 ≤ sequence a b c d
    high = omega (arith, is)

    neither : (q r : ℕ) → q < 3000 → r < 3000 → (sequence a b c d ≡ q) ⊎ (sequence a b c d ≡ r) → ⊥
    neither q r h k (inl p) = omega (arith, high)
    neither q r h k (inr p) = omega (arith, high)

code-capital : (s : List ℕ) → outward_fault s ≡ 0 → Capital s
code-capital [] e = refl
code-capital (a ∷ []) e = absurd (omega (arith, not-four (a ∷ []) (λ h. omega arith)))
code-capital (a ∷ b ∷ []) e = absurd (omega (arith, not-four (a ∷ b ∷ []) (λ h. omega arith)))
code-capital (a ∷ b ∷ c ∷ []) e = absurd (omega (arith, not-four (a ∷ b ∷ c ∷ []) (λ h. omega arith)))
code-capital (a ∷ b ∷ c ∷ d ∷ []) e = by-test (within 97 122 a) refl
  where
    by-test : (t : Bool) → within 97 122 a ≡ t → t ≡ false
    by-test true h = absurd (omega (arith, no_code a b c d (small-class a (range-low 97 122 a h))))
    by-test false h = refl
code-capital (a ∷ b ∷ c ∷ d ∷ x ∷ s) e =
    absurd (omega (arith, not-four (a ∷ b ∷ c ∷ d ∷ x ∷ s) (λ h. omega arith)))

-- ---- lines

none-append : (a b : List (List ℕ)) → NoneSmall a → NoneSmall b → NoneSmall (a ++ b)
none-append [] b h k = k
none-append (l ∷ ls) b h k = (h.0, none-append ls b h.1 k)

line-capital : (t : List ℕ) → Capital t → NoneSmall (line t)
line-capital [] p = tt
line-capital (x ∷ xs) p = (p, tt)

box-capital : (t : List ℕ) → NoneSmall (box_line t)
box-capital [] = tt
box-capital (x ∷ xs) = (refl, tt)

spaced-capital : (s t : List ℕ) → Capital s → Capital (spaced s t)
spaced-capital s t p = append-capital s (32 ∷ t) p refl

street-capital : (name d : List ℕ) → Capital name → NoneSmall (street_line name d)
street-capital [] d p = tt
street-capital (x ∷ xs) [] p = (p, tt)
street-capital (x ∷ xs) (y ∷ ys) p = (p, tt)

front-capital : (f : List ℕ) (ls : List (List ℕ)) → Capital f → NoneSmall ls → NoneSmall (fronted f ls)
front-capital [] ls p h = h
front-capital (f ∷ fs) [] p h = tt
front-capital (f ∷ fs) (l ∷ ls) p h = (p, h.1)

-- each row of the table of premises
record Fronting (p : Premises) : Type 0 where
  lines : NoneSmall p.lines
  front : Capital p.front

table-capital : (s b n : List ℕ) (y : Bool) → Capital s → Capital b → Capital n → Fronting (table s b n y)
table-capital [] [] n y p q r = record { lines = tt; front = r }
table-capital [] (b ∷ bs) [] y p q r = by-test (numeric_like (b ∷ bs))
  where
    by-test : (t : Bool) → Fronting (cond t (premises [] (b ∷ bs)) (premises ((b ∷ bs) ∷ []) []))
    by-test true = record { lines = tt; front = q }
    by-test false = record { lines = (q, tt); front = refl }
table-capital [] (b ∷ bs) (n ∷ ns) y p q r = record { lines = (q, tt); front = r }
table-capital (s ∷ ss) [] n true p q r = record { lines = tt; front = append-capital n (s ∷ ss) r p }
table-capital (s ∷ ss) [] n false p q r = record { lines = (p, tt); front = r }
table-capital (s ∷ ss) (b ∷ bs) [] y p q r = by_tests (numeric_like (s ∷ ss)) (numeric_like (b ∷ bs))
  where
    by_tests : (t u : Bool)
        → Fronting
        (cond t
        (cond u (premises [] (spaced (s ∷ ss) (b ∷ bs))) (premises (spaced (s ∷ ss) (b ∷ bs) ∷ []) []))
        (cond u (premises ((s ∷ ss) ∷ []) (b ∷ bs)) (premises ((s ∷ ss) ∷ (b ∷ bs) ∷ []) [])))
    by_tests true true = record { lines = tt; front = p }
    by_tests true false = record { lines = (p, tt); front = refl }
    by_tests false true = record { lines = (p, tt); front = q }
    by_tests false false = record { lines = (p, (q, tt)); front = refl }
table-capital (s ∷ ss) (b ∷ bs) (n ∷ ns) y p q r = by-test (numeric_like (s ∷ ss))
  where
    by-test : (t : Bool)
        → Fronting
        (cond t (premises (spaced (s ∷ ss) (b ∷ bs) ∷ []) (n ∷ ns)) (premises ((s ∷ ss) ∷ (b ∷ bs) ∷ []) (n ∷ ns)))
    by-test true = record { lines = (p, tt); front = r }
    by-test false = record { lines = (p, (q, tt)); front = r }

-- the elements that begin a line
record Capitals (e : Elements) : Type 0 where
  organisation : Capital e.organisation
  department : Capital e.department
  sub_building : Capital e.sub_building
  building : Capital e.building
  number : e.number ≤ 9_999
  dependent : Capital e.dependent
  thoroughfare : Capital e.thoroughfare
  double_locality : Capital e.double_locality
  dependent_locality : Capital e.dependent_locality
  town : Capital e.town
  outward : Capital e.outward

lines-capital : (e : Elements) → Capitals e → NoneSmall (lines_of e)
unfolding lines_of
lines-capital e c =
    let rows =
    table-capital e.sub_building e.building (number_text e.number) e.concatenation c.sub_building
    c.building (number-capital e.number c.number) in
    let localities =
    none-append (line e.double_locality) _ (line-capital e.double_locality c.double_locality)
    (none-append (line e.dependent_locality) _ (line-capital e.dependent_locality c.dependent_locality)
    (line-capital e.town c.town)) in
    let placed =
    none-append (street_line e.dependent e.dependent_descriptor) _
    (street-capital e.dependent e.dependent_descriptor c.dependent)
    (none-append (street_line e.thoroughfare e.descriptor) _
    (street-capital e.thoroughfare e.descriptor c.thoroughfare) localities) in
    none-append (line e.organisation) _ (line-capital e.organisation c.organisation)
    (none-append (line e.department) _ (line-capital e.department c.department)
    (none-append (box_line e.box) _ (box-capital e.box)
    (none-append (premises_of e).lines _ rows.lines
    (none-append (fronted (premises_of e).front (places e)) _
    (front-capital (premises_of e).front (places e) rows.front placed)
    (spaced-capital e.outward e.inward c.outward, tt)))))

-- ---- views

-- of any source: what an address is printed from begins no line with a small letter
address-capital : (look : Lookup) (a : Address) → FromTexts look a → Capitals (elements_of look a)
unfolding elements_of
address-capital look a p =
    let t = p.texts in
    let e = elements_of look a in
    record {
      organisation = bytes-capital e.organisation t.organisation.1;
      department = bytes-capital e.department t.department.1;
      sub_building = bytes-capital e.sub_building t.sub_building.1;
      building = bytes-capital e.building t.building.1;
      number = p.number;
      dependent = bytes-capital e.dependent t.dependent.1;
      thoroughfare = bytes-capital e.thoroughfare t.thoroughfare.1;
      double_locality = bytes-capital e.double_locality t.double_locality.1;
      dependent_locality = bytes-capital e.dependent_locality t.dependent_locality.1;
      town = bytes-capital e.town t.town.1;
      outward = trim-capital a.outward (code-capital a.outward p.outward);
    }

pub all-capital : (look : Lookup) (views : List Address) → AllOf (FromTexts look) views → ViewsCapital look views
all-capital look =
    all_then (FromTexts look) (λ a. NoneSmall (lines_of (elements_of look a)))
    (λ a p. lines-capital (elements_of look a) (address-capital look a p))

-- of every view of an accepted pair of files
pub views-capital : (table points : List ℕ) → Accepted table_format table → Accepted point_format points
    → ViewsCapital (table_lookup table) (addresses_in points)
views-capital table points t p =
    all-capital (table_lookup table) (addresses_in points)
    (all-printed (table_lookup table) (rows-sound table t) (addresses_in points) (views-fields points p))

-- of every address of an accepted set
pub set-capital : (s : Set) → AcceptedSet s → ViewsCapital (set_lookup s) (Main.addresses_in s)
set-capital s a = all-capital (set_lookup s) (Main.addresses_in s) (views-printed s a)

-- ---- points

module _ (pack : List ℕ) (n k : ℕ) (opens : opened pack ≡ Ok n) (low : 1 ≤ k) (high : k ≤ n) where
  abbrev at : ℕ
  at = point_place pack k

  abbrev rest : ℕ
  rest = rest_of pack at

  good : parts_good pack at rest ≡ true
  good = point-good pack n k opens low high

  code-good : outward_fault (packOutward pack) ≡ 0
  unfolding trailer_good
  code-good =
      let trailer = (opened-all pack n opens).trailer in
      let behind-size = and_right (leb (trailer_width (edition pack)) (length pack)) _ trailer in
      let behind-edition = and_right (known (edition pack)) _ behind-size in
      let behind-length = and_right (eqb (length_said pack) (length pack)) _ behind-edition in
      eqb-true (outward_fault (packOutward pack)) 0 (and_left (eqb (outward_fault (packOutward pack)) 0) _ behind-length)

  -- the parts of the point behind its offsets
  behind-offsets : postcode_good pack at
      && (suffix_good pack at && (plain_good pack rest && (allowed_mix pack rest && organisation_good pack rest)))
      ≡ true
  unfolding parts_good
  behind-offsets =
      and_right (given pack rest 0) _ (and_right (offsets_good pack rest 0 offset_kinds) _ good)

  own_code : part pack at (at + inward_at) ≡ packOutward pack
  own_code =
      let own = part pack at (at + inward_at) in
      order-equal own (packOutward pack)
      (eqb-true (order own (packOutward pack)) 0
      (and_left (same own (packOutward pack)) _ (and_left (postcode_good pack at) _ behind-offsets)))

  number_small : building_number pack rest ≤ 9_999
  unfolding plain_good
  number_small =
      let behind-postcode = and_right (postcode_good pack at) _ behind-offsets in
      let plain = and_left (plain_good pack rest) _ (and_right (suffix_good pack at) _ behind-postcode) in
      let behind-type = and_right (elem (type_byte pack rest) (83 ∷ 76 ∷ [])) _ plain in
      let behind-address = and_right (leb (number_at pack (rest + address_key_at) 4) 99_999_999) _ behind-type in
      let behind-keys = and_right (leb (organisation_key pack rest) 99_999_999) _ behind-address in
      leb-true (building_number pack rest) 9_999 (and_left (leb (building_number pack rest) 9_999) _ behind-keys)

  rows : all_rows_good pack ≡ true
  rows = (opened-all pack n opens).rows

  -- the texts of the row that an offset gives
  offset-capital : (m kind : ℕ) → offset_good (row_area pack) (row_count pack) kind (offset_of_point pack rest m) ≡ true
      → (which : ℕ)
      → which < length (slots_of kind)
      → Capital (offset_text pack rest m which)
  offset-capital m kind is which h =
      bytes-capital (offset_text pack rest m which) (offset-bytes pack rows rest m kind is which h)

  point-capital : Capitals (elements_at pack at)
  unfolding elements_from text_in
  point-capital =
      let o = all-offsets pack rows at rest good in
      record {
        organisation = offset-capital 7 6 o.1.1.1.1.1.1.1.0 0 (lit< tt);
        department = offset-capital 7 6 o.1.1.1.1.1.1.1.0 1 (lit< tt);
        sub_building = offset-capital 6 5 o.1.1.1.1.1.1.0 0 (lit< tt);
        building = offset-capital 5 4 o.1.1.1.1.1.0 0 (lit< tt);
        number = number_small;
        dependent = offset-capital 3 2 o.1.1.1.0 0 (lit< tt);
        thoroughfare = offset-capital 1 2 o.1.0 0 (lit< tt);
        double_locality = offset-capital 0 1 o.0 2 (lit< tt);
        dependent_locality = offset-capital 0 1 o.0 1 (lit< tt);
        town = offset-capital 0 1 o.0 0 (lit< tt);
        outward =
            trim-capital (part pack at (at + inward_at)) (rw own_code (code-capital (packOutward pack) code-good));
      }

-- of every point of a pack that opens
pub points-capital : (pack : List ℕ) → PointsCapital pack
points-capital pack n k opens low high = lines-capital _ (point-capital pack n k opens low high)

-- ---- rows of CSV PAF

blank-capital : (f : List ℕ) → blank f ≡ true → Capital f
blank-capital [] e = refl
blank-capital (x ∷ xs) e = ap (λ (b : ℕ). within 97 122 b) (eqb-true x 32 (and_left (eqb x 32) (blank xs) e))

text-capital : (f : List ℕ) → is_text f ≡ true → Capital f
unfolding text_fault
text-capital [] e = refl
text-capital (x ∷ xs) e = by_first (eqb x 32) refl e
  where
    by_byte : (t : Bool) → text_byte x ≡ t → eqb (cond t (fault_from text_byte 2 xs) 1) 0 ≡ true → within 97 122 x ≡ false
    by_byte true q z = not-true (within 97 122 x) (and_right (within 32 126 x) _ q)
    by_byte false q z = absurd (true≢false (sym z))

    by_first : (t : Bool) → eqb x 32 ≡ t
        → eqb (cond t (cond (blank (x ∷ xs)) 0 1) (first_fault text_byte (x ∷ xs))) 0 ≡ true
        → within 97 122 x ≡ false
    by_first true q z = ap (λ (b : ℕ). within 97 122 b) (eqb-true x 32 q)
    by_first false q z = by_byte (text_byte x) refl z

trimmed-capital : (f : List ℕ) → is_text f ≡ true → Capital (trim f)
trimmed-capital f e = trim-capital f (text-capital f e)

filled-capital : (f : List ℕ) → is_filled f ≡ true → Capital f
unfolding filled_fault
filled-capital f e = by-blank (blank f) e
  where
    by-blank : (t : Bool) → eqb (cond t 1 (text_fault f)) 0 ≡ true → Capital f
    by-blank true z = absurd (true≢false (sym z))
    by-blank false z = text-capital f z

double-capital : (dependent f : List ℕ) → double_form dependent f ≡ true → Capital f
double-capital dependent f e = by-test (blank dependent) e
  where
    by-test : (t : Bool) → cond t (blank f) (is_text f) ≡ true → Capital f
    by-test true z = blank-capital f z
    by-test false z = text-capital f z

organisation-capital : (department type f : List ℕ) → organisation_form department type f ≡ true → Capital f
organisation-capital department type f e = by-test (not (blank department) && same type (83 ∷ [])) e
  where
    by-test : (t : Bool) → cond t (is_filled f) (is_text f) ≡ true → Capital f
    by-test true z = filled-capital f z
    by-test false z = text-capital f z

padded-capital : (o : List ℕ) → Capital (padded o) → Capital o
padded-capital [] p = refl
padded-capital (x ∷ xs) p = p

postcode-capital : (f : List ℕ) → is_postcode f ≡ true → Capital (outward_in f)
unfolding is_postcode
postcode-capital f e =
    let o = outward_in f in
    let behind-space = and_right (eqb (from_end f 4) 32) _ (and_right (within 6 8 (length f)) _ e) in
    let code = and_right (not (eqb (from_end o 1) 32)) _ (and_left (is_outward o) _ behind-space) in
    padded-capital o (code-capital (padded o) (eqb-true (outward_fault (padded o)) 0 code))

row-capital : (bytes : List ℕ) → GoodRow bytes 0 → Capitals (elements_for bytes)
unfolding row_elements
row-capital bytes good =
    let fs = fields_of bytes in
    let form = (formed good).each in
    record {
      organisation =
          trim-capital (get_or fs 11 [])
          (organisation-capital (get_or fs 10 []) (get_or fs 13 []) (get_or fs 11 []) (form 11 (lit< tt)));
      department = trimmed-capital (get_or fs 10 []) (form 10 (lit< tt));
      sub_building = trimmed-capital (get_or fs 8 []) (form 8 (lit< tt));
      building = trimmed-capital (get_or fs 7 []) (form 7 (lit< tt));
      number = omega (arith, digits-below 4 (get_or fs 6 []) (omega arith) (short good 6 (lit< tt)));
      dependent = trimmed-capital (get_or fs 5 []) (form 5 (lit< tt));
      thoroughfare = trimmed-capital (get_or fs 4 []) (form 4 (lit< tt));
      double_locality =
          trim-capital (get_or fs 3 []) (double-capital (get_or fs 2 []) (get_or fs 3 []) (form 3 (lit< tt)));
      dependent_locality = trimmed-capital (get_or fs 2 []) (form 2 (lit< tt));
      town = trim-capital (get_or fs 1 []) (filled-capital (get_or fs 1 []) (form 1 (lit< tt)));
      outward = postcode-capital (get_or fs 0 []) (form 0 (lit< tt));
    }

-- of every row of an accepted file
pub rows-capital : (csv : List ℕ) → RowsCapital csv
rows-capital csv n row bytes taken there =
    let good = accepted-row csv taken row bytes there in
    lines-capital (elements_for bytes)
    (row-capital bytes (record { within = omega arith; fault = good.0; fits = good.1 }))
