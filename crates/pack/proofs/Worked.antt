-- Document 01's pack for AB1, computed from the definitions, in every edition.
-- Assumes nothing.
use Prim.Native.Nat.{ℕ, ◌*◌, ◌^◌}
use mathlib.Core.Path.{◌≡◌, refl}
use mathlib.Core.List.{List, [], ◌∷◌, ◌++◌}
use lib.ListN.{length, replicate}
use Rattle.field.specs.Text.{text_in, text_fault}
use Rattle.field_outward.specs.Outward.{class, allowed, outward_fault}
use Rattle.field_outward.specs.Inward.{inward_letter, inward_fault, suffix_fault}
use Rattle.refusal.specs.declared.Reason.TheVariants.{BadPack, NoSuffix, BadDigit}
use Rattle.refusal.specs.Packed.{word, packed}
use Rattle.source.specs.Address.{Address}
use Rattle.source.proofs.Worked.{bay, quarry, lane, range, attic, tables, view, printed}
use Rattle.pack.specs.Numbers.{number_at}
use Rattle.pack.specs.Sectors.{sector_counts}
use Rattle.pack.specs.Layout.{entries_of, pack_bytes, pack_of}
use Rattle.pack.specs.Opening.{trailer_good, text_good, row_good, offset_good, all_rows_good, suffix_good, plain_good, allowed_mix, organisation_good, parts_good, all_points_good, point_digits, all_counts_good, opened}
use Rattle.pack.specs.Points.{elements_from, elements_at, point_suffix, sector_answer, pack_sector}
use Rattle.std.specs.Prelude.{Ok}
use Rattle.refusal.specs.Answer.{Answer, refusal}

abbrev pub view1 : Address
view1 = view 1 7 3 0 0 9 4

abbrev pub code : List ℕ
code = 65 ∷ 66 ∷ 49 ∷ 32 ∷ []

abbrev pub nowhere : List ℕ
nowhere = 255 ∷ 255 ∷ 255 ∷ 255 ∷ []

-- "The pack for AB1 has 5 rows in 51 bytes, one point at 51, and 129 bytes in all; its present offsets are 0, 16, 24, 30,
-- 39." In edition 2 the suffix stands behind the postcode, and it has 131 bytes; in edition 3 counts stand in the trailer, and it has
-- 171.
abbrev pub rows : List ℕ
rows =
    (1 ∷ 12 ∷ bay)
    ++ ((0 ∷ 0 ∷ 2 ∷ 6 ∷ quarry)
    ++ ((3 ∷ 4 ∷ lane) ++ ((4 ∷ 7 ∷ range) ++ (5 ∷ 10 ∷ attic))))

abbrev pub postcode : List ℕ
postcode = 65 ∷ 66 ∷ 49 ∷ 32 ∷ 57 ∷ 90 ∷ 90 ∷ []

abbrev pub rest : List ℕ
rest =
    (83 ∷ 0 ∷ 0 ∷ 0 ∷ 1 ∷ 0 ∷ 0 ∷ 0 ∷ 0 ∷ 0 ∷ 0 ∷ 32 ∷ 32 ∷ 32 ∷ 32 ∷ 32 ∷ 32 ∷ 32 ∷ [])
    ++ ((0 ∷ 0 ∷ 0 ∷ 0 ∷ 0 ∷ 0 ∷ 0 ∷ 16 ∷ 0 ∷ 0 ∷ 0 ∷ 24 ∷ [])
    ++ (nowhere ++ (nowhere ++ ((0 ∷ 0 ∷ 0 ∷ 30 ∷ 0 ∷ 0 ∷ 0 ∷ 39 ∷ []) ++ nowhere))))

-- the fields of the trailer, the last byte of the pack's length, and what stands behind it
abbrev pub trailer : ℕ → List ℕ → List ℕ
trailer size behind =
    0 ∷ 0 ∷ 0 ∷ 5 ∷ 0 ∷ 0 ∷ 0 ∷ 51 ∷ 0 ∷ 0 ∷ 0 ∷ 1 ∷ 65 ∷ 66 ∷ 49 ∷ 32 ∷ 0 ∷ 0 ∷ 0 ∷ size ∷ behind

-- the counts of sectors 0 to 8, in which there is no point
abbrev pub nine : List ℕ
nine = replicate 36 0

-- in editions 1, 2 and 3
abbrev pub worked1 : List ℕ
worked1 = rows ++ (postcode ++ (rest ++ trailer 129 (1 ∷ [])))

abbrev pub worked2 : List ℕ
worked2 = rows ++ (postcode ++ (49 ∷ 65 ∷ (rest ++ trailer 131 (2 ∷ []))))

-- by the first byte of its suffix, the count of sector 9 and its last byte
abbrev altered : (suffix count edition : ℕ) → List ℕ
altered suffix count edition =
    rows ++ (postcode ++ (suffix ∷ 65 ∷ (rest ++ trailer 171 (nine ++ (0 ∷ 0 ∷ 0 ∷ count ∷ edition ∷ [])))))

abbrev pub worked : List ℕ
worked = altered 49 1 3

pub the-pack : pack_of tables (view1 ∷ []) code ≡ worked
unfolding entries_of pack_bytes pack_of sector_counts
the-pack = refl

pub lengths : (length worked ≡ 171) × ((length worked2 ≡ 131) × (length worked1 ≡ 129))
lengths = (refl, (refl, refl))

-- "Packs of edition 1 still open and print the same labels; asking one for a suffix is refused"; "Editions 1 and 2 still open"
pub all-open : (opened worked ≡ Ok 1) × ((opened worked2 ≡ Ok 1) × (opened worked1 ≡ Ok 1))
unfolding number_at outward_fault class allowed trailer_good text_good row_good offset_good all_rows_good suffix_good plain_good allowed_mix organisation_good parts_good all_points_good sector_counts all_counts_good opened inward_fault inward_letter suffix_fault text_fault
all-open = (refl, (refl, refl))

pub point-1 : (elements_at worked 51 ≡ printed) × ((elements_at worked2 51 ≡ printed) × (elements_at worked1 51 ≡ printed))
unfolding number_at text_in elements_from
point-1 = (refl, (refl, refl))

pub suffix-1 : (point_suffix worked 1 ≡ Ok 12_609)
    × ((point_suffix worked2 1 ≡ Ok 12_609) × (point_suffix worked1 1 ≡ refusal 0 NoSuffix))
unfolding number_at point_suffix
suffix-1 = (refl, (refl, refl))

-- AB1 9ZZ is in sector 9
abbrev asked : List ℕ → List Answer
asked pack = sector_answer (point_digits pack) 8 ∷ sector_answer (point_digits pack) 9 ∷ sector_answer (point_digits pack) 10 ∷ []

pub sectors : (asked worked ≡ Ok 0 ∷ Ok 1 ∷ refusal 0 BadDigit ∷ []) × (asked worked1 ≡ asked worked)
unfolding number_at sector_answer
sectors = (refl, refl)

-- a count that is wrong is refused with 4, with a suffix that is wrong too with 3, and an edition that there is not with 1
pub refusals : (opened (altered 49 2 3) ≡ refusal 0 (BadPack 4))
    × ((opened (altered 65 2 3) ≡ refusal 0 (BadPack 3))
    × ((opened (altered 49 1 0) ≡ refusal 0 (BadPack 1)) × (opened (altered 49 1 4) ≡ refusal 0 (BadPack 1))))
unfolding number_at outward_fault class allowed trailer_good text_good row_good offset_good all_rows_good suffix_good plain_good allowed_mix organisation_good parts_good all_points_good sector_counts all_counts_good opened inward_fault inward_letter suffix_fault text_fault
refusals = (refl, (refl, (refl, refl)))

-- the refusals of suffixes and sectors as C gets them: 13 and 27 from bit 56 on, and nothing below
pub numbers : (packed (point_suffix worked1 1) ≡ 13 * 2 ^ 56) × (packed (sector_answer [] 10) ≡ 27 * 2 ^ 56)
unfolding number_at point_suffix sector_answer word
numbers = (refl, refl)

-- "27 .., after 11"
pub pack-first : pack_sector [] 10 ≡ refusal 0 (BadPack 1)
unfolding number_at trailer_good opened pack_sector
pack-first = refl

-- "A code with no live view gives the 21 byte pack"; "The trailer is then 61 bytes, .. as is a pack without points"
pub no-view : pack_of tables [] code
    ≡ replicate 12 0 ++ (65 ∷ 66 ∷ 49 ∷ 32 ∷ 0 ∷ 0 ∷ 0 ∷ 61 ∷ (nine ++ (0 ∷ 0 ∷ 0 ∷ 0 ∷ 3 ∷ [])))
unfolding entries_of pack_bytes pack_of sector_counts
no-view = refl
