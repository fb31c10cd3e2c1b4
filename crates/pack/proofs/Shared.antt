-- Two views of AB1 that share rows, the first with an organisation: their pack, computed from the definitions.
-- Assumes nothing.
use Prim.Native.Nat.{ℕ, ◌+◌}
use mathlib.Core.Path.{◌≡◌, refl}
use mathlib.Core.Bool.{false}
use mathlib.Core.List.{List, [], ◌∷◌, ◌++◌}
use Rattle.field.specs.Text.{text_fault, text_in, numeric_like}
use Rattle.field_outward.specs.Outward.{class, allowed, outward_fault}
use Rattle.field_outward.specs.Inward.{inward_letter, inward_fault, suffix_fault}
use Rattle.refusal.specs.declared.Reason.TheVariants.{NoSuchNumber, Room}
use Rattle.source.specs.Address.{Organisation, none_needed, named, Address}
use Rattle.source.proofs.Worked.{quarry, lane, tables}
use Rattle.label.specs.Lines.{number_text, lines_of}
use Rattle.label.specs.Label.{label_of, room_outcome}
use Rattle.pack.specs.Numbers.{number_at}
use Rattle.pack.specs.Sectors.{sector_counts}
use Rattle.pack.specs.Layout.{entries_of, pack_bytes, pack_of}
use Rattle.pack.specs.Opening.{trailer_good, text_good, row_good, offset_good, all_rows_good, suffix_good, plain_good, allowed_mix, organisation_good, parts_good, all_points_good, all_counts_good, opened}
use Rattle.pack.specs.Points.{elements_from, point_label, pack_label, point_suffix, pack_suffix}
use Rattle.pack.proofs.Worked.{code, nowhere, rows, nine}
use Rattle.std.specs.Prelude.{Ok}
use Rattle.refusal.specs.Answer.{Answer, refusal}

-- a view of AB1 9ZZ in locality 1, with the same name and descriptor for both of its thoroughfares
abbrev shared : ℕ → ℕ → ℕ → ℕ → ℕ → ℕ → ℕ → Organisation → Address
shared n type street descriptor building sub number organisation =
    record {
      view = n;
      letter = 73;
      outward = code;
      inward = 57 ∷ 90 ∷ 90 ∷ [];
      suffix = (48 + n) ∷ (64 + n) ∷ [];
      postcode_type = type;
      address_key = n;
      organisation_key = 0;
      locality = 1;
      thoroughfare = street;
      descriptor = descriptor;
      dependent = street;
      dependent_descriptor = descriptor;
      building = building;
      sub_building = sub;
      number = number;
      concatenation = false;
      box = 32 ∷ 32 ∷ 32 ∷ 32 ∷ 32 ∷ 32 ∷ [];
      indicator = false;
      organisation = organisation;
    }

abbrev views : List Address
views = shared 1 76 7 3 9 4 0 (named quarry lane) ∷ shared 2 83 0 0 0 0 5 none_needed ∷ []

-- "each once", "Then one row of type 6"
abbrev organisation-row : List ℕ
organisation-row = (6 ∷ 6 ∷ quarry) ++ (4 ∷ lane)

abbrev first-point : List ℕ
first-point =
    (65 ∷ 66 ∷ 49 ∷ 32 ∷ 57 ∷ 90 ∷ 90 ∷ 49 ∷ 65 ∷ [])
    ++ ((76 ∷ 0 ∷ 0 ∷ 0 ∷ 1 ∷ 0 ∷ 0 ∷ 0 ∷ 0 ∷ 0 ∷ 0 ∷ 32 ∷ 32 ∷ 32 ∷ 32 ∷ 32 ∷ 32 ∷ 32 ∷ [])
    ++ ((0 ∷ 0 ∷ 0 ∷ 0 ∷ 0 ∷ 0 ∷ 0 ∷ 16 ∷ 0 ∷ 0 ∷ 0 ∷ 24 ∷ 0 ∷ 0 ∷ 0 ∷ 16 ∷ 0 ∷ 0 ∷ 0 ∷ 24 ∷ [])
    ++ (0 ∷ 0 ∷ 0 ∷ 30 ∷ 0 ∷ 0 ∷ 0 ∷ 39 ∷ 0 ∷ 0 ∷ 0 ∷ 51 ∷ [])))

abbrev second-point : List ℕ
second-point =
    (65 ∷ 66 ∷ 49 ∷ 32 ∷ 57 ∷ 90 ∷ 90 ∷ 50 ∷ 66 ∷ [])
    ++ ((83 ∷ 0 ∷ 0 ∷ 0 ∷ 2 ∷ 0 ∷ 0 ∷ 0 ∷ 0 ∷ 0 ∷ 5 ∷ 32 ∷ 32 ∷ 32 ∷ 32 ∷ 32 ∷ 32 ∷ 32 ∷ [])
    ++ ((0 ∷ 0 ∷ 0 ∷ 0 ∷ [])
    ++ (nowhere ++ (nowhere ++ (nowhere ++ (nowhere ++ (nowhere ++ (nowhere ++ nowhere))))))))

-- 6 rows in 64 bytes, and two points
abbrev trailer : List ℕ
trailer =
    (0 ∷ 0 ∷ 0 ∷ 6 ∷ 0 ∷ 0 ∷ 0 ∷ 64 ∷ 0 ∷ 0 ∷ 0 ∷ 2 ∷ 65 ∷ 66 ∷ 49 ∷ 32 ∷ 0 ∷ 0 ∷ 0 ∷ 243 ∷ [])
    ++ (nine ++ (0 ∷ 0 ∷ 0 ∷ 2 ∷ 3 ∷ []))

abbrev both : List ℕ
both = rows ++ (organisation-row ++ (first-point ++ (second-point ++ trailer)))

pub their-pack : pack_of tables views code ≡ both
unfolding entries_of pack_bytes pack_of sector_counts
their-pack = refl

pub it_opens : opened both ≡ Ok 2
unfolding number_at outward_fault class allowed trailer_good text_good row_good offset_good all_rows_good suffix_good plain_good allowed_mix organisation_good parts_good all_points_good sector_counts all_counts_good opened inward_fault inward_letter suffix_fault text_fault
it_opens = refl

-- what its numbers are answered, into no buffer: "files and pack alike answer 7"
abbrev asked : List Answer
asked = (pack_label both 0 []).answer ∷ (pack_label both 1 []).answer ∷ (pack_label both 2 []).answer ∷ (pack_label both 3 []).answer ∷ []

pub answers : asked ≡ refusal 0 NoSuchNumber ∷ refusal 0 (Room 76) ∷ refusal 0 (Room 23) ∷ refusal 0 NoSuchNumber ∷ []
unfolding number_at outward_fault class allowed trailer_good text_good row_good offset_good all_rows_good suffix_good plain_good allowed_mix organisation_good parts_good all_points_good sector_counts all_counts_good opened inward_fault inward_letter suffix_fault text_fault pack_label point_label elements_from text_in label_of lines_of number_text numeric_like room_outcome
answers = refl

abbrev suffixes : List Answer
suffixes = pack_suffix both 0 ∷ pack_suffix both 1 ∷ pack_suffix both 2 ∷ pack_suffix both 3 ∷ []

-- `1A` and `2B`
pub their-suffixes : suffixes ≡ refusal 0 NoSuchNumber ∷ Ok 12_609 ∷ Ok 12_866 ∷ refusal 0 NoSuchNumber ∷ []
unfolding number_at outward_fault class allowed trailer_good text_good row_good offset_good all_rows_good suffix_good plain_good allowed_mix organisation_good parts_good all_points_good sector_counts all_counts_good opened inward_fault inward_letter suffix_fault text_fault pack_suffix point_suffix
their-suffixes = refl
