-- The records of the Mainfile's files of one text: a key, then the text.
-- Assumes nothing.
use Rattle.std.specs.Prelude.{ℕ}

abbrev pub key : ℕ
key = 0

-- "Thoroughfare Key 8, Thoroughfare Name 60"; "Building Name Key 8, Building Name 50"; "Sub Building Name Key 8, Sub
-- Building Name 30": where the text begins
abbrev pub text : ℕ
text = 8

abbrev pub thoroughfare_width : ℕ
thoroughfare_width = 68

abbrev pub building_width : ℕ
building_width = 58

abbrev pub sub_building_width : ℕ
sub_building_width = 38

-- "Thoroughfare Descriptor Key 4, Thoroughfare Descriptor 20, Approved Abbreviation 6"
abbrev pub descriptor_text : ℕ
descriptor_text = 4

abbrev pub descriptor_width : ℕ
descriptor_width = 30
