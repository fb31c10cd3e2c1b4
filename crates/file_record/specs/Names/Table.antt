-- What the five types of a table record share, and where the text of types 2 to 5 ends.
-- Assumes nothing.
use Rattle.std.specs.Prelude.{ℕ}

-- "Table file, 169 bytes a record. Header: identifier 9"
abbrev pub width : ℕ
width = 169

abbrev pub identifier : ℕ
identifier = 9

-- "type 1, key 8, date 8, time 6, letter 1, then by type"
abbrev pub type : ℕ
type = 0

abbrev pub key : ℕ
key = 1

abbrev pub date : ℕ
date = 9

abbrev pub time : ℕ
time = 17

abbrev pub letter : ℕ
letter = 23

abbrev pub text : ℕ
text = 24

-- "2 thoroughfare: name 60; 3 descriptor: text 20; 4 building name: text 50; 5 sub building name: text 30"
abbrev pub thoroughfare_end : ℕ
thoroughfare_end = 84

abbrev pub descriptor_end : ℕ
descriptor_end = 44

abbrev pub building_end : ℕ
building_end = 74

abbrev pub sub_building_end : ℕ
sub_building_end = 54
