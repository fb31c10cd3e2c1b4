-- What the three types of a point record share.
-- Assumes nothing.
use Rattle.std.specs.Prelude.{ℕ}

-- "Point file, 168 bytes a record. Header: identifier 14"
abbrev pub width : ℕ
width = 168

abbrev pub identifier : ℕ
identifier = 14

-- "date 8, time 6, outward 4, inward 3, suffix 2, postcode type 1, address key 8, organisation key 8, letter 1, record
-- type 1: 42 bytes"
abbrev pub date : ℕ
date = 0

abbrev pub time : ℕ
time = 8

abbrev pub outward : ℕ
outward = 14

abbrev pub inward : ℕ
inward = 18

abbrev pub suffix : ℕ
suffix = 21

abbrev pub postcode_type : ℕ
postcode_type = 23

abbrev pub address_key : ℕ
address_key = 24

abbrev pub organisation_key : ℕ
organisation_key = 32

abbrev pub letter : ℕ
letter = 40

abbrev pub type : ℕ
type = 41

abbrev pub rest : ℕ
rest = 42
