-- A record of the Mainfile's localities file: "Locality Key 6, Filler 30, Filler 15, Post Town 30, Dependent Locality 35,
-- Double Dependent Locality 35".
-- Assumes nothing.
use Rattle.std.specs.Prelude.{ℕ}

abbrev pub width : ℕ
width = 151

abbrev pub key : ℕ
key = 0

abbrev pub key_end : ℕ
key_end = 6

abbrev pub town : ℕ
town = 51

abbrev pub dependent : ℕ
dependent = 81

abbrev pub double : ℕ
double = 116
