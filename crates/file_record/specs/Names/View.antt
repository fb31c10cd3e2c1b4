-- A point record of type 1: "locality key 8, thoroughfare 8, its descriptor 8, dependent thoroughfare 8, its descriptor 8,
-- building number 4, building name key 8, sub building name key 8, households 4, concatenation 1, PO box 6, small user
-- indicator 1, reason 2".
-- Assumes nothing.
use Rattle.std.specs.Prelude.{ℕ}

abbrev pub locality : ℕ
locality = 42

abbrev pub thoroughfare : ℕ
thoroughfare = 50

abbrev pub descriptor : ℕ
descriptor = 58

abbrev pub dependent : ℕ
dependent = 66

abbrev pub dependent_descriptor : ℕ
dependent_descriptor = 74

abbrev pub number : ℕ
number = 82

abbrev pub building : ℕ
building = 86

abbrev pub sub_building : ℕ
sub_building = 94

abbrev pub households : ℕ
households = 102

abbrev pub concatenation : ℕ
concatenation = 106

abbrev pub box : ℕ
box = 107

abbrev pub indicator : ℕ
indicator = 113

abbrev pub reason : ℕ
reason = 114

abbrev pub reason_end : ℕ
reason_end = 116
