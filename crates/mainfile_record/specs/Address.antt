-- A record of the Mainfile's address file: "Outward Code 4, Inward Code 3, Address Key 8, Locality Key 6, Thoroughfare Key 8,
-- Thoroughfare Descriptor Key 4, Dependent Thoroughfare Key 8, Dependent Thoroughfare Descriptor Key 4, Building Number 4,
-- Building Name Key 8, Sub Building Name Key 8, Number of Households 4, Organisation Key 8, Postcode Type 1, Concatenation
-- Indicator 1, Delivery Point Suffix 2, Small User Organisation Indicator 1, PO Box Number 6".
-- Assumes nothing.
use Rattle.std.specs.Prelude.{ℕ}

abbrev pub width : ℕ
width = 88

abbrev pub outward : ℕ
outward = 0

abbrev pub inward : ℕ
inward = 4

abbrev pub address_key : ℕ
address_key = 7

abbrev pub locality : ℕ
locality = 15

abbrev pub thoroughfare : ℕ
thoroughfare = 21

abbrev pub descriptor : ℕ
descriptor = 29

abbrev pub dependent : ℕ
dependent = 33

abbrev pub dependent_descriptor : ℕ
dependent_descriptor = 41

abbrev pub number : ℕ
number = 45

abbrev pub building : ℕ
building = 49

abbrev pub sub_building : ℕ
sub_building = 57

abbrev pub households : ℕ
households = 65

abbrev pub organisation_key : ℕ
organisation_key = 69

abbrev pub postcode_type : ℕ
postcode_type = 77

abbrev pub concatenation : ℕ
concatenation = 78

abbrev pub suffix : ℕ
suffix = 79

abbrev pub indicator : ℕ
indicator = 81

abbrev pub box : ℕ
box = 82

abbrev pub box_end : ℕ
box_end = 88
