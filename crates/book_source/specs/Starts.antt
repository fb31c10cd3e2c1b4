-- The delivery points of a book by where their records start in it, as code walks them.
-- Assumes nothing.
use Rattle.std.specs.Prelude.{ℕ, zero, suc, ◌+◌, ◌-◌, ◌*◌, ◌≤◌, ◌<◌, ◌≡◌, Bool, cond, List, [], ◌∷◌, length, get_or, take}
use Rattle.field.specs.Text.{part}
use Rattle.file_record.specs.Parts.{record_at}
use Rattle.file_record.specs.Names.Point
use Rattle.changes_views.specs.Views.{wanted}
use Rattle.source.specs.Address.{Address}
use Rattle.source.specs.declared.DeliveryPoint.{DeliveryPoint}
use Rattle.changes_source.specs.Addresses.{address_at}
use Rattle.changes_source.specs.Delivery.{delivery_at}
use Rattle.pack.specs.Numbers.{number_at}
use Rattle.book.specs.Layout.{slots, slot_width, view_at, slot_at, count_of}
use Rattle.book.specs.Book.{holder}
use Rattle.book_source.specs.declared.Starts.{Starts}

-- where the records of slot s start
abbrev pub start_of : ℕ → ℕ
start_of s = s * slot_width + view_at

module _ (book : List ℕ) where
  -- a view's record and its follower's, as if they were all records of a point file
  abbrev pub records_at : ℕ → List ℕ
  records_at at = part book at (at + 336)

  -- the place that stands before them
  abbrev pub place_before : ℕ → ℕ
  place_before at = number_at book (at - view_at) 2

  abbrev pub start_of_place : ℕ → ℕ
  start_of_place p = start_of (holder (slot_at book) p)

  -- what is present there
  abbrev pub address_from : ℕ → Address
  address_from at = address_at (records_at at) (place_before at) 0

  abbrev pub addresses_at : List ℕ → List Address
  addresses_at [] = []
  addresses_at (at ∷ more) = address_from at ∷ addresses_at more

-- the texts of a delivery point stand so many bytes further on
abbrev pub shifted : (by : ℕ) → DeliveryPoint → DeliveryPoint
shifted by p =
    record {
      keys = p.keys;
      number = p.number;
      address_key = p.address_key;
      organisation_key = p.organisation_key;
      postcode_type = p.postcode_type;
      concatenation = p.concatenation;
      indicator = p.indicator;
      postcode = by + p.postcode;
      suffix = by + p.suffix;
      po_box = by + p.po_box;
      organised = p.organised;
      organisation = by + p.organisation;
      lacking = p.lacking;
    }

-- what code knows of it
unfoldable pub delivery_from : (book : List ℕ) → ℕ → DeliveryPoint
delivery_from book at = shifted at (delivery_at (records_at book at) 0)

-- those of a code, in order of place; where no code is given, all
module _ (code book : List ℕ) where
  abbrev pub wanted_from : ℕ → Bool
  wanted_from at = wanted code (record_at Point.width (records_at book at) 0)

  -- of n places from p on
  abbrev pub starts_from : (n p : ℕ) → List ℕ
  starts_from zero p = []
  starts_from (suc n) p =
      cond (wanted_from (start_of_place book p)) (start_of_place book p ∷ starts_from n (suc p)) (starts_from n (suc p))

  unfoldable pub starts_in : List ℕ
  starts_in = starts_from (count_of book) 1

-- the k-th of some, counted from 1; 0 where there is none
abbrev pub start_among : List ℕ → (k : ℕ) → ℕ
start_among starts k = get_or (0 ∷ starts) k 0

-- a place of a book at which two records stand
pub record Inside (book : List ℕ) (at : ℕ) : Type 0 where
  pub low : view_at ≤ at
  pub high : at + 336 ≤ length book

abbrev pub AllInside : (book : List ℕ) → List ℕ → Type 0
AllInside book [] = Unit {0}
AllInside book (at ∷ more) = Inside book at × AllInside book more

-- by place, as far as there is one
abbrev pub ByPlace : (book by_place : List ℕ) → Type 0
ByPlace book by_place =
    (p : ℕ) → p < slots → holder (slot_at book) (suc p) < slots → get_or by_place p 0 ≡ start_of_place book (suc p)

-- code holds them
pub record Holds (r : Starts) (starts : List ℕ) : Type 0 where
  pub few : r.many ≤ slots
  pub long : length r.at ≡ slots
  pub are : take r.many r.at ≡ starts
