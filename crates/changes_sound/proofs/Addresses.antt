-- The packed views of an accepted pair of files, where none is refused, are what a pack may hold.
-- Assumes nothing.
use Prim.Native.Nat.{ℕ, suc, ◌+◌, ◌≤◌, ◌<◌}
use mathlib.Core.Path.{◌≡◌}
use mathlib.Core.List.{List, [], ◌∷◌}
use native.Mathlib.Omega.{arith}
use lib.ListN.{length, get_or}
use Rattle.field.specs.Digits.{value}
use Rattle.field.specs.Text.{part}
use Rattle.file_record.specs.Parts.{record_at}
use Rattle.file_record.proofs.Records.{part_length, record-length}
use Rattle.file_fault.specs.Point.{point_fault}
use Rattle.file_fault.proofs.Passing.{point-passes, view-passes, one_passes}
use Rattle.file.specs.Formats.{needed, point_format}
use Rattle.file.specs.Accepted.{Accepted}
use Rattle.file.proofs.Laws.{within-limit}
use Rattle.changes_views.specs.Views.{wanted_in, view_number}
use Rattle.source.specs.Address.{Lookup, Address}
use Rattle.source.specs.Same.{AllOf}
use Rattle.ask.proofs.Laws.{in-code-all}
use Rattle.changes_source.specs.Addresses.{address_of, address_at, numbered, addresses_in, live, kept}
use Rattle.changes_meaning.proofs.Meant.{wanted-view}
use Rattle.pack.specs.Cutting.{first_bad}
use Rattle.pack.specs.Sound.{AddressesSound}
use Rattle.pack_sound.proofs.Fields.{FieldsSound, key_fits, number_fits}
use Rattle.pack_sound.proofs.Addresses.{Rising, rising-one, addresses-sound as code-sound}
use Rattle.changes_pair.specs.Live.{live_in, views_at, WantedPlace, WantedPlaces}
use Rattle.changes_pair.proofs.Numbers.{number_bound}
use Rattle.changes_pair.proofs.Live.{all-views, all_wanted, kept-all}
use Rattle.changes_sound.proofs.Follower.{follower-there, organisation-sound}
use Rattle.refusal.specs.Verdict.{fine}

-- a field of eight bytes says at most 99,999,999
pub eight : (rec : List ℕ) (start : ℕ) → value (part rec start (start + 8)) ≤ 99_999_999
eight rec start = key_fits rec start (start + 8) (omega arith)

-- a view's record without fault, whatever stands behind it where it needs no follower
pub record-sound : (rec next : List ℕ) (n : ℕ) → length rec ≡ 168 → get_or rec 41 0 ≡ 49 → point_fault rec ≡ 0
    → ((needed rec ≡ 0 → ⊥) → (get_or next 41 0 ≡ needed rec) × (point_fault next ≡ 0))
    → n ≤ 99_999_999
    → FieldsSound (address_of n rec next)
unfolding address_of
record-sound rec next n long view good follower small =
    let head = (point-passes rec good).0 in
    let rest = view-passes rec good view in
    let kind = one_passes (83 ∷ 76 ∷ []) rec 23 head.1.1.1.1.1.0 in
    record {
      outward = head.1.1.0;
      inward = head.1.1.1.0;
      suffix = head.1.1.1.1.0;
      type = kind;
      address_key = eight rec 24;
      organisation_key = eight rec 32;
      number = number_fits rec 82 86 (omega arith);
      box_long = part_length rec 107 113 (omega arith) (omega arith);
      box_good = rest.1.1.1.1.1.1.1.1.1.1.0;
      view = small;
      keys = (
        eight rec 42,
        (eight rec 50, (eight rec 58, (eight rec 66, (eight rec 74, (eight rec 86, (eight rec 94, tt)))))),
      );
      organisation = λ there. organisation-sound rec next view kind follower;
    }

module _ (points : List ℕ) (p : Accepted point_format points) where
  fields_at : (place n : ℕ) → WantedPlace [] points place → n ≤ 99_999_999 → FieldsSound (address_at points n place)
  fields_at place n w small =
      let rec = record_at 168 points place in
      let view = wanted-view [] rec w.is_wanted in
      record-sound rec (record_at 168 points (place + 1)) n (record-length 168 points place (omega (arith, w.high))) view
      (p.each place w.low w.high).well_formed (follower-there points p place w.low w.high view) small

  places-fields : (places : List ℕ) → WantedPlaces [] points places → AllOf FieldsSound (views_at points places)
  places-fields [] wanted = tt
  places-fields (place ∷ places) wanted = (
    fields_at place (view_number points place) wanted.0
        (omega (
          arith,
          number_bound points place,
          wanted.0.high,
          within-limit point_format points p.is_whole,
        )),
    places-fields places wanted.1,
  )

  -- the fields of every view are well formed
  pub views-fields : AllOf FieldsSound (addresses_in points)
  views-fields = rw (all-views points) (places-fields (wanted_in [] points) (all_wanted [] points))

  -- and of those that a pack holds
  pub live-fields : (code : List ℕ) → AllOf FieldsSound (live_in points code)
  live-fields code =
      in-code-all FieldsSound code (kept (addresses_in points)) (kept-all FieldsSound (addresses_in points) views-fields)

-- views are numbered on, and stay so where some are left out
numbered-rises : (points : List ℕ) (low n : ℕ) (places : List ℕ) → low < n → Rising low (numbered points n places)
unfolding address_of
numbered-rises points low n [] h = tt
numbered-rises points low n (place ∷ places) h = (h, numbered-rises points n (suc n) places (omega arith))

kept-rises : (low : ℕ) (views : List Address) → Rising low views → Rising low (kept views)
kept-rises low [] r = tt
kept-rises low (a ∷ more) r = rising-one (live a) low a (kept more) r.0 (kept-rises a.view more r.1)

pub addresses-sound : (look : Lookup) (points code : List ℕ) → Accepted point_format points
    → first_bad look (live_in points code) ≡ fine
    → AddressesSound look code 0 (live_in points code)
unfolding addresses_in
addresses-sound look points code p =
    code-sound look code (kept (addresses_in points))
    (kept-rises 0 (addresses_in points) (numbered-rises points 0 1 (wanted_in [] points) (omega arith)))
    (kept-all FieldsSound (addresses_in points) (views-fields points p))
