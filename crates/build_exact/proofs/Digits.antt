-- The digits that a builder counts in the points that it has written are those of the addresses.
-- Assumes nothing.
use Prim.Native.Nat.{ℕ, ◌+◌, ◌-◌, ◌<◌}
use mathlib.Core.Path.{◌≡◌, refl, sym, ap, ap₂, ◌∙◌}
use mathlib.Core.List.{List, ◌∷◌, ◌++◌, append_assoc}
use native.Mathlib.Omega.{arith}
use native.Mathlib.Nat.{zero-add}
use lib.ListN.{length, drop, get_or, get_or-append}
use lib.Seq.{get_or-take, get_or-drop, get_or-append-add}
use Rattle.field.specs.Text.{part}
use Rattle.source.specs.Address.{Address}
use Rattle.source.specs.Delivery.{Says}
use Rattle.source.specs.declared.DeliveryPoint.{DeliveryPoint}
use Rattle.shelf.specs.Stock.{Stock}
use Rattle.pack.specs.Names.{newest, inward_at, point_width}
use Rattle.pack.specs.Sectors.{sector_counts, counts_bytes}
use Rattle.pack.specs.Layout.{inward_digits, counts_of}
use Rattle.pack.specs.Opening.{digits_from}
use Rattle.build.specs.Plan.{Packed, rows_of, organisation_row}
use Rattle.build.specs.Within.{FieldsWithin}
use Rattle.build.specs.Bytes.{point_with, point_in, points_in, counts_in}
use Rattle.build.proofs.Counts.{digits_same}
use Rattle.build_exact.specs.Started.{AllSay, none_says, one_says}
use Rattle.build_exact.specs.Within.{AllWithin}
use Rattle.build_exact.proofs.Size.{part-long, point-long}

-- a byte of a part
part_at : (own : List ℕ) (at n i : ℕ) → i < n → get_or (part own at (at + n)) i 0 ≡ get_or own (at + i) 0
part_at own at n i h =
    get_or-take (at + n - at) (drop at own) i 0 (omega arith) ∙ get_or-drop at own i 0

module _ {own others : List ℕ} {p : DeliveryPoint} {a : Address} (s : Says own others p a) (w : FieldsWithin own p) where
  inward-first : get_or own (p.postcode + 4) 0 ≡ get_or a.inward 0 0
  inward-first =
      let to : p.postcode + 7 ≡ p.postcode + 4 + 3 = omega arith in
      let from : p.postcode + 4 ≡ p.postcode + 4 + 0 = omega arith in
      ap (λ k. get_or own k 0) from
      ∙ (sym (part_at own (p.postcode + 4) 3 0 (omega arith))
      ∙ (ap (λ k. get_or (part own (p.postcode + 4) k) 0 0) (sym to) ∙ ap (λ l. get_or l 0 0) s.inward))

  -- the byte at its place in a point, whatever follows
  point-digit : (offsets : List ℕ) (row : ℕ) (more : List ℕ)
      → get_or (point_with own p offsets row ++ more) inward_at 0 ≡ get_or a.inward 0 0
  unfolding point_with
  point-digit offsets row more =
      let postcode = part own p.postcode (p.postcode + 7) in
      let long : length postcode ≡ 7 = part-long own p.postcode 7 w.postcode in
      simp append_assoc
      (get_or-append postcode _ 0 inward_at (omega arith)
      ∙ (part_at own p.postcode 7 inward_at (omega arith) ∙ inward-first))

module _ (st : Stock) {own others : List ℕ} (starts : List ℕ) where
  digits_are : {ds : List Packed} {as' : List Address} (at : ℕ) → AllSay own others ds as' → AllWithin own ds
      → digits_from (points_in st own others starts at ds) (point_width newest) (length ds) 0 ≡ inward_digits as'
  digits_are at none_says w = refl
  digits_are {ds = d ∷ ds} at (one_says s rest) w =
      let point = point_in own starts d.point (rows_of st d.point) at in
      let next = at + length (organisation_row others d.point) in
      let more = points_in st own others starts next ds in
      ap₂ ◌∷◌ (point-digit s.says w.0 _ at more)
      (digits_same (point ++ more) more (length ds) (point_width newest) 0
      (λ i h.
      ap (λ k. get_or (point ++ more) (k + i) 0) (sym (point-long st starts at s.says w.0))
      ∙ (get_or-append-add point more i 0 ∙ ap (λ k. get_or more k 0) (sym (zero-add i))))
      ∙ digits_are next rest w.1)

  -- so the counts are those of the addresses
  pub counts-are : {ds : List Packed} {as' : List Address} (at : ℕ) → AllSay own others ds as' → AllWithin own ds
      → counts_of newest as' ≡ counts_in (points_in st own others starts at ds) (length ds)
  counts-are at said w = ap (λ l. counts_bytes (sector_counts l)) (sym (digits_are at said w))
