-- How long a pack may be: every row and every point is short.
-- Assumes nothing.
use Prim.Native.Nat.{ℕ, suc, ◌+◌, ◌-◌, ◌*◌, ◌≤◌, ◌<◌}
use mathlib.Core.Path.{◌≡◌, refl, ap}
use mathlib.Core.Bool.{Bool, true, false, cond}
use mathlib.Core.List.{List, [], ◌∷◌, ◌++◌}
use mathlib.Core.Option.{Option, none, some}
use native.Mathlib.Omega.{arith}
use lib.Dec.{eqb, ltb}
use lib.ListN.{length, length-append}
use Rattle.field.specs.Text.{text_in}
use Rattle.field.proofs.Fronts.{text_in-bound}
use Rattle.field_outward.specs.Outward.{outward_fault}
use Rattle.source.specs.Address.{Organisation, none_needed, named, lacking, Address, present, Asked, keys_of, ref, kind_of, key_of}
use Rattle.source.specs.Resolve.{lacks_organisation}
use Rattle.source.specs.Same.{AllOf}
use Rattle.shelf.specs.declared.Shelf.{Shelf}
use Rattle.shelf.specs.Shelf.{texts_in, record_of, ref_at, texts_at}
use Rattle.shelf.specs.Stock.{Stock, stock_of, ahead, joined, look_in}
use Rattle.pack.specs.Names.{newest, point_width, trailer_width}
use Rattle.pack.specs.Numbers.{bytes_of}
use Rattle.pack.specs.Layout.{Entry, insert, insert_keys, used_by, texts_or, table_entries, organisation_entry, organisation_entries, entries_of, texts_bytes, entries_bytes, refs_bytes, refs_of, postcode_of, plain_of, point_bytes, points_bytes, inward_digits, counts_of, trailer_bytes, pack_bytes, pack_of}
use Rattle.pack.specs.Opening.{slot}
use Rattle.pack.specs.Sound.{OrganisationSound}
use Rattle.pack.proofs.Sectors.{counts-wide}
use Rattle.field_outward.proofs.Long.{outward-long, inward-long, suffix-long}
use Rattle.pack_sound.proofs.Texts.{good-text}
use Rattle.pack_sound.proofs.Fields.{FieldsSound}

-- ---- rows that are used

-- "each once": a key adds at most one
insert-bound : (r : ℕ) (rs : List ℕ) → length (insert r rs) ≤ suc (length rs)
insert-bound r [] = omega arith
insert-bound r (x ∷ xs) = by_tests (ltb r x) (eqb r x) (insert-bound r xs)
  where
    by_tests : (t u : Bool) → length (insert r xs) ≤ suc (length xs)
        → length (cond t (r ∷ x ∷ xs) (cond u (x ∷ xs) (x ∷ insert r xs))) ≤ suc (suc (length xs))
    by_tests true u h = omega arith
    by_tests false true h = omega arith
    by_tests false false h = omega arith

keys-bound : (ks : List Asked) (rs : List ℕ) → length (insert_keys ks rs) ≤ length ks + length rs
keys-bound [] rs = omega arith
keys-bound (k ∷ ks) rs = by-test (present k.key) (keys-bound ks rs)
  where
    by-test : (t : Bool) → length (insert_keys ks rs) ≤ length ks + length rs
        → length (cond t (insert (ref k.kind k.key) (insert_keys ks rs)) (insert_keys ks rs))
        ≤ suc (length ks) + length rs
    by-test true h = omega (arith, insert-bound (ref k.kind k.key) (insert_keys ks rs))
    by-test false h = omega arith

used-bound : (as' : List Address) → length (used_by as') ≤ 7 * length as'
used-bound [] = omega arith
used-bound (a ∷ more) = omega (arith, keys-bound (keys_of a) (used_by more), used-bound more)

-- ---- the texts of a row

-- a text more
text-more : (t : List ℕ) (ts : List (List ℕ)) → length (texts_bytes (t ∷ ts)) ≡ suc (length t + length (texts_bytes ts))
text-more t ts = ap suc (length-append t (texts_bytes ts))

-- of any shelf
texts-bound : (s : Shelf) (kind : ℕ) (rec : List ℕ) → length (texts_bytes (texts_in s kind rec)) ≤ 103
texts-bound s kind rec = by_tests (eqb kind 1) (eqb kind 2) (eqb kind 3) (eqb kind 4)
  where
    l : ℕ
    l = s.locality

    town : List ℕ
    town = text_in rec l (l + 30)

    dependent : List ℕ
    dependent = text_in rec (l + 30) (l + 65)

    double : List ℕ
    double = text_in rec (l + 65) (l + 100)

    locality : length (texts_bytes (town ∷ dependent ∷ double ∷ [])) ≤ 103
    locality =
        omega (
          arith,
          text-more town (dependent ∷ double ∷ []),
          text-more dependent (double ∷ []),
          text-more double [],
          text_in-bound rec l (l + 30),
          text_in-bound rec (l + 30) (l + 65),
          text_in-bound rec (l + 65) (l + 100),
        )

    one-text : (w : ℕ) → w ≤ 60 → length (texts_bytes (text_in rec s.text (s.text + w) ∷ [])) ≤ 103
    one-text w h =
        omega (arith, text-more (text_in rec s.text (s.text + w)) [], text_in-bound rec s.text (s.text + w))

    by_tests : (t u v w : Bool)
        → length
        (texts_bytes
        (cond t (town ∷ dependent ∷ double ∷ [])
        (text_in rec s.text (s.text + cond u 60 (cond v 20 (cond w 50 30))) ∷ [])))
        ≤ 103
    by_tests true u v w = locality
    by_tests false true v w = one-text 60 (omega arith)
    by_tests false false true w = one-text 20 (omega arith)
    by_tests false false false true = one-text 50 (omega arith)
    by_tests false false false false = one-text 30 (omega arith)

-- a stock whose rows are all that short: that of a shelf is, and two of them as one are
abbrev pub ShortRows : Stock → Type 0
ShortRows st = (i : ℕ) → length (texts_bytes (st.texts i)) ≤ 103

pub shelf-short : (s : Shelf) (file : List ℕ) → ShortRows (stock_of s file)
unfolding texts_at
shelf-short s file i = texts-bound s (kind_of (ref_at s file i)) (record_of s file i)

pub joined-short : (a b : Stock) → ShortRows a → ShortRows b → ShortRows (joined a b)
joined-short a b first second i = by-test (ltb i a.last)
  where
    by-test : (t : Bool) → length (texts_bytes (cond t (a.texts i) (b.texts (i - ahead a)))) ≤ 103
    by-test true = first i
    by-test false = second (i - ahead a)

module _ (st : Stock) (short : ShortRows st) where
  look-bound : (kind key : ℕ) → length (texts_bytes (texts_or (look_in st kind key))) ≤ 103
  unfolding look_in
  look-bound kind key = by-test (eqb (st.row (ref kind key)) 0) (st.texts (st.row (ref kind key))) (short _)
    where
      by-test : (t : Bool) (ts : List (List ℕ)) → length (texts_bytes ts) ≤ 103
          → length (texts_bytes (texts_or (cond t none (some ts)))) ≤ 103
      by-test true ts h = omega arith
      by-test false ts h = h

  table-bound : (rs : List ℕ) → length (entries_bytes (table_entries (look_in st) rs)) ≤ 104 * length rs
  table-bound [] = omega arith
  table-bound (r ∷ rs) =
      let here = texts_bytes (texts_or (look_in st (kind_of r) (key_of r))) in
      omega (
        arith,
        look-bound (kind_of r) (key_of r),
        length-append here (entries_bytes (table_entries (look_in st) rs)),
        table-bound rs,
      )

-- ---- organisations

-- the rows of two lists, one behind the other
entries-append : (es fs : List Entry)
    → length (entries_bytes (es ++ fs)) ≡ length (entries_bytes es) + length (entries_bytes fs)
entries-append [] fs = omega arith
entries-append (e ∷ es) fs =
    let here = texts_bytes e.texts in
    omega (
      arith,
      length-append here (entries_bytes (es ++ fs)),
      length-append here (entries_bytes es),
      entries-append es fs,
    )

organisation-bound : (a : Address) → FieldsSound a
    → length (entries_bytes (organisation_entry a.view a.organisation)) ≤ 123
organisation-bound a f = by-case a.organisation f.organisation
  where
    by-case : (o : Organisation)
        → (lacks_organisation o ≡ false → OrganisationSound a.postcode_type a.organisation_key o)
        → length (entries_bytes (organisation_entry a.view o)) ≤ 123
    by-case none_needed h = omega arith
    by-case (named name department) h =
        let both = texts_bytes (name ∷ department ∷ []) in
        let good = h refl in
        omega (
          arith,
          length-append both [],
          text-more name (department ∷ []),
          text-more department [],
          (good-text (slot 60 true) name good.0).0,
          (good-text (slot 60 true) department good.1.0).0,
        )
    by-case lacking h = omega arith

organisations-bound : (as' : List Address) → AllOf FieldsSound as'
    → length (entries_bytes (organisation_entries as')) ≤ 123 * length as'
organisations-bound [] f = omega arith
organisations-bound (a ∷ more) f =
    omega (
      arith,
      entries-append (organisation_entry a.view a.organisation) (organisation_entries more),
      organisation-bound a f.0,
      organisations-bound more f.1,
    )

-- ---- points

refs-length : (es : List Entry) (rs : List (Option ℕ)) → length (refs_bytes es rs) ≡ 4 * length rs
refs-length es [] = refl
refs-length es (none ∷ rs) = omega (arith, refs-length es rs)
refs-length es (some r ∷ rs) = omega (arith, refs-length es rs)

-- "Each point grows from 57 to 59 bytes"
point-bound : (es : List Entry) (a : Address) → FieldsSound a → length (point_bytes newest es a) ≤ point_width newest
point-bound es a f =
    omega (
      arith,
      length-append (postcode_of a) (a.suffix ++ (plain_of a ++ refs_bytes es (refs_of a))),
      length-append a.outward a.inward,
      length-append a.suffix (plain_of a ++ refs_bytes es (refs_of a)),
      length-append (plain_of a) (refs_bytes es (refs_of a)),
      refs-length es (refs_of a),
      outward-long a.outward f.outward,
      inward-long a.inward f.inward,
      suffix-long a.suffix f.suffix,
      f.box_long,
    )

points-bound : (es : List Entry) (as' : List Address) → AllOf FieldsSound as'
    → length (points_bytes newest es as') ≤ point_width newest * length as'
points-bound es [] f = omega arith
points-bound es (a ∷ more) f =
    omega (
      arith,
      length-append (point_bytes newest es a) (points_bytes newest es more),
      point-bound es a f.0,
      points-bound es more f.1,
    )

-- ---- the pack

-- "The trailer is then 61 bytes", of which the outward code has 4 and the counts 40
trailer-length : (edition rows start points : ℕ) (code counts : List ℕ)
    → length (trailer_bytes edition rows start points code counts) ≡ 17 + length code + length counts
trailer-length edition rows start points code counts =
    omega (
      arith,
      length-append code
          (bytes_of 4 (start + point_width edition * points + trailer_width edition) ++ (counts ++ (edition ∷ []))),
      length-append counts (edition ∷ []),
    )

module _ (st : Stock) (short : ShortRows st) (as' : List Address) (fields : AllOf FieldsSound as') where
  rows_bound : length (entries_bytes (entries_of (look_in st) as')) ≤ 851 * length as'
  unfolding entries_of
  rows_bound =
      omega (
        arith,
        entries-append (table_entries (look_in st) (used_by as')) (organisation_entries as'),
        table-bound st short (used_by as'),
        used-bound as',
        organisations-bound as' fields,
      )

  pack-bound : (code : List ℕ) → length (pack_of (look_in st) as' code) ≤ (851 + point_width newest) * length as' + 57 + length code
  unfolding pack_of pack_bytes
  pack-bound code =
      let es = entries_of (look_in st) as' in
      let start = length (entries_bytes es) in
      let counts = counts_of newest as' in
      let behind = trailer_bytes newest (length es) start (length as') code counts in
      omega (
        arith,
        length-append (entries_bytes es) (points_bytes newest es as' ++ behind),
        length-append (points_bytes newest es as') behind,
        trailer-length newest (length es) start (length as') code counts,
        counts-wide (inward_digits as'),
        rows_bound,
        points-bound es as' fields,
      )

  -- of a million addresses, an offset is told from an absent one
  pub pack-small : (code : List ℕ) → outward_fault code ≡ 0 → length as' ≤ 1_000_000
      → length (pack_of (look_in st) as' code) < 4_294_967_295
  pack-small code well_formed few = omega (arith, pack-bound code, outward-long code well_formed)
