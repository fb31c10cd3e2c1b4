-- The pack that a builder writes is the pack of the addresses that its delivery points say.
-- Assumes nothing.
use Prim.Native.Nat.{ℕ, suc, ◌+◌, ◌-◌, ◌<◌}
use mathlib.Core.Path.{◌≡◌, refl, ap, ap₂, ◌∙◌}
use mathlib.Core.List.{List, ◌++◌, append_assoc}
use native.Mathlib.Omega.{arith}
use lib.ListN.{length, length-append}
use Rattle.source.specs.Address.{Address, ref}
use Rattle.shelf.specs.Stock.{Stock, look_in}
use Rattle.pack.specs.Layout.{Entry, used_by, table_entries, organisation_entries, entries_of, entries_bytes, offset_of, points_bytes, trailer_bytes, pack_bytes, pack_of}
use Rattle.pack.specs.Names.{newest}
use Rattle.build.specs.Plan.{Packed, organisation_rows, organisation_count}
use Rattle.build.specs.Rows.{count_to}
use Rattle.build.specs.Bytes.{used_rows, points_in, pack_in}
use Rattle.build_exact.specs.Started.{AllSay, none_says, one_says, Started}
use Rattle.build_exact.proofs.Rows.{rows-bytes, rows-count, no-table-row, ref-offset}
use Rattle.build_exact.proofs.Organisations.{entries-join, organisations-bytes, organisations-count}
use Rattle.build_exact.proofs.Points.{points-are}
use Rattle.build_exact.proofs.Digits.{counts-are}

-- a pack from what it has, and that the same makes the same pack
abbrev laid : List ℕ → List ℕ → ℕ → ℕ → ℕ → List ℕ → List ℕ → List ℕ
laid rows points count start size counts code = rows ++ (points ++ trailer_bytes newest count start size code counts)

laid_same : {rows rows' points points' counts counts' : List ℕ} {count count' start start' size size' : ℕ} (code : List ℕ)
    → rows ≡ rows'
    → points ≡ points'
    → count ≡ count'
    → start ≡ start'
    → size ≡ size'
    → counts ≡ counts'
    → laid rows points count start size counts code ≡ laid rows' points' count' start' size' counts' code
laid_same code e0 e1 e2 e3 e4 e5 = cc

said-length : {own others : List ℕ} {ds : List Packed} {as' : List Address} → AllSay own others ds as'
    → length as' ≡ length ds
said-length none_says = refl
said-length (one_says s rest) = ap suc (said-length rest)

module _ {st : Stock} {own others : List ℕ} {ds : List Packed} {as' : List Address} {fresh starts : List ℕ}
    (s : Started st own others ds as' fresh starts) where
  abbrev used : List Entry
  used = table_entries (look_in st) (used_by as')

  abbrev es : List Entry
  es = entries_of (look_in st) as'

  all-rows : entries_bytes es ≡ used_rows st starts ++ organisation_rows others ds
  unfolding entries_of
  all-rows =
      entries-join used (organisation_entries as')
      ∙ ap₂ ◌++◌ (rows-bytes s) (organisations-bytes 0 s.said s.rising)

  start_is : length (entries_bytes es) ≡ length (used_rows st starts) + length (organisation_rows others ds)
  start_is = ap length all-rows ∙ length-append (used_rows st starts) (organisation_rows others ds)

  count-is : length es ≡ count_to starts (st.last - 1) + organisation_count ds
  unfolding entries_of
  count-is =
      length-append used (organisation_entries as') ∙ ap₂ ◌+◌ (rows-count s) (organisations-count s.said)

  -- the rows of organisations stand behind those of the tables
  standing : (r : ℕ) → ref 6 0 < r
      → offset_of es r ≡ length (used_rows st starts) + offset_of (organisation_entries as') r
  unfolding entries_of
  standing r h = no-table-row s r (omega arith) (organisation_entries as')

  all-points : points_bytes newest es as' ≡ points_in st own others starts (length (used_rows st starts)) ds
  unfolding entries_of
  all-points =
      points-are st starts es (length (used_rows st starts)) 0 s.said s.rising standing
      (ref-offset s (organisation_entries as'))

  pub pack-is : (code : List ℕ) → pack_of (look_in st) as' code ≡ pack_in st own others starts ds code
  unfolding pack_of pack_bytes pack_in
  pack-is code =
      laid_same code all-rows all-points count-is start_is (said-length s.said)
      (counts-are st starts (length (used_rows st starts)) s.said s.within)
      ∙ append_assoc (used_rows st starts) (organisation_rows others ds) _
