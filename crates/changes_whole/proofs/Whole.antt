-- What a builder has counted is the length of the pack, and what it writes is the pack.
-- Assumes nothing.
use Prim.Native.Nat.{ℕ, ◌+◌, ◌*◌, ◌-◌, ◌<◌}
use mathlib.Core.Path.{◌≡◌, sym, ap, subst, ◌∙◌}
use mathlib.Core.List.{List}
use native.Mathlib.Omega.{arith}
use lib.ListN.{length}
use Rattle.field_outward.proofs.Long.{outward-long}
use Rattle.source.specs.Address.{Address}
use Rattle.shelf.specs.Shelf.{last_of}
use Rattle.pack.specs.Names.{newest, point_width, trailer_width}
use Rattle.pack.specs.Layout.{pack_of}
use Rattle.pack.specs.Cutting.{first_bad, cut_with, cut_outcome}
use Rattle.changes_source.specs.Rows.{table_shelf, table_stock, table_lookup}
use Rattle.changes_source.proofs.Table.{table-good}
use Rattle.build.specs.Plan.{Packed, first_refused, organisation_rows, organisation_count}
use Rattle.build.specs.Rows.{all_bytes, all_count}
use Rattle.build.specs.Placed.{Placed}
use Rattle.build.specs.Bytes.{pack_in}
use Rattle.build_exact.specs.Started.{Started}
use Rattle.build_exact.proofs.Marked.{count_same}
use Rattle.build_exact.proofs.Pack.{pack-is}
use Rattle.build_exact.proofs.Refused.{refused-same}
use Rattle.build_exact.proofs.Size.{pack-size, rows_few, organisations-few}
use Rattle.changes_whole.specs.Marked.{Packable, Marked}
use Rattle.changes_whole.proofs.Rows.{table-small}
use Rattle.refusal.specs.Verdict.{Verdict}

module _ {table texts : List ℕ} {ds : List Packed} {as' : List Address} {code : List ℕ}
    (k : Packable table texts ds as' code) where
  abbrev pack : List ℕ
  pack = pack_of (table_lookup table) as' code

  -- the first refusal of the delivery points, or the pack
  pub cut_as : (out : List ℕ) (v : Verdict) → first_refused (table_stock table) ds ≡ v
      → cut_outcome (table_lookup table) as' code out ≡ cut_with v pack out
  unfolding cut_outcome
  cut_as out v e =
      let same : first_bad (table_lookup table) as' ≡ first_refused (table_stock table) ds = refused-same (table_stock table) k.said in
      ap (λ (v : Verdict). cut_with v pack out) (same ∙ e)

  -- once the rows are placed
  module _ {marks starts : List ℕ} (m : Marked table ds marks) (p : Placed (table_stock table) marks starts) where
    started : Started (table_stock table) texts texts ds as' m.fresh starts
    started =
        record {
          good = table-good table k.of_table;
          said = k.said;
          within = k.within;
          rising = k.rising;
          none_refused = m.none_refused;
          no_marks = m.no_marks;
          long = omega (arith, m.long, table-small table k.of_table);
          placed = subst (λ (l : List ℕ). Placed (table_stock table) l starts) m.marked p;
        }

    pub written : pack_in (table_stock table) texts texts starts ds code ≡ pack
    written = sym (pack-is started code)

    pub counted : length pack
        ≡ all_bytes (table_stock table) marks + length (organisation_rows texts ds) + point_width newest * length ds
        + trailer_width newest
    counted = ap length (sym written) ∙ pack-size code k.said k.within p (outward-long code k.of_code)

    -- no sum is too large
    pub rows-small : all_count (table_stock table) marks + organisation_count ds < 4_294_967_295
    rows-small =
        omega (
          arith,
          counted,
          k.small,
          table-small table k.of_table,
          rows_few marks (last_of table_shelf table - 1),
          organisations-few ds,
        )

    pub rows-counted : all_count (table_stock table) marks ≡ all_count (table_stock table) starts
    rows-counted = sym (count_same (table_stock table) marks starts p (last_of table_shelf table - 1) (omega arith))
