-- The rows that a builder writes are those of the pack, and the offsets of what the addresses refer to lead to them.
-- Assumes nothing.
use Prim.Native.Nat.{ℕ, zero, suc, ◌+◌, ◌-◌, ◌≤◌, ◌<◌}
use mathlib.Core.Path.{◌≡◌, sym, ap, subst, ◌∙◌}
use mathlib.Core.Bool.{true, ◌&&◌}
use mathlib.Core.List.{List, ◌++◌}
use native.Mathlib.Omega.{arith}
use borrow.Author.Tests.{eq-eqb, eqb-true}
use lib.Dec.{eqb}
use lib.ListN.{length, get_or}
use Rattle.field.specs.Test.{elem}
use Rattle.field.proofs.Tests.{and_left, and_right}
use Rattle.source.specs.Address.{Address}
use Rattle.shelf.specs.Stock.{Stock, look_in}
use Rattle.pack.specs.Layout.{Entry, used_by, table_entries, entries_bytes, offset_of}
use Rattle.pack_carries.specs.Used.{refers}
use Rattle.pack_carries.proofs.Used.{used-exactly, used-rises}
use Rattle.pack_carries.proofs.Rows.{and_both}
use Rattle.build.specs.Plan.{Packed, mark_all}
use Rattle.build.specs.Rows.{is_marked, bytes_to, count_to}
use Rattle.build.specs.Bytes.{used_rows}
use Rattle.build_exact.specs.Started.{Started}
use Rattle.build_exact.proofs.Refused.{refused-same}
use Rattle.build_exact.proofs.Orders.{rises-same}
use Rattle.build_exact.proofs.Keys.{Finds, referred-finds, refers-to}
use Rattle.build_exact.proofs.Marked.{marked-exactly, start-marked, start_is}
use Rattle.build_exact.proofs.Offsets.{refs_from, InForce, refs-elem, refs-standing, refs-count, refs-rises, entries-rows, offset-from, offset-behind}

module _ {st : Stock} {own others : List ℕ} {ds : List Packed} {as' : List Address} {fresh starts : List ℕ}
    (s : Started st own others ds as' fresh starts) where
  -- what the rows that have a start stand for
  abbrev refs : List ℕ
  refs = refs_from st starts (st.last - 1) 1

  -- a row has a start where it is in force and an address refers to what it stands for
  started : (i : ℕ) → 1 ≤ i → i < st.last
      → is_marked starts i ≡ eqb (st.row (st.stands_for i)) i && refers (st.stands_for i) as'
  started i low high =
      start-marked st (mark_all st ds fresh) starts s.placed i low high
      ∙ (marked-exactly i low st ds fresh (omega (arith, s.long)) (s.no_marks i)
      ∙ refers-to st s.good i low s.said)

  in-force : (i : ℕ) → 1 ≤ i → i < st.last → is_marked starts i ≡ true → InForce st i
  in-force i low high e =
      eqb-true (st.row (st.stands_for i)) i
      (and_left (eqb (st.row (st.stands_for i)) i) (refers (st.stands_for i) as') (sym (started i low high) ∙ e))

  finds : (r : ℕ) → refers r as' ≡ true → Finds st r
  finds r e = referred-finds st s.good r as' (refused-same st s.said ∙ s.none_refused) e

  -- the row that an address refers to has a start
  found-started : (r : ℕ) → refers r as' ≡ true → is_marked starts (st.row r) ≡ true
  found-started r e =
      let f = finds r e in
      started (st.row r) f.low f.high
      ∙ and_both (eq-eqb (st.row (st.stands_for (st.row r))) (st.row r) (ap st.row f.is))
      (ap (λ n. refers n as') f.is ∙ e)

  used-in : (r : ℕ) → elem r (used_by as') ≡ true → elem r refs ≡ true
  used-in r e =
      let h = sym (used-exactly r as') ∙ e in
      let f = finds r h in
      subst (λ n. elem n refs ≡ true) f.is
      (refs-elem st starts (st.last - 1) 1 (st.row r) f.low (omega (arith, f.low, f.high)) (found-started r h))

  in-used : (r : ℕ) → elem r refs ≡ true → elem r (used_by as') ≡ true
  in-used r e =
      let m = refs-standing st starts (st.last - 1) 1 r (omega arith) (omega arith) e in
      let i = m.row in
      subst (λ n. elem n (used_by as') ≡ true) m.is
      (used-exactly (st.stands_for i) as'
      ∙ and_right (eqb (st.row (st.stands_for i)) i) (refers (st.stands_for i) as')
      (sym (started i m.low m.high) ∙ m.marked))

  -- "the table rows used by a packed view, by type then key, each once" are the marked ones in their order
  used-refs : used_by as' ≡ refs_from st starts (st.last - 1) 1
  used-refs =
      rises-same 0 0 (used_by as') refs (used-rises as')
      (refs-rises st starts s.good in-force (st.last - 1) 1 0 (omega arith) (omega arith)
      (λ j h l. s.good.low j h (omega arith)))
      used-in in-used

  -- the rows
  pub rows-bytes : entries_bytes (table_entries (look_in st) (used_by as')) ≡ used_rows st starts
  rows-bytes =
      ap (λ rs. entries_bytes (table_entries (look_in st) rs)) used-refs
      ∙ entries-rows st starts s.good in-force (st.last - 1) 1 (omega arith) (omega arith)

  pub rows-count : length (table_entries (look_in st) (used_by as')) ≡ count_to starts (st.last - 1)
  rows-count =
      let from : 0 + (st.last - 1) ≡ st.last - 1 = omega arith in
      omega (
        arith,
        ap (λ rs. length (table_entries (look_in st) rs)) used-refs,
        refs-count st starts (look_in st) (st.last - 1) 0,
        ap (count_to starts) from,
      )

  -- no row of a table stands for an organisation
  pub no-table-row : (r : ℕ) → 600_000_000 ≤ r → (es : List Entry)
      → offset_of (table_entries (look_in st) (used_by as') ++ es) r ≡ length (used_rows st starts) + offset_of es r
  no-table-row r h es =
      offset-behind (look_in st) es r (used_by as')
      (λ e.
      let m = refs-standing st starts (st.last - 1) 1 r (omega arith) (omega arith) (used-in r e) in
      omega (arith, s.good.high m.row m.low m.high, m.is))
      ∙ ap (λ (rows : List ℕ). length rows + offset_of es r) rows-bytes

  row-offset : (es : List Entry) (i : ℕ) → 1 ≤ i → i < st.last → is_marked starts i ≡ true
      → offset_of (table_entries (look_in st) (used_by as') ++ es) (st.stands_for i) ≡ get_or starts i 0 - 1
  row-offset es zero low high e = absurd (omega arith)
  row-offset es (suc m) low high e =
      let back : suc m - 1 ≡ m = omega arith in
      let o = offset-from st starts s.good in-force m high e es (st.last - 1) 0 (omega arith) (omega arith) in
      ap (λ rs. offset_of (table_entries (look_in st) rs ++ es) (st.stands_for (suc m))) used-refs
      ∙ omega (arith, o, start_is st (mark_all st ds fresh) starts s.placed (suc m) low high e, ap (bytes_to st starts) back)

  -- where the row stands that an address refers to
  pub ref-offset : (es : List Entry) (r : ℕ) → refers r as' ≡ true
      → offset_of (table_entries (look_in st) (used_by as') ++ es) r ≡ get_or starts (st.row r) 0 - 1
  ref-offset es r e =
      let f = finds r e in
      ap (offset_of (table_entries (look_in st) (used_by as') ++ es)) (sym f.is)
      ∙ row-offset es (st.row r) f.low f.high (found-started r e)
