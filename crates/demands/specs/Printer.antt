-- "printing is proved once, over the address elements": a pair of files, a set and a pack have one printer.
-- Assumes nothing.
use Rattle.std.specs.Prelude.{ℕ, ◌≤◌, ◌≡◌, List}
use Rattle.std.proofs.Math.Option.{some}
use Rattle.field_outward.specs.Outward.{outward_fault}
use Rattle.refusal.specs.Outcome.{Outcome}
use Rattle.source.specs.Address.{Address, Elements}
use Rattle.source.specs.Resolve.{elements_of}
use Rattle.label.specs.Label.{label_of, room_outcome}
use Rattle.ask.specs.Source.{in_code}
use Rattle.ask.specs.Labels.{kth}
use Rattle.csv_paf.specs.File.{fields_of, rows_of, csv_judged}
use Rattle.csv_paf.specs.Ask.{row_elements, forbidden_in, kth_of}
use Rattle.pack.specs.Opening.{opened}
use Rattle.pack.specs.Points.{elements_at, point_place}
use Rattle.call.specs.Call.{Lent, source_of, Call, of_label, of_code_label, of_pack_label, of_csv_label, Saying, writing}
use Rattle.demands.specs.Two.{Printed}
use Rattle.std.specs.Prelude.{Ok}

-- the elements that a call for a label prints: of a view, of the k-th live view in a code, of a point of a pack, of a row of CSV PAF
pub data Prints : Call → Elements → Type 0 where
  a_view : {lent : Lent} {view n : ℕ} {e : Elements} (a : Address) → (source_of lent).judged ≡ Ok n
      → kth (source_of lent).views view ≡ some a
      → Printed (source_of lent).look a
      → elements_of (source_of lent).look a ≡ e
      → Prints (of_label lent view) e
  a_view_in_code : {lent : Lent} {code : List ℕ} {k n : ℕ} {e : Elements} (a : Address) → (source_of lent).judged ≡ Ok n
      → outward_fault code ≡ 0
      → kth (in_code code (source_of lent).live) k ≡ some a
      → Printed (source_of lent).look a
      → elements_of (source_of lent).look a ≡ e
      → Prints (of_code_label lent code k) e
  a_point : {pack : List ℕ} {k n : ℕ} {e : Elements} → opened pack ≡ Ok n → 1 ≤ k → k ≤ n
      → elements_at pack (point_place pack k) ≡ e
      → Prints (of_pack_label pack k) e
  a_row : {csv : List ℕ} {row n : ℕ} {e : Elements} (bytes : List ℕ) → csv_judged csv ≡ Ok n
      → kth_of (rows_of csv) row ≡ some bytes
      → forbidden_in (row_elements (fields_of bytes)) ≡ 0
      → row_elements (fields_of bytes) ≡ e
      → Prints (of_csv_label csv row) e

-- the one printer: document 01's label of these elements, where the buffer has room for it
abbrev pub printer : Elements → (out : List ℕ) → Outcome Saying
printer e out = writing (room_outcome (label_of e) out)
