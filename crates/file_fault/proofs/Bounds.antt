-- No fault is told further than one byte behind the record's last field.
-- Assumes nothing.
use Prim.Native.Nat.{ℕ, zero, suc, ◌+◌, ◌≤◌}
use mathlib.Core.Bool.{Bool, true, false, cond, not, ◌&&◌}
use mathlib.Core.List.{List, [], ◌∷◌}
use native.Mathlib.Omega.{arith}
use lib.Dec.{eqb}
use lib.ListN.{length, get_or}
use Rattle.field.specs.Test.{elem, only}
use Rattle.field.specs.Digits.{digits_fault}
use Rattle.field.specs.Text.{blank, text_fault, filled_fault, part}
use Rattle.field.proofs.Texts.{part-bound, text-bound, filled-bound}
use Rattle.field_outward.proofs.Codes.{outward-bound, inward-bound, suffix-bound}
use Rattle.file_fault.specs.Fields.{Field, field, place, first, fault_in, one_of, key_fault}
use Rattle.file_fault.specs.Table.{table_head, double_fault, locality_fields, table_rest, table_fault}
use Rattle.file_fault.specs.Point.{point_head, view_fields, point_rest, point_fault}
use Rattle.file_fault.proofs.Laws.{digits-bound}

-- a test that names no byte further than one behind its field
abbrev pub Near : (List ℕ → ℕ) → Type 0
Near test = (s : List ℕ) → test s ≤ 1 + length s

abbrev pub AllNear : List Field → Type 0
AllNear [] = Unit {0}
AllNear (f ∷ fs) = Near f.test × AllNear fs

-- how many bytes fields take
abbrev pub widths : List Field → ℕ
widths [] = 0
widths (f ∷ fs) = f.width + widths fs

first-bound : (a b n : ℕ) → a ≤ n → b ≤ n → first a b ≤ n
first-bound zero b n h k = k
first-bound (suc a) b n h k = h

place-bound : (start fault n : ℕ) → start + fault ≤ n → place start fault ≤ n
place-bound start zero n h = omega arith
place-bound start (suc fault) n h = h

pub fields-bound : (start : ℕ) (fs : List Field) (rec : List ℕ) → AllNear fs → fault_in start fs rec ≤ start + widths fs + 1
fields-bound start [] rec near = omega arith
fields-bound start (f ∷ fs) rec near =
    let here = part rec start (start + f.width) in
    first-bound (place start (f.test here)) (fault_in (start + f.width) fs rec) (start + widths (f ∷ fs) + 1)
    (place-bound start (f.test here) (start + widths (f ∷ fs) + 1)
    (omega (arith, near.0 here, part-bound rec start (start + f.width))))
    (omega (arith, fields-bound (start + f.width) fs rec near.1))

pub one-of-near : (bytes : List ℕ) → Near (one_of bytes)
unfolding one_of
one-of-near bytes s = by-test (elem (get_or s 0 0) bytes)
  where
    by-test : (t : Bool) → cond t 0 1 ≤ 1 + length s
    by-test true = omega arith
    by-test false = omega arith

pub key-near : Near key_fault
unfolding key_fault
key-near s = by-test (only 48 s)
  where
    by-test : (t : Bool) → cond t 1 (digits_fault s) ≤ 1 + length s
    by-test true = omega arith
    by-test false = digits-bound s

pub double-near : (dependent : List ℕ) → Near (double_fault dependent)
unfolding double_fault
double-near dependent s = by-test (blank dependent && not (blank s))
  where
    by-test : (t : Bool) → cond t 1 (text_fault s) ≤ 1 + length s
    by-test true = omega arith
    by-test false = text-bound s

-- so each record's first fault stands at one of its bytes, or right behind them
module _ (rec : List ℕ) where
  one-text-bound : (w : ℕ) → w ≤ 60 → fault_in 24 (field w filled_fault ∷ []) rec ≤ 170
  one-text-bound w h = omega (arith, fields-bound 24 (field w filled_fault ∷ []) rec (filled-bound, tt))

  table-rest-bound : (a b c d e : Bool)
      → fault_in 24
      (cond a (locality_fields rec)
      (cond b (field 60 filled_fault ∷ [])
      (cond c (field 20 filled_fault ∷ [])
      (cond d (field 50 filled_fault ∷ [])
      (cond e (field 30 filled_fault ∷ []) [])))))
      rec
      ≤ 170
  table-rest-bound true b c d e =
      omega (
        arith,
        fields-bound 24 (locality_fields rec) rec
            ((λ s. omega arith), (filled-bound, (text-bound, (double-near (part rec 99 134), tt)))),
      )
  table-rest-bound false true c d e = one-text-bound 60 (omega arith)
  table-rest-bound false false true d e = one-text-bound 20 (omega arith)
  table-rest-bound false false false true e = one-text-bound 50 (omega arith)
  table-rest-bound false false false false true = one-text-bound 30 (omega arith)
  table-rest-bound false false false false false = omega arith

  pub table-bound : table_fault rec ≤ 170
  unfolding table_fault
  table-bound =
      let kind = get_or rec 0 0 in
      first-bound (fault_in 0 table_head rec) (fault_in 24 (table_rest kind rec) rec) 170
      (omega (arith, fields-bound 0 table_head rec (one-of-near _, (key-near, (digits-bound, (digits-bound, (one-of-near _, tt)))))))
      (table-rest-bound (eqb kind 49) (eqb kind 50) (eqb kind 51) (eqb kind 52) (eqb kind 53))

  point-rest-bound : (a b c : Bool)
      → fault_in 42
      (cond a view_fields
      (cond b (field 60 filled_fault ∷ field 60 text_fault ∷ [])
      (cond c (field 60 text_fault ∷ field 60 text_fault ∷ []) [])))
      rec
      ≤ 170
  point-rest-bound true b c =
      omega (
        arith,
        fields-bound 42 view_fields rec (digits-bound, (digits-bound, (digits-bound, (digits-bound, (digits-bound, (digits-bound, (digits-bound, (digits-bound, (digits-bound, (one-of-near _, (text-bound, (one-of-near _, (digits-bound, tt))))))))))))),
      )
  point-rest-bound false true c =
      omega (arith, fields-bound 42 (field 60 filled_fault ∷ field 60 text_fault ∷ []) rec (filled-bound, (text-bound, tt)))
  point-rest-bound false false true =
      omega (arith, fields-bound 42 (field 60 text_fault ∷ field 60 text_fault ∷ []) rec (text-bound, (text-bound, tt)))
  point-rest-bound false false false = omega arith

  pub point-bound : point_fault rec ≤ 170
  unfolding point_fault
  point-bound =
      let kind = get_or rec 41 0 in
      first-bound (fault_in 0 point_head rec) (fault_in 42 (point_rest kind) rec) 170
      (omega (
        arith,
        fields-bound 0 point_head rec (digits-bound, (digits-bound, (outward-bound, (inward-bound, (suffix-bound, (one-of-near _, (digits-bound, (digits-bound, (one-of-near _, (one-of-near _, tt)))))))))),
      ))
      (point-rest-bound (eqb kind 49) (eqb kind 50) (eqb kind 51))
