-- What is written of a file, by its length and the answer of its check.
-- Assumes nothing.
use Prim.Native.Nat.{ℕ, ◌≤◌, ◌<◌}
use mathlib.Core.Path.{◌≡◌}
use mathlib.Core.List.{List, [], ◌∷◌, ◌++◌}
use borrow.Author.Tests.{lt-ltb, le-ltb}
use lib.ListN.{length}
use Rattle.refusal.specs.declared.Reason.{Reason}
use Rattle.file.specs.Check.{checked}
use Rattle.file.specs.Formats.{table_format, point_format}
use Rattle.item.specs.Lines.{refused_line}
use Rattle.report.specs.Report.{table_word, points_word, pair_text, long_text, points_text, report_of}
use Rattle.std.specs.Prelude.{Ok}
use Rattle.refusal.specs.Answer.{refusal}

module _ (table points : List ℕ) where
  module _ (t : ℕ) where
    pub points-long : 50_400 < length points → long_text points_word ≡ points_text table points t
    unfolding points_text
    points-long h = simp (lt-ltb 50_400 (length points) h)

    pub points-taken : length points ≤ 50_400 → (p : ℕ) → checked point_format points ≡ Ok p
        → pair_text table points t p ≡ points_text table points t
    unfolding points_text
    points-taken h p e = simp (le-ltb 50_400 (length points) h, e)

    pub points-refused : length points ≤ 50_400 → (file : ℕ) (why : Reason) → checked point_format points ≡ refusal file why
        → points_word ++ ((32 ∷ []) ++ refused_line why) ≡ points_text table points t
    unfolding points_text
    points-refused h file why e = simp (le-ltb 50_400 (length points) h, e)

  pub table-long : 50_700 < length table → long_text table_word ≡ report_of table points
  unfolding report_of
  table-long h = simp (lt-ltb 50_700 (length table) h)

  pub table_taken : length table ≤ 50_700 → (t : ℕ) → checked table_format table ≡ Ok t
      → points_text table points t ≡ report_of table points
  unfolding report_of
  table_taken h t e = simp (le-ltb 50_700 (length table) h, e)

  pub table-refused : length table ≤ 50_700 → (file : ℕ) (why : Reason) → checked table_format table ≡ refusal file why
      → table_word ++ ((32 ∷ []) ++ refused_line why) ≡ report_of table points
  unfolding report_of
  table-refused h file why e = simp (le-ltb 50_700 (length table) h, e)
