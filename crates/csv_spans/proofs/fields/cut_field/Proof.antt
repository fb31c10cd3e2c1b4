-- `csv_spans::fields::cut_field` meets its contract. Assumes nothing.
use borrow.Author.Rules.{rules}
use Prim.Native.Nat.{ℕ, suc, ◌+◌}
use mathlib.Core.Path.{◌≡◌, ap, ◌∙◌}
use mathlib.Core.List.{List}
use native.Mathlib.Omega.{arith}
use native.Mathlib.Numerals.{add-one}
use lib.ListN.{length}
use Rattle.field.specs.Text.{part, text_in}
use Rattle.field.proofs.Fronts.{text_in-bound, front-text}
use Rattle.csv_read.specs.Cut.{field_end}
use Rattle.csv_read.proofs.Cut.{end-within}
use Rattle.csv_spans.proofs.fields.cut_field.Statement.{statement}
use Rattle.csv_spans.proofs.fields.cut_field.Tie as tie

-- the text that was read
module _ (c : tie.After-read_text-text) where
  abbrev start : tie.Start
  start = c.before.before.before

  text : c.read_text-text.result.now ≡ text_in start.args.csv.now start.args.start (field_end start.args.csv.now start.args.start)
  text = c.read_text-text.ensures ∙ ap (text_in start.args.csv.now start.args.start) c.field_end-end.ensures

cast-t6 : tie.Need-overflow_cast-result
cast-t6 c =
    let s = start c in
    let a = s.args in
    omega (
      arith,
      ap length (text c),
      text_in-bound a.csv.now a.start (field_end a.csv.now a.start),
      s.requires.1,
    )

add-t8 : tie.Need-overflow_add-result
add-t8 c =
    let s = start c in
    let a = s.args in
    omega (arith, c.field_end-end.ensures, end-within a.csv.now a.start s.requires.0, s.well_formed.0.1)

returns : tie.Need-returns
returns c =
    let s = start c in
    let a = s.args in
    let e = field_end a.csv.now a.start in (
      ap (λ (t : List ℕ). part a.csv.now a.start (a.start + length t)) (text c)
          ∙ front-text a.csv.now a.start e,
      add-one c.field_end-end.result ∙ ap suc c.field_end-end.ensures,
    )

pub cut_field_spec : {M : Type 1} → statement M
cut_field_spec = tie.close (tie.spec (search rules) (search rules) cast-t6 add-t8 returns)
