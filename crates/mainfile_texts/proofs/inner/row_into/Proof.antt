-- `mainfile_texts::inner::row_into` meets its contract. Assumes nothing.
use borrow.Author.Rules.{rules}
use Prim.Native.Nat.{ℕ, ◌+◌}
use mathlib.Core.Path.{◌≡◌, sym, ap, ◌∙◌}
use mathlib.Core.List.{List}
use native.Mathlib.Omega.{arith}
use borrow.Author.Tests.{eq-eqb, ne_eqb}
use Rattle.field.specs.Text.{text_in}
use Rattle.field.proofs.Fronts.{text_in-bound}
use Rattle.shelf.specs.declared.Shelf.{Shelf}
use Rattle.shelf.specs.Shelf.{record_of}
use Rattle.mainfile_source.proofs.Shelves.{kind_fits}
use Rattle.mainfile_texts.proofs.Kept.{kept-as}
use Rattle.mainfile_texts.proofs.inner.row_into.Statement.{statement}
use Rattle.mainfile_texts.proofs.inner.row_into.Tie as tie

returns : tie.Need-returns-then-row-eq0
returns c =
    let start = c in
    kept-as start.args.width c.text_into.ensures (simp (eq-eqb _ 0 c.if-row-eq0.true)) (omega arith)

record-of-requires : tie.Need-record_of-rec-requires
record-of-requires c κs = rw c.row_shelf.ensures (kind_fits c.args.kind)

text-into-requires-2 : tie.Need-text_into-requires-2
text-into-requires-2 c κs =
    let start = c in
    let a = start.args in
    let short = text_in-bound c.record_of-rec.result.now a.from (a.from + a.width) in
    rw c.read_text.ensures (omega (arith, start.requires.0), omega (arith, start.requires.1))

returns-2 : tie.Need-returns
returns-2 c =
    let start = c in
    let a = start.args in
    let read = c in
    let kept = read in
    let short = text_in-bound kept.record_of-rec.result.now a.from (a.from + a.width) in
    let is =
    read.read_text.ensures
    ∙ ap (λ (rec : List ℕ). text_in rec a.from (a.from + a.width))
    (kept.record_of-rec.ensures
    ∙ ap (λ (s : Shelf). record_of s a.file.now a.row) kept.row_shelf.ensures) in
    kept-as a.width c.text_into-2.ensures
    (simp (ne_eqb a.row 0 kept.if-row-eq0.false) is)
    (rw read.read_text.ensures (omega arith))

pub row_into_spec : {M : Type 1} → statement M
row_into_spec = tie.close (tie.spec (λ c. search rules) (λ c κs. search rules) (λ c. search rules) returns (λ c κs. search rules) record-of-requires (λ c. search rules) (λ c κs. search rules) text-into-requires-2 (λ c. search rules) returns-2)
