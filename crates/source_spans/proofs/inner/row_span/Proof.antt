-- `source_spans::inner::row_span` meets its contract. Assumes nothing.
use borrow.Author.Rules.{rules}
use Prim.Native.Nat.{◌+◌, ◌*◌}
use mathlib.Core.Path.{◌≡◌}
use native.Mathlib.Omega.{arith}
use borrow.Author.Tests.{eq-eqb, ne_eqb}
use Rattle.field.proofs.Fronts.{text_in-bound}
use Rattle.file_record.specs.Parts.{record_at}
use Rattle.file_record.proofs.Records.{record-fits}
use Rattle.source_spans.proofs.Laws.{record-text, record-no-text}
use Rattle.source_spans.proofs.inner.row_span.Statement.{statement}
use Rattle.source_spans.proofs.inner.row_span.Tie as tie

no_row : tie.Need-returns-then-row-eq0
no_row c = λ second. rw (c.no_span.ensures _ second) (simp (eq-eqb _ 0 c.if-row-eq0.true))

behind-last : tie.Need-returns-then-file-w
behind-last c =
    let at-end = c in
    let a = at-end.args in
    λ second. rw (c.no_span-then-file-w.ensures a.file.now second)
    (simp (
      ne_eqb a.row 0 at-end.if-row-eq0.false,
      record-no-text a.s.width a.file.now a.row a.from at-end.if-file-w.true (a.from + a.width),
    ))

whole-record-requires : tie.Need-whole_record-rec-requires
whole-record-requires c κs =
    let a = c.args in
    (c.if-file-w.false, record-fits a.s.width a.file.now a.row c.if-file-w.false)

start_fits : tie.Need-overflow_mul-result
start_fits c =
    let at-record = c in
    let at-start = at-record in
    let a = at-start.args in
    omega (arith, at-start.well_formed.0.1, record-fits a.s.width a.file.now a.row at-record.if-file-w.false)

place-fits : tie.Need-overflow_add-result
place-fits c =
    let at-record = c in
    let at-start = at-record in
    let a = at-start.args in
    omega (
      arith,
      at-start.well_formed.0.1,
      at-start.requires.1.0,
      record-fits a.s.width a.file.now a.row at-record.if-file-w.false,
    )

cast-len : tie.Need-overflow_cast-result
cast-len c =
    let at-record = c in
    let at-start = at-record in
    let a = at-start.args in
    rw (c.read_text-text.ensures, at-record.whole_record-rec.ensures)
    (omega (
      arith,
      at-start.requires.1.1,
      text_in-bound (record_at a.s.width a.file.now a.row) a.from (a.from + a.width),
    ))

at_row : tie.Need-returns
at_row c =
    let at-record = c in
    let at-end = at-record in
    let a = at-end.args in
    λ second. rw (c.read_text-text.ensures, at-record.whole_record-rec.ensures)
    (simp (ne_eqb a.row 0 at-end.if-row-eq0.false)
    (record-text a.s.width a.file.now a.row a.from at-end.if-file-w.false (a.from + a.width)))

pub row_span_spec : {M : Type 1} → statement M
row_span_spec =
    tie.close
    (tie.spec
    (λ c κs. search rules)
    no_row
    (λ c. search rules)
    (λ c κs. search rules)
    behind-last
    whole-record-requires
    (λ c. search rules)
    (λ c κs. search rules)
    start_fits
    place-fits
    cast-len
    at_row)
