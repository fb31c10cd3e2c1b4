-- `file_check::verdict_of` meets its contract. Assumes nothing.
use borrow.Author.Rules.{rules}
use mathlib.Core.Path.{refl, sym, ◌∙◌}
use native.Mathlib.Omega.{arith}
use Rattle.file.specs.Formats.{format_of}
use Rattle.file.proofs.Laws.{
  limit-few,
  at-least-two,
  within-limit,
  verdict-length,
  verdict-header,
  verdict-trailer,
  verdict-scan,
}
use Rattle.file_check.proofs.verdict_of.Statement.{statement}
use Rattle.file_check.proofs.verdict_of.Tie as tie

returns : tie.Need-returns-then-not-is_whole
returns c =
    let a = c.args in
    sym (verdict-length (format_of a.kind) a.file.now (sym c.is_whole.ensures ∙ c.if-not-is_whole.true))

record-in-requires : tie.Need-record_in-requires
record-in-requires c κs =
    let a = c.args in
    omega (arith, at-least-two (format_of a.kind) a.file.now (sym c.is_whole.ensures ∙ c.if-not-is_whole.false))

returns-2 : tie.Need-returns-then-not-is_header
returns-2 c =
    let a = c.args in
    sym
    (verdict-header (format_of a.kind) a.file.now (sym c.is_whole.ensures ∙ c.if-not-is_whole.false)
    (rw c.record_in.ensures at (sym c.is_header.ensures ∙ c.if-not-is_header.true)))

sub-record-in : tie.Need-overflow_sub-n
sub-record-in c =
    let a = c.args in
    let all = sym c.is_whole.ensures ∙ c.if-not-is_whole.false in
    omega (arith, c.records_in-n.ensures, at-least-two (format_of a.kind) a.file.now all)

record-in-requires-2 : tie.Need-record_in-requires-2
record-in-requires-2 c κs =
    let a = c.args in
    let all = sym c.is_whole.ensures ∙ c.if-not-is_whole.false in
    omega (arith, c.records_in-n.ensures, at-least-two (format_of a.kind) a.file.now all)

returns-3 : tie.Need-returns-then-not-is_trailer
returns-3 c =
    let a = c.args in
    let all = sym c.is_whole.ensures ∙ c.if-not-is_whole.false in
    let headed = rw c.record_in.ensures at (sym c.is_header.ensures ∙ c.if-not-is_header.false) in
    rw c.records_in-n.ensures
    (sym
    (verdict-trailer (format_of a.kind) a.file.now all headed
    (rw (c.record_in-2.ensures, c.records_in-n.ensures) at (sym c.is_trailer.ensures ∙ c.if-not-is_trailer.true))))

scan-records-requires : tie.Need-scan_records-requires
scan-records-requires c κs =
    let a = c.args in
    let all = sym c.is_whole.ensures ∙ c.if-not-is_whole.false in
    rw c.records_in-n.ensures
    (at-least-two (format_of a.kind) a.file.now all, omega (arith, within-limit (format_of a.kind) a.file.now all, limit-few a.kind), refl)

returns-4 : tie.Need-returns
returns-4 c =
    let a = c.args in
    let all = sym c.is_whole.ensures ∙ c.if-not-is_whole.false in
    let headed = rw c.record_in.ensures at (sym c.is_header.ensures ∙ c.if-not-is_header.false) in
    rw (c.scan_records.ensures, c.records_in-n.ensures)
    (sym
    (verdict-scan (format_of a.kind) a.file.now all headed
    (rw (c.record_in-2.ensures, c.records_in-n.ensures) at (sym c.is_trailer.ensures ∙ c.if-not-is_trailer.false))))

pub verdict_of_spec : {M : Type 1} → statement M
verdict_of_spec =
    tie.close
    (tie.spec
    (λ c κs. search rules)
    returns
    (λ c κs. search rules)
    record-in-requires
    (λ c κs. search rules)
    returns-2
    sub-record-in
    record-in-requires-2
    (λ c κs. search rules)
    returns-3
    scan-records-requires
    returns-4)
