-- `file_check::judge` meets its contract. Assumes nothing.
use borrow.Author.Rules.{rules}
use mathlib.Core.Path.{sym, ap, ◌∙◌}
use native.Mathlib.Omega.{arith}
use Prim.Native.Nat.{ℕ, ◌+◌, ◌-◌}
use Rattle.refusal.specs.Refusal.{malformed_at}
use Rattle.file_record.proofs.Records.{record-length}
use Rattle.file.specs.Formats.{format_of}
use Rattle.file.proofs.Laws.{judged-malformed, judged-falls, judged-stray, judged-fine}
use Rattle.file_check.proofs.judge.Statement.{statement}
use Rattle.file_check.proofs.judge.Tie as tie
use Rattle.std.specs.Prelude.{Err}

returns : tie.Need-returns-then-fault-ne0
returns c =
    let t = c in
    let f = t in
    let r = f in
    let a = r.args in
    let byte = f.fault_in-fault.ensures ∙ ap (format_of a.kind).fault r.record_in-rec.ensures in
    rw c.malformed.ensures
    (ap (λ (b : ℕ). Err (malformed_at (a.i + 1) b)) byte
    ∙ sym (judged-malformed (format_of a.kind) a.file.now a.i (rw byte at t.if-fault-ne0.true)))

returns-2 : tie.Need-returns-then-not-is_above
returns-2 c =
    let u = c in
    let p = u in
    let t = p in
    let f = t in
    let r = f in
    let a = r.args in
    sym
    (judged-falls (format_of a.kind) a.file.now a.i
    (rw (f.fault_in-fault.ensures, r.record_in-rec.ensures) at t.if-fault-ne0.false)
    ((rw (u.is_above.ensures, p.record_in-before.ensures, r.record_in-rec.ensures) at c.if-not-is_above.true)))

returns-3 : tie.Need-returns-then-is_between
returns-3 c =
    let b = c in
    let v = b in
    let u = v in
    let p = u in
    let t = p in
    let f = t in
    let r = f in
    let a = r.args in
    sym
    (judged-fine (format_of a.kind) a.file.now a.i
    (rw (f.fault_in-fault.ensures, r.record_in-rec.ensures) at t.if-fault-ne0.false)
    ((rw (u.is_above.ensures, p.record_in-before.ensures, r.record_in-rec.ensures) at v.if-not-is_above.false))
    (rw b.is_between.ensures at c.if-is_between.true))

returns-4 : tie.Need-returns-else-is_between
returns-4 c =
    let b = c in
    let v = b in
    let u = v in
    let p = u in
    let t = p in
    let f = t in
    let r = f in
    let a = r.args in
    sym
    (judged-stray (format_of a.kind) a.file.now a.i
    (rw (f.fault_in-fault.ensures, r.record_in-rec.ensures) at t.if-fault-ne0.false)
    ((rw (u.is_above.ensures, p.record_in-before.ensures, r.record_in-rec.ensures) at v.if-not-is_above.false))
    (rw b.is_between.ensures at c.if-is_between.false))

is-above-requires : tie.Need-is_above-requires
is-above-requires c κs =
    let r = c in
    let start = r in
    let a = start.args in
    let wide = (format_of a.kind).width in (
      rw c.record_in-before.ensures (omega (arith, record-length wide a.file.now (a.i - 1) (omega (arith, start.requires.1)))),
      rw r.record_in-rec.ensures (omega (arith, record-length wide a.file.now a.i (omega (arith, start.requires.1)))),
    )

pub judge_spec : {M : Type 1} → statement M
judge_spec =
    tie.close
    (tie.spec
    (λ c κs. search rules)
    (λ c κs. search rules)
    (λ c. search rules)
    (λ c κs. search rules)
    returns
    (λ c. search rules)
    (λ c κs. search rules)
    is-above-requires
    (λ c. search rules)
    returns-2
    (λ c κs. search rules)
    (λ c. search rules)
    returns-3
    returns-4)
