use Rattle.std.proofs.Common.{◌≡◌, ℕ, suc, ◌+◌, List, length, sym, ap, ◌∙◌, arith}
use Rattle.field.specs.Text.{text_in}
use Rattle.source.specs.Address.{kind_of}
use Rattle.shelf.specs.Shelf.{text_width, record_of}
use Rattle.build.proofs.Laws.{row-of-three, row-of-one}
use Rattle.build_place.proofs.inner.row_len.Goals as goal

pub returns-then-kind-eq1 : goal.returns-then-kind-eq1
returns-then-kind-eq1 c =
    let a = c.args in
    let kind = sym (ap kind_of c.ref_at-kind.ensures.0) ∙ c.if-kind-eq1.true in
    let size : (from to : ℕ) → length (text_in c.record_of-rec.result.now from to) ≡ length (text_in (record_of a.s a.file.now a.i) from to) =
    λ from to. ap (λ (r : List ℕ). length (text_in r from to)) c.record_of-rec.ensures in
    let l = a.s.locality in (
      omega (arith, row-of-three a.s a.file.now a.i kind, size l (l + 30), size (l + 30) (l + 65), size (l + 65) (l + 100)),
      omega arith,
    )

pub returns : goal.returns
returns c =
    let a = c.args in
    let kind = ap kind_of c.ref_at-kind.ensures.0 in
    let whole = row-of-one a.s a.file.now a.i (λ z. c.if-kind-eq1.false (kind ∙ z)) in
    let size =
    ap (λ (r : List ℕ). suc (length (text_in r a.s.text (a.s.text + c.text_width.result)))) c.record_of-rec.ensures in
    let wide =
    ap (λ (n : ℕ). suc (length (text_in (record_of a.s a.file.now a.i) a.s.text (a.s.text + n))))
    (c.text_width.ensures.0 ∙ ap text_width kind) in
    (omega (arith, whole, size, wide), omega arith)
