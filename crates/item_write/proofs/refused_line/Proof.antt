-- `item_write::refused_line` meets its contract. Assumes nothing.
use borrow.Author.Rules.{rules}
use mathlib.Core.Path.{◌≡◌}
use native.Mathlib.Omega.{arith}
use Rattle.item.specs.Lines.{refused_text, refused_line}
use Rattle.item.proofs.Lines.{refused-short}
use Rattle.item_write.proofs.Laws.{line-holds, holds_as}
use Rattle.item_write.proofs.refused_line.Statement.{statement}
use Rattle.item_write.proofs.refused_line.Tie as tie

refused-at-requires : tie.Need-refused_at-len-requires
refused-at-requires c κs =
    let s = c.before in
    let d = s.before in
    omega (
      arith,
      refused-short d.number_of-number.result d.detail_of-detail.result s.second_of-second.result (omega arith) (omega arith)
          (omega arith),
    )

returns : tie.Need-returns
returns c =
    let s = c in
    let d = s in
    let n = d in
    let short =
    refused-short n.number_of-number.result d.detail_of-detail.result s.second_of-second.result (omega arith) (omega arith)
    (omega arith) in
    let same : refused_text n.number_of-number.result d.detail_of-detail.result s.second_of-second.result
    ≡ refused_line n.args.reason =
    rw (n.number_of-number.ensures, d.detail_of-detail.ensures, s.second_of-second.ensures) in
    holds_as same (line-holds _ short c.refused_at-len.ensures)

pub refused_line_spec : {M : Type 1} → statement M
refused_line_spec =
    tie.close
    (tie.spec (search rules) (search rules) (search rules) (search rules) refused-at-requires returns)
