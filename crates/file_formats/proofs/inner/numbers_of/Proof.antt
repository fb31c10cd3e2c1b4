-- `file_formats::inner::numbers_of` meets its contract. Assumes nothing.
use borrow.Author.Rules.{rules}
use mathlib.Core.Path.{sym}
use Rattle.file.proofs.Laws.{main-limit}
use Rattle.file_formats.proofs.inner.numbers_of.Statement.{statement}
use Rattle.file_formats.proofs.inner.numbers_of.Tie as tie

returns-3 : tie.Need-returns-in-Main
returns-3 c =
    let file = c in
    let main = file in
    rw main.in-Main.is (file.file_of.ensures, (c.width_of.ensures, sym (main-limit main.in-Main.main)))

pub numbers_of_spec : {M : Type 1} → statement M
numbers_of_spec =
    tie.close
    (tie.spec
    (search rules)
    (search rules)
    (search rules)
    (search rules)
    (search rules)
    (λ c. search rules)
    (λ c. search rules)
    returns-3)
