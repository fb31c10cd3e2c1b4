use borrow.Author.Rules.{rules}
use Rattle.refusal.specs.Packed.{word}
use Rattle.refusal.proofs.word_of.Statement.{statement}
use Rattle.refusal.proofs.word_of.Tie as tie

-- src/lib.rt:100:16

-- src/lib.rt:100:51

-- src/lib.rt:100:16

-- src/lib.rt:101:15

-- src/lib.rt:101:15

-- src/lib.rt:102:5

-- src/lib.rt:97:1
returns : tie.Need-returns
unfolding word
returns c = search rules

pub word_of_spec : {M : Type 1} → statement M
word_of_spec =
    tie.close
    (tie.spec (search rules) (search rules) (search rules) (search rules) (search rules) (search rules) returns)
