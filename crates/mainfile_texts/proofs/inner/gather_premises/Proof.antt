-- `mainfile_texts::inner::gather_premises` meets its contract. Assumes nothing.
use borrow.Author.Rules.{rules}
use native.Mathlib.Omega.{arith}
use Rattle.mainfile_texts.proofs.Kept.{kept_same, kept-stood, same_then, stays}
use Rattle.mainfile_texts.proofs.inner.gather_premises.Statement.{statement}
use Rattle.mainfile_texts.proofs.inner.gather_premises.Tie as tie

returns : tie.Need-returns
returns c =
    let sub = c.row_into-sub.ensures in
    let name = c.row_into-name.ensures in (
      record {
        sub_building =
            stays 213 (kept_same 163 name (omega arith)) (omega arith) (omega arith) (kept-stood 163 sub (omega arith));
        building = kept-stood 213 name (omega arith);
      },
      same_then (kept_same 133 sub (omega arith)) (kept_same 133 name (omega arith)),
    )

pub gather_premises_spec : {M : Type 1} → statement M
gather_premises_spec = tie.close (tie.spec (λ c. search rules) (λ c κs. search rules) (λ c. search rules) (λ c κs. search rules) (λ c. search rules) returns)
