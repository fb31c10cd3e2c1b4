-- `mainfile_texts::inner::gather_localities` meets its contract. Assumes nothing.
use borrow.Author.Rules.{rules}
use native.Mathlib.Omega.{arith}
use Rattle.mainfile_texts.proofs.Kept.{kept_same, kept-stood, same_then, stays}
use Rattle.mainfile_texts.proofs.inner.gather_localities.Statement.{statement}
use Rattle.mainfile_texts.proofs.inner.gather_localities.Tie as tie

returns : tie.Need-returns
returns c =
    let double = c.row_into-double.ensures in
    let dependent = c.row_into-dependent.ensures in
    let town = c.row_into-town.ensures in
    -- what the later ones leave as it is
    let last = kept_same 443 town (omega arith) in
    let from-dependent = same_then (kept_same 408 dependent (omega arith)) (kept_same 408 town (omega arith)) in (
      record {
        double_locality = stays 473 from-dependent (omega arith) (omega arith) (kept-stood 408 double (omega arith));
        dependent_locality = stays 473 last (omega arith) (omega arith) (kept-stood 443 dependent (omega arith));
        town = kept-stood 473 town (omega arith);
      },
      same_then (kept_same 373 double (omega arith))
          (same_then (kept_same 373 dependent (omega arith)) (kept_same 373 town (omega arith))),
    )

pub gather_localities_spec : {M : Type 1} → statement M
gather_localities_spec = tie.close (tie.spec (λ c. search rules) (λ c κs. search rules) (λ c κs. search rules) (λ c κs. search rules) (λ c. search rules) returns)
