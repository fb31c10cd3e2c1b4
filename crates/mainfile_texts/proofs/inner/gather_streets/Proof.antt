-- `mainfile_texts::inner::gather_streets` meets its contract. Assumes nothing.
use borrow.Author.Rules.{rules}
use native.Mathlib.Omega.{arith}
use Rattle.mainfile_texts.proofs.Kept.{kept_same, kept-stood, same_then, stays}
use Rattle.mainfile_texts.proofs.inner.gather_streets.Statement.{statement}
use Rattle.mainfile_texts.proofs.inner.gather_streets.Tie as tie

returns : tie.Need-returns
returns c =
    let dependent = c.row_into-dependent.ensures in
    let second = c.row_into-second.ensures in
    let name = c.row_into-name.ensures in
    let descriptor = c.row_into-descriptor.ensures in
    -- what the later ones leave as it is
    let last = kept_same 353 descriptor (omega arith) in
    let from-name = same_then (kept_same 293 name (omega arith)) (kept_same 293 descriptor (omega arith)) in
    let from_Second =
    same_then (kept_same 273 second (omega arith))
    (same_then (kept_same 273 name (omega arith)) (kept_same 273 descriptor (omega arith))) in (
      record {
        dependent = stays 373 from_Second (omega arith) (omega arith) (kept-stood 273 dependent (omega arith));
        dependent_descriptor = stays 373 from-name (omega arith) (omega arith) (kept-stood 293 second (omega arith));
        thoroughfare = stays 373 last (omega arith) (omega arith) (kept-stood 353 name (omega arith));
        descriptor = kept-stood 373 descriptor (omega arith);
      },
      same_then (kept_same 213 dependent (omega arith))
          (same_then (kept_same 213 second (omega arith))
          (same_then (kept_same 213 name (omega arith)) (kept_same 213 descriptor (omega arith)))),
    )

pub gather_streets_spec : {M : Type 1} → statement M
gather_streets_spec = tie.close (tie.spec (λ c. search rules) (λ c κs. search rules) (λ c. search rules) (λ c κs. search rules) (λ c. search rules) (λ c κs. search rules) (λ c. search rules) (λ c κs. search rules) (λ c. search rules) returns)
