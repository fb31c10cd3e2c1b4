-- Laws of the row of an address by the place of its record.
-- Assumes nothing.
use Prim.Native.Nat.{ℕ, ◌≤◌}
use mathlib.Core.Path.{◌≡◌, refl, sym, ap, ◌∙◌}
use mathlib.Core.List.{List}
use mathlib.Core.Option.{none, some}
use borrow.Author.Tests.{eq-eqb, ne_eqb}
use lib.ListN.{length}
use Rattle.refusal.specs.declared.Reason.TheVariants.{NoSuchNumber}
use Rattle.refusal.specs.Outcome.{said}
use Rattle.refusal.proofs.Answers.{refused-value}
use Rattle.refusal.proofs.Outcomes.{answer-of}
use Rattle.source.specs.declared.DeliveryPoint.{DeliveryPoint}
use Rattle.source.specs.Address.{Lookup, Address, Elements}
use Rattle.source.specs.Resolve.{Resolved, elements, refused, resolve}
use Rattle.source.specs.Delivery.{Says}
use Rattle.ask.specs.Labels.{kth}
use Rattle.csv_paf.specs.Row.{row_of, row_outcome, row_or, kth_row}
use Rattle.csv_write.specs.declared.Ending.{Ending}
use Rattle.csv_write.specs.Ending.{written_by, EndingOf}
use Rattle.csv_write.specs.Placed.{placed_row}
use Rattle.csv_write.proofs.Written.{written-within}
use Rattle.std.specs.Prelude.{Ok}
use Rattle.refusal.specs.Answer.{refusal}

-- what is answered with bytes fits
row_within : (a : Address) (r : Resolved) (out : List ℕ) (b : ℕ) → (row_outcome a r out).answer ≡ Ok b
    → b ≤ length (row_outcome a r out).memory
row_within a (elements e) out b is = written-within (row_of a e) e out b is
row_within a (refused why) out b is = absurd (refused-value 0 b why is)

-- what a row says of an address beside its elements
pub record Alike (a b : Address) : Type 0 where
  pub type : a.postcode_type ≡ b.postcode_type
  pub indicator : a.indicator ≡ b.indicator
  pub suffix : a.suffix ≡ b.suffix

row-alike : (a b : Address) → Alike a b → (r : Resolved) (out : List ℕ) → row_outcome a r out ≡ row_outcome b r out
row-alike a b s (elements e) out = rw (s.type, s.indicator, s.suffix)
row-alike a b s (refused why) out = refl

module _ (look : Lookup) (a : Address) (place : ℕ) (out : List ℕ) where
  pub no_place : place ≡ 0 → placed_row look a place out ≡ said (refusal 0 NoSuchNumber) out
  unfolding placed_row
  no_place e = rw (eq-eqb place 0 e)

  pub some-place : (place ≡ 0 → ⊥) → (r : Resolved) → resolve look a ≡ r → placed_row look a place out ≡ row_outcome a r out
  unfolding placed_row
  some-place there r e = rw (ne_eqb place 0 there) (ap (λ (r : Resolved). row_outcome a r out) e)

  -- what is answered with bytes is an address's, and fits
  module _ (b : ℕ) (e : (placed_row look a place out).answer ≡ Ok b) where
    pub placed-there : place ≡ 0 → ⊥
    placed-there z = refused-value 0 b NoSuchNumber (sym (answer-of (no_place z)) ∙ e)

    pub placed-fits : b ≤ length (placed_row look a place out).memory
    placed-fits =
        let is = some-place placed-there (resolve look a) refl in
        rw is (row_within a (resolve look a) out b (sym (answer-of is) ∙ e))

  -- as code finds it: the row of the elements, with the ending of a delivery point that says the address
  pub placed-written : (own others : List ℕ) {p : DeliveryPoint} {x : Ending} {e : Elements} → (place ≡ 0 → ⊥)
      → Says own others p a → EndingOf own p x → resolve look a ≡ elements e
      → written_by x e out ≡ placed_row look a place out
  placed-written own others there says is resolved =
      rw (is.kind, is.indicator, is.suffix, says.postcode_type, says.indicator, says.suffix)
      (sym (some-place there _ resolved))

  -- the row of the k-th of some addresses
  module _ (addresses : List Address) (k : ℕ) where
    pub placed-none : place ≡ 0 → kth addresses k ≡ none → placed_row look a place out ≡ kth_row look addresses k out
    unfolding kth_row
    placed-none e is = no_place e ∙ sym (ap (λ o. row_or look o out) is)

    pub placed-kth : (b : Address) → (place ≡ 0 → ⊥) → kth addresses k ≡ some b → Alike a b
        → resolve look a ≡ resolve look b
        → placed_row look a place out ≡ kth_row look addresses k out
    unfolding kth_row
    placed-kth b there is alike same =
        some-place there (resolve look b) same
        ∙ (row-alike a b alike (resolve look b) out ∙ sym (ap (λ o. row_or look o out) is))
