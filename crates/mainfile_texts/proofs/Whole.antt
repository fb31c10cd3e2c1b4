-- Once all texts are gathered, a label finds the elements of the delivery point in the buffer.
-- Assumes nothing.
use Prim.Native.Nat.{ℕ, ◌+◌, ◌≤◌}
use mathlib.Core.Path.{◌≡◌, refl}
use mathlib.Core.List.{List}
use native.Mathlib.Omega.{arith}
use Rattle.source.specs.declared.DeliveryPoint.{DeliveryPoint}
use Rattle.label.specs.Spans.{elements_in}
use Rattle.label.proofs.Stand.{all-stand}
use Rattle.mainfile.specs.Set.{Set}
use Rattle.mainfile_meaning.specs.Elements.{elements_at}
use Rattle.mainfile_texts.specs.Gathered.{OwnTexts, PremisesTexts, StreetTexts, LocalityTexts, Same, spans_from}
use Rattle.mainfile_texts.proofs.Kept.{stays, same_then, same-less}

module _ (s : Set) (p : DeliveryPoint) (rows : List ℕ) {b₁ b₂ b₃ b₄ own premises streets localities : List ℕ} where
  pub gathered : OwnTexts s.addresses s.organisations p b₁ own
      → PremisesTexts s.buildings s.sub_buildings rows b₂ premises → Same 133 b₁ b₂
      → StreetTexts s.thoroughfares s.descriptors rows b₃ streets → Same 213 b₂ b₃
      → LocalityTexts s.localities rows b₄ localities → Same 373 b₃ b₄
      → elements_in b₄ b₄ (spans_from own premises streets localities p) ≡ elements_at s p rows
  gathered o pr to-pr st to-st lo to-lo =
      let from-st = same_then to-st (same-less to-lo (omega arith)) in
      let from-pr = same_then to-pr (same-less from-st (omega arith)) in
      all-stand b₄ b₄ (spans_from own premises streets localities p) (elements_at s p rows)
      (record {
        organisation = (stays 473 from-pr (omega arith) (omega arith) o.organisation).is;
        department = (stays 473 from-pr (omega arith) (omega arith) o.department).is;
        box = (stays 473 from-pr (omega arith) (omega arith) o.box).is;
        sub_building = (stays 473 from-st (omega arith) (omega arith) pr.sub_building).is;
        building = (stays 473 from-st (omega arith) (omega arith) pr.building).is;
        number = refl;
        concatenation = refl;
        dependent = (stays 473 to-lo (omega arith) (omega arith) st.dependent).is;
        dependent_descriptor = (stays 473 to-lo (omega arith) (omega arith) st.dependent_descriptor).is;
        thoroughfare = (stays 473 to-lo (omega arith) (omega arith) st.thoroughfare).is;
        descriptor = (stays 473 to-lo (omega arith) (omega arith) st.descriptor).is;
        double_locality = lo.double_locality.is;
        dependent_locality = lo.dependent_locality.is;
        town = lo.town.is;
        outward = (stays 473 from-pr (omega arith) (omega arith) o.outward).is;
        inward = (stays 473 from-pr (omega arith) (omega arith) o.inward).is;
      })
