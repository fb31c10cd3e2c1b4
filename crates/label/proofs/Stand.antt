-- Spans that say elements, one by one.
-- Assumes nothing.
use Prim.Native.Nat.{ℕ}
use mathlib.Core.Path.{◌≡◌}
use mathlib.Core.List.{List}
use Rattle.source.specs.Address.{Elements}
use Rattle.label.specs.declared.Spans.{Spans}
use Rattle.label.specs.Spans.{text_in2, elements_in}

-- spans of which each says its element
pub record Stand (a b : List ℕ) (s : Spans) (e : Elements) : Type 0 where
  pub organisation : text_in2 a b s.organisation ≡ e.organisation
  pub department : text_in2 a b s.department ≡ e.department
  pub box : text_in2 a b s.po_box ≡ e.box
  pub sub_building : text_in2 a b s.sub_building ≡ e.sub_building
  pub building : text_in2 a b s.building ≡ e.building
  pub number : s.number ≡ e.number
  pub concatenation : s.concatenation ≡ e.concatenation
  pub dependent : text_in2 a b s.dependent ≡ e.dependent
  pub dependent_descriptor : text_in2 a b s.dependent_descriptor ≡ e.dependent_descriptor
  pub thoroughfare : text_in2 a b s.thoroughfare ≡ e.thoroughfare
  pub descriptor : text_in2 a b s.descriptor ≡ e.descriptor
  pub double_locality : text_in2 a b s.double_locality ≡ e.double_locality
  pub dependent_locality : text_in2 a b s.dependent_locality ≡ e.dependent_locality
  pub town : text_in2 a b s.town ≡ e.town
  pub outward : text_in2 a b s.outward ≡ e.outward
  pub inward : text_in2 a b s.inward ≡ e.inward

pub all-stand : (a b : List ℕ) (s : Spans) (e : Elements) → Stand a b s e → elements_in a b s ≡ e
unfolding elements_in
all-stand a b s e h =
    rw (
      h.organisation,
      h.department,
      h.box,
      h.sub_building,
      h.building,
      h.number,
      h.concatenation,
      h.dependent,
      h.dependent_descriptor,
      h.thoroughfare,
      h.descriptor,
      h.double_locality,
      h.dependent_locality,
      h.town,
      h.outward,
      h.inward,
    )
