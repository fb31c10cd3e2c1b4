-- Document 01's list, proved together.
-- Assumes nothing.
use mathlib.Core.Path.{◌≡◌, refl}
use Rattle.field.specs.Text.{numeric_like}
use Rattle.field_outward.specs.Outward.{class, allowed, outward_fault}
use Rattle.demands.specs.Listed.{answers, expected}

pub listed : answers ≡ expected
unfolding numeric_like class allowed outward_fault
listed = refl
