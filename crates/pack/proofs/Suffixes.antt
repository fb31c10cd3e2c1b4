-- What a pack says of a suffix, by whether there is the point and its edition has one.
-- Assumes nothing.
use Prim.Native.Nat.{ℕ}
use mathlib.Core.Path.{◌≡◌, ap, ap₂}
use mathlib.Core.Bool.{Bool, true, false, cond}
use mathlib.Core.List.{List}
use Rattle.refusal.specs.declared.Reason.TheVariants.{NoSuchNumber, NoSuffix}
use Rattle.pack.specs.Names.{has_suffix}
use Rattle.pack.specs.Opening.{edition, suffix_in}
use Rattle.pack.specs.Points.{point_place, is_point, suffix_number, point_suffix}
use Rattle.std.specs.Prelude.{Ok}
use Rattle.refusal.specs.Answer.{Answer, refusal}

module _ (pack : List ℕ) (k : ℕ) where
  abbrev there : Answer
  there = Ok (suffix_number (suffix_in pack (point_place pack k)))

  abbrev asked : Bool → Bool → Answer
  asked point suffix = cond point (cond suffix there (refusal 0 NoSuffix)) (refusal 0 NoSuchNumber)

  pub no-point : is_point pack k ≡ false → point_suffix pack k ≡ refusal 0 NoSuchNumber
  unfolding point_suffix
  no-point p = ap (λ t. asked t (has_suffix (edition pack))) p

  pub no_suffix : is_point pack k ≡ true → has_suffix (edition pack) ≡ false → point_suffix pack k ≡ refusal 0 NoSuffix
  unfolding point_suffix
  no_suffix p s = ap₂ asked p s

  pub its-suffix : is_point pack k ≡ true → has_suffix (edition pack) ≡ true → point_suffix pack k ≡ there
  unfolding point_suffix
  its-suffix p s = ap₂ asked p s
