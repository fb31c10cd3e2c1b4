-- Laws of the check of a file.
-- Assumes nothing.
use Prim.Native.Nat.{ℕ, suc, ◌+◌, ◌-◌, ◌*◌, ◌≤◌, ◌<◌}
use mathlib.Core.Path.{◌≡◌, refl}
use mathlib.Core.Bool.{true, false, ◌&&◌}
use mathlib.Core.List.{List}
use native.Mathlib.Omega.{arith}
use borrow.Author.Tests.{leb-true, eq-eqb, ne_eqb}
use lib.Dec.{leb, eqb, lit≤}
use lib.ListN.{length}
use Rattle.field.proofs.Tests.{and_left, and_right}
use Rattle.refusal.specs.Refusal.{malformed_at}
use Rattle.refusal.specs.declared.Reason.{Reason}
use Rattle.refusal.specs.declared.Reason.TheVariants.{Length, Header, Trailer, NotAbove, Follower}
use Rattle.file.specs.Check.{Format, records, whole, at, rises, in_place, judged, scan, verdict}
use Rattle.file.specs.Formats.{format_of}
use Rattle.file.specs.declared.Kind.{Kind}
use Rattle.file.specs.declared.Kind.TheVariants.{Table, Points, Main}
use Rattle.file.specs.declared.MainKind.{MainKind}
use Rattle.file.specs.declared.MainKind.TheVariants.{
  Localities,
  Thoroughfares,
  Descriptors,
  Buildings,
  SubBuildings,
  Organisations,
  Addresses,
}
use Rattle.file.specs.Mainfile.{main_limit, main_format}
use Rattle.std.specs.Prelude.{Err}
use Rattle.refusal.specs.Verdict.{Verdict, fine}

-- what the files of a set have in common: "at most 1,000,000 records each", "6 doesn't occur"
pub main-limit : (file : MainKind) → (main_format file).limit ≡ main_limit
main-limit Localities = refl
main-limit Thoroughfares = refl
main-limit Descriptors = refl
main-limit Buildings = refl
main-limit SubBuildings = refl
main-limit Organisations = refl
main-limit Addresses = refl

pub main-between : (file : MainKind) (before rec next : List ℕ) → (main_format file).between before rec next ≡ true
main-between Localities before rec next = refl
main-between Thoroughfares before rec next = refl
main-between Descriptors before rec next = refl
main-between Buildings before rec next = refl
main-between SubBuildings before rec next = refl
main-between Organisations before rec next = refl
main-between Addresses before rec next = refl

-- no format has more records than a refusal can name
pub limit-few : (kind : Kind) → (format_of kind).limit ≤ 1_000_000
limit-few Table = lit≤ tt
limit-few Points = lit≤ tt
limit-few (Main file) = rw (main-limit file) (lit≤ tt)

pub width_some : (kind : Kind) → 1 ≤ (format_of kind).width
width_some Table = lit≤ tt
width_some Points = lit≤ tt
width_some (Main Localities) = lit≤ tt
width_some (Main Thoroughfares) = lit≤ tt
width_some (Main Descriptors) = lit≤ tt
width_some (Main Buildings) = lit≤ tt
width_some (Main SubBuildings) = lit≤ tt
width_some (Main Organisations) = lit≤ tt
width_some (Main Addresses) = lit≤ tt

-- a whole file has from 2 up to the limit's records
module _ (f : Format) (file : List ℕ) (is_whole : whole f file ≡ true) where
  counted : leb 2 (records f file) && leb (records f file) f.limit ≡ true
  counted = and_right (eqb (records f file * f.width) (length file)) _ is_whole

  pub at-least-two : 2 ≤ records f file
  at-least-two = leb-true 2 (records f file) (and_left _ (leb (records f file) f.limit) counted)

  pub within-limit : records f file ≤ f.limit
  within-limit = leb-true (records f file) f.limit (and_right (leb 2 (records f file)) _ counted)

-- one record more of a scan up to `last`
module _ (judge : ℕ → Verdict) (last i : ℕ) where
  pub scan_step : i < last → judge i ≡ fine → scan judge (last - i) i ≡ scan judge (last - (i + 1)) (i + 1)
  scan_step h e =
      let size : last - i ≡ suc (last - (i + 1)) = omega arith in
      let next : suc i ≡ i + 1 = omega arith in
      rw (size, e, next)

  pub scan-stop : i < last → (why : Reason) → judge i ≡ Err why → scan judge (last - i) i ≡ Err why
  scan-stop h why e =
      let size : last - i ≡ suc (last - (i + 1)) = omega arith in
      rw (size, e)

  pub scan-end : last ≤ i → scan judge (last - i) i ≡ fine
  scan-end h = rw (let size : last - i ≡ 0 = omega arith in size)

-- the four verdicts on a record
module _ (f : Format) (file : List ℕ) (i : ℕ) where
  pub judged-malformed : (f.fault (at f file i) ≡ 0 → ⊥)
      → judged f file i ≡ Err (malformed_at (i + 1) (f.fault (at f file i)))
  unfolding judged
  judged-malformed n = simp (ne_eqb (f.fault (at f file i)) 0 n)

  module _ (well_formed : f.fault (at f file i) ≡ 0) where
    pub judged-falls : rises f file i ≡ false → judged f file i ≡ Err (NotAbove (i + 1))
    unfolding judged
    judged-falls e = simp (eq-eqb (f.fault (at f file i)) 0 well_formed, e)

    module _ (rising : rises f file i ≡ true) where
      pub judged-stray : in_place f file i ≡ false
          → judged f file i ≡ Err (Follower (i + 1))
      unfolding judged
      judged-stray e = simp (eq-eqb (f.fault (at f file i)) 0 well_formed, rising, e)

      pub judged-fine : in_place f file i ≡ true
          → judged f file i ≡ fine
      unfolding judged
      judged-fine e = simp (eq-eqb (f.fault (at f file i)) 0 well_formed, rising, e)

-- the verdicts on a whole file
module _ (f : Format) (file : List ℕ) where
  pub verdict-length : whole f file ≡ false → verdict f file ≡ Err Length
  unfolding verdict
  verdict-length e = simp e

  module _ (is_whole : whole f file ≡ true) where
    pub verdict-header : f.headed (at f file 0) ≡ false → verdict f file ≡ Err Header
    unfolding verdict
    verdict-header e = simp (is_whole, e)

    module _ (head : f.headed (at f file 0) ≡ true) where
      pub verdict-trailer : f.ended (records f file) (at f file (records f file - 1)) ≡ false
          → verdict f file ≡ Err (Trailer (records f file))
      unfolding verdict
      verdict-trailer e = simp (is_whole, head, e)

      pub verdict-scan : f.ended (records f file) (at f file (records f file - 1)) ≡ true
          → verdict f file ≡ scan (judged f file) (records f file - 2) 1
      unfolding verdict
      verdict-scan e = simp (is_whole, head, e)
