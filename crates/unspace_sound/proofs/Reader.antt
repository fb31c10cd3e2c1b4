-- A format whose header and trailer begin with an identifier: the reader answers for the rewritten file as for the file.
-- Assumes nothing.
use Prim.Native.Nat.{ℕ, zero, suc, ◌+◌, ◌-◌, ◌*◌, ◌/◌, ◌≤◌, ◌<◌}
use mathlib.Core.Path.{◌≡◌, refl, sym, ap, ap₂, ◌∙◌}
use mathlib.Core.Bool.{Bool, true, false, cond, ◌&&◌}
use mathlib.Core.List.{List}
use native.Mathlib.Omega.{arith}
use borrow.Author.Tests.{eqb-true}
use lib.Dec.{eqb, leb}
use lib.ListN.{length}
use Rattle.field.proofs.Tests.{and_left, and_right}
use Rattle.refusal.specs.declared.Reason.TheVariants.{Trailer, NotAbove, Follower}
use Rattle.refusal.specs.Refusal.{malformed_at}
use Rattle.refusal.specs.Verdict.{or_else}
use Rattle.file.specs.Check.{Format, records, whole, at, rises, in_place, judged, scan, verdict, answered, checked}
use Rattle.file.proofs.Laws.{verdict-length, verdict-header, verdict-trailer, verdict-scan}
use Rattle.unspace_file.specs.Unspaced.{whole_records, unspaced}
use Rattle.unspace_file.proofs.Kept.{length-unspaced}
use Rattle.unspace_sound.proofs.Ends.{Renewed, head-renewed, end-renewed}
use Rattle.std.specs.Prelude.{Ok, Err}
use Rattle.refusal.specs.Verdict.{Verdict, fine}

-- scans of verdicts that are the same
scan-same : (one other : ℕ → Verdict) (k i : ℕ) → ((j : ℕ) → i ≤ j → j < i + k → one j ≡ other j) → scan one k i ≡ scan other k i
scan-same one other zero i h = refl
scan-same one other (suc k) i h =
    ap₂ or_else (h i (omega arith) (omega arith)) (scan-same one other k (suc i) (λ j p q. h j (omega arith) (omega arith)))

-- a record that is the same, rises the same and, where it is well formed, may stand where it does
module _ (f : Format) (new file : List ℕ) (i : ℕ) where
  abbrev by : List ℕ → Bool → Bool → Verdict
  by rec up placed =
      cond (eqb (f.fault rec) 0)
      (cond up (cond placed fine (Err (Follower (i + 1)))) (Err (NotAbove (i + 1))))
      (Err (malformed_at (i + 1) (f.fault rec)))

  pub judged-kept : at f new i ≡ at f file i → rises f new i ≡ rises f file i
      → (f.fault (at f file i) ≡ 0 → in_place f new i ≡ in_place f file i)
      → judged f new i ≡ judged f file i
  unfolding judged
  judged-kept same up placed =
      ap₂ (λ (rec : List ℕ) (u : Bool). by rec u (in_place f new i)) same up
      ∙ by-test (eqb (f.fault (at f file i)) 0) refl
    where
      by-test : (t : Bool) → eqb (f.fault (at f file i)) 0 ≡ t
          → by (at f file i) (rises f file i) (in_place f new i) ≡ by (at f file i) (rises f file i) (in_place f file i)
      by-test true e = ap (by (at f file i) (rises f file i)) (placed (eqb-true _ 0 e))
      by-test false e = rw e refl

-- the trailer
abbrev end-of : Format → List ℕ → List ℕ
end-of f file = at f file (records f file - 1)

-- such a format
pub record Identified (f : Format) (w : ℕ) : Type 0 where
  pub some : 1 ≤ w
  pub narrow : w ≤ f.width
  pub heads : (old new : List ℕ) → Renewed w 0 old new → f.headed new ≡ f.headed old
  pub ends : (n : ℕ) (old new : List ℕ) → Renewed w 255 old new → f.ended n new ≡ f.ended n old
  pub between : (file : List ℕ) → whole_records f.width w file ≡ true → (i : ℕ) → 1 ≤ i → i < records f file - 1
      → judged f (unspaced f.width w file) i ≡ judged f file i

module _ (f : Format) (w : ℕ) (known : Identified f w) (file : List ℕ) where
  abbrev new : List ℕ
  new = unspaced f.width w file

  as_long : length new ≡ length file
  as_long = length-unspaced f.width w file

  pub records-kept : records f new ≡ records f file
  records-kept = ap (λ (n : ℕ). n / f.width) as_long

  whole-kept : whole f new ≡ whole f file
  whole-kept = ap (λ (n : ℕ). eqb (n / f.width * f.width) n && (leb 2 (n / f.width) && leb (n / f.width) f.limit)) as_long

  -- of two records or more
  module _ (all : whole f file ≡ true) where
    two-whole : whole_records f.width w file ≡ true
    two-whole =
        let exact = and_left (eqb (records f file * f.width) (length file)) _ all in
        let two = and_left (leb 2 (records f file)) _ (and_right (eqb (records f file * f.width) (length file)) _ all) in
        rw (exact, two) refl

    new-whole : whole f new ≡ true
    new-whole = whole-kept ∙ all

    head : Renewed w 0 (at f file 0) (at f new 0)
    head = head-renewed f.width w known.narrow file two-whole

    end : Renewed w 255 (end-of f file) (end-of f new)
    end = rw records-kept (end-renewed f.width w known.narrow file two-whole)

    head-kept : f.headed (at f new 0) ≡ f.headed (at f file 0)
    head-kept = known.heads (at f file 0) (at f new 0) head

    end_kept : f.ended (records f new) (end-of f new) ≡ f.ended (records f file) (end-of f file)
    end_kept =
        ap (λ (n : ℕ). f.ended n (end-of f new)) records-kept ∙ known.ends (records f file) (end-of f file) (end-of f new) end

    scan-kept : scan (judged f new) (records f new - 2) 1 ≡ scan (judged f file) (records f file - 2) 1
    unfolding judged
    scan-kept =
        ap (λ (n : ℕ). scan (judged f new) (n - 2) 1) records-kept
        ∙ scan-same (judged f new) (judged f file) (records f file - 2) 1
        (λ j p q. known.between file two-whole j p (omega arith))

  verdict-kept : verdict f new ≡ verdict f file
  verdict-kept = by_whole (whole f file) refl
    where
      by-ends : (all : whole f file ≡ true) → (t u : Bool) → f.headed (at f file 0) ≡ t
          → f.ended (records f file) (end-of f file) ≡ u
          → verdict f new ≡ verdict f file
      by-ends all true true e g =
          verdict-scan f new (new-whole all) (head-kept all ∙ e) (end_kept all ∙ g)
          ∙ (scan-kept all ∙ sym (verdict-scan f file all e g))
      by-ends all true false e g =
          verdict-trailer f new (new-whole all) (head-kept all ∙ e) (end_kept all ∙ g)
          ∙ (ap (λ (n : ℕ). Err (Trailer n)) records-kept ∙ sym (verdict-trailer f file all e g))
      by-ends all false u e g =
          verdict-header f new (new-whole all) (head-kept all ∙ e)
          ∙ sym (verdict-header f file all e)

      by_whole : (t : Bool) → whole f file ≡ t → verdict f new ≡ verdict f file
      by_whole true e = by-ends e (f.headed (at f file 0)) (f.ended (records f file) (end-of f file)) refl refl
      by_whole false e = verdict-length f new (whole-kept ∙ e) ∙ sym (verdict-length f file e)

  pub checked-kept : checked f new ≡ checked f file
  unfolding checked
  checked-kept = ap (answered f new) verdict-kept ∙ by-verdict (verdict f file)
    where
      by-verdict : (v : Verdict) → answered f new v ≡ answered f file v
      by-verdict (Ok _) = ap Ok records-kept
      by-verdict (Err why) = refl
