-- Laws of the padding of a text.
-- Assumes nothing.
use Prim.Native.Nat.{ℕ, ◌+◌, ◌-◌, ◌≤◌, ◌<◌}
use mathlib.Core.Path.{◌≡◌, refl, sym, ap, ◌∙◌}
use mathlib.Core.Bool.{Bool, true, false, cond, true≢false, ◌&&◌}
use mathlib.Core.List.{List, ◌++◌}
use native.Mathlib.Omega.{arith}
use borrow.Author.Tests.{eq-eqb}
use lib.Dec.{eqb}
use lib.ListN.{length, get_or}
use lib.Seq.{drop-cons}
use Rattle.field.specs.Text.{blank, part, text_in}
use Rattle.field.proofs.Tests.{and-true}
use Rattle.field.proofs.Texts.{part_none, text-back, text-stop, text-none}
use Rattle.field.proofs.Parts.{every_append, part_join, text-spaces}
use Rattle.field_read.specs.Padding.{Padded}

-- what the bytes of a text say, one after the other from its end
pub ruleset from_end = (text-back, text-stop, text-none)

-- what is not blank with spaces behind it is not blank without them
blank-front : (s t : List ℕ) → blank t ≡ true → blank (s ++ t) ≡ false → blank s ≡ false
blank-front s t spaces other = by-test (blank s) refl
  where
    by-test : (b : Bool) → blank s ≡ b → b ≡ false
    by-test true e = absurd (true≢false (sym (every_append (λ x. eqb x 32) s t e spaces) ∙ other))
    by-test false e = refl

module _ (rec : List ℕ) where
  -- one byte and two, as the code reads them
  pub one-blank : (e : ℕ) → 1 ≤ e → e ≤ length rec → blank (part rec (e - 1) e) ≡ eqb (get_or rec (e - 1) 0) 32
  one-blank e low high =
      let size : e - (e - 1) ≡ 1 = omega arith in
      rw (size, drop-cons rec (e - 1) 0 (omega arith)) (and-true (eqb (get_or rec (e - 1) 0) 32))

  pub two-blank : (e : ℕ) → 2 ≤ e → e ≤ length rec
      → blank (part rec (e - 2) e) ≡ eqb (get_or rec (e - 2) 0) 32 && eqb (get_or rec (e - 1) 0) 32
  two-blank e low high =
      let first : e - 2 ≤ e - 1 = omega arith in
      let next : e - 1 ≡ e - 2 + 1 = omega arith in
      let one : e - 1 - (e - 2) ≡ 1 = omega arith in
      rw (part_join rec (e - 2) (e - 1) e first (omega arith), one, drop-cons rec (e - 2) 0 (omega arith))
      (ap (λ b. eqb (get_or rec (e - 2) 0) 32 && b) (one-blank e (omega arith) high))

  module _ (end : ℕ) (low : 8 ≤ end) where
    pub padded-first : blank (part rec (end - 8) end) ≡ false → Padded rec end 8 end
    padded-first e =
        record {
          before = omega arith;
          room = omega arith;
          spaces = rw (part_none rec end end (omega arith)) refl;
          other = e;
        }

    -- half of the bytes are asked
    pub padded-half : (near from : ℕ) (b : Bool) (r : ℕ) → Padded rec end (near + near) from → blank (part rec (from - near) from) ≡ b
        → r ≡ cond b (from - near) from
        → Padded rec end near r
    padded-half near from true r p e is =
        rw is
        (record {
          before = omega (arith, p.before);
          room = omega (arith, p.room);
          spaces =
              rw (part_join rec (from - near) from end (omega arith) p.before)
              (every_append (λ x. eqb x 32) (part rec (from - near) from) (part rec from end) e p.spaces);
          other =
              blank-front (part rec (from - near - near) (from - near)) (part rec (from - near) from) e
              (rw (part_join rec (from - near - near) (from - near) from (omega arith) (omega arith)) at (rw twice at p.other));
        })
      where
        twice : from - (near + near) ≡ from - near - near
        twice = omega arith
    padded-half near from false r p e is =
        rw is
        (record { before = p.before; room = omega (arith, p.room); spaces = p.spaces; other = e })

    -- the text ends where its padding begins
    pub padded-text : (start from : ℕ) → start + 8 ≤ end → end ≤ length rec → Padded rec end 1 from
        → text_in rec start end ≡ part rec start from
    padded-text start from room high p =
        let on : start < from = omega (arith, p.room) in
        let in-rec : from ≤ length rec = omega (arith, p.before) in
        text-spaces rec start from end (omega arith) p.before p.spaces
        ∙ text-stop rec start from on in-rec
        (λ space.
        true≢false
        (sym (one-blank from (omega arith) in-rec ∙ eq-eqb (get_or rec (from - 1) 0) 32 space) ∙ p.other))
