-- Laws of the check of a file on its way.
-- Assumes nothing.
use Prim.Native.Nat.{ℕ, ◌+◌, ◌-◌, ◌<◌}
use mathlib.Core.Path.{◌≡◌, ◌∙◌}
use mathlib.Core.List.{List}
use native.Mathlib.Omega.{arith}
use Rattle.file.specs.Check.{Format, judged}
use Rattle.file.proofs.Laws.{scan_step}
use Rattle.file_check.specs.Scanning.{Onward}
use Rattle.refusal.specs.Verdict.{fine}

module _ (f : Format) (file : List ℕ) (n : ℕ) where
  -- a record more that is judged fine
  pub onward-next : (from i : ℕ) → Onward f file n from i → i < n - 1 → judged f file i ≡ fine → Onward f file n from (i + 1)
  onward-next from i o h e =
      let here : i + 1 - 1 ≡ i = omega arith in
      let s = o.reached in
      record {
        on = omega (arith, o.on);
        reached =
            record {
              all = s.all;
              two = s.two;
              few = s.few;
              low = omega arith;
              high = omega arith;
              last_fine = λ other. rw here e;
            };
        found = o.found ∙ scan_step (judged f file) (n - 1) i h e;
      }

  pub onward-on : (from i j : ℕ) → Onward f file n from i → Onward f file n i j → Onward f file n from j
  onward-on from i j o p = record { on = omega (arith, o.on, p.on); reached = p.reached; found = o.found ∙ p.found }
