-- A pair of files is a source that a pack can be cut from; and what demand 2 says of its labels and of its lists.
-- Assumes nothing.
use Prim.Native.Nat.{ℕ, zero, suc, ◌+◌}
use mathlib.Core.List.{List, [], ◌∷◌}
use mathlib.Core.Option.{some}
use mathlib.Core.Path.{◌≡◌, refl, sym, ap}
use native.Mathlib.Omega.{arith}
use borrow.Author.Tests.{eq-eqb}
use lib.ListN.{length}
use Rattle.field_outward.specs.Outward.{outward_fault}
use Rattle.source.specs.Address.{Address}
use Rattle.file.specs.Check.{records}
use Rattle.file.specs.Formats.{table_format, point_format}
use Rattle.file.specs.Accepted.{Accepted}
use Rattle.file.proofs.Accepted.{accepts}
use Rattle.item.specs.Lines.{view_line}
use Rattle.ask.specs.Labels.{kth}
use Rattle.ask.proofs.Kth.{kth-within}
use Rattle.changes_views.specs.Views.{wanted_in}
use Rattle.changes_source.specs.Addresses.{address_of, address_at, numbered, addresses_in}
use Rattle.changes_list.specs.Listing.{live_at, live_answer}
use Rattle.changes_pair.specs.Pair.{pair_of}
use Rattle.changes_pair.proofs.Live.{live-length}
use Rattle.changes_label.proofs.Laws.{table-accepted, points-accepted}
use Rattle.changes_sound.proofs.Sound.{pair-sound}
use Rattle.demands.specs.Two.{IsValue, Taken, BothAccepted, ViewExactly, CodeExactly}
use Rattle.demands.specs.Three.{Packable, packed}
use Rattle.demands.proofs.Two.{view-exactly, code-exactly, exactly-where}
use Rattle.std.specs.Prelude.{Ok, Err}
use Rattle.refusal.specs.Answer.{Answer}

pub pair-packable : (table points : List ℕ) → Packable (pair_of table points)
pair-packable table points =
    record {
      sound = λ taken code clean fine.
          pair-sound table points code (table-accepted table points taken) (points-accepted table points taken) clean fine;
    }

-- it is accepted exactly where both files are
pub pair-taken : (table points : List ℕ) → Accepted table_format table → Accepted point_format points
    → (pair_of table points).judged ≡ Ok (records point_format points)
pair-taken table points t p = rw (accepts table_format table t, accepts point_format points p)

pub taken-pair : (table points : List ℕ) {n : ℕ} → (pair_of table points).judged ≡ Ok n
    → BothAccepted table points
taken-pair table points e = (table-accepted table points e, points-accepted table points e)

taken-both : (table points : List ℕ) → Taken (pair_of table points) → BothAccepted table points
taken-both table points t = by-judged (pair_of table points).judged refl t
  where
    by-judged : (j : Answer) → (pair_of table points).judged ≡ j → IsValue j → BothAccepted table points
    by-judged (Ok n) e t = taken-pair table points e
    by-judged (Err r) e t = absurd t

both-taken : (table points : List ℕ) → BothAccepted table points → Taken (pair_of table points)
both-taken table points b = rw (pair-taken table points b.0 b.1) tt

-- so a label of it is there exactly where both files, the code and the number are accepted, and the rest of demand 2 holds
module _ (table points out : List ℕ) where
  pub pair-view : (view : ℕ) → ViewExactly (BothAccepted table points) (pair_of table points) view out
  pair-view view =
      exactly-where (taken-both table points) (both-taken table points) (view-exactly (pair_of table points) out view)

  pub pair_code : (code : List ℕ) (k : ℕ) → CodeExactly (BothAccepted table points) (pair_of table points) code k out
  pair_code code k =
      exactly-where (taken-both table points) (both-taken table points) (code-exactly (pair_of table points) out code k)

-- the line before a view in a listing: "the line `view N L` (N the view's number in the file)"
numbered-on : (points : List ℕ) (n : ℕ) (places : List ℕ) (k : ℕ) (a : Address) → kth (numbered points n places) k ≡ some a
    → a.view + 1 ≡ n + k
unfolding address_of
numbered-on points n [] k a e = absurd (omega (arith, (kth-within [] k a e).0, (kth-within [] k a e).1))
numbered-on points n (place ∷ places) zero a e =
    absurd (omega (arith, (kth-within (numbered points n (place ∷ places)) 0 a e).0))
numbered-on points n (place ∷ places) (suc zero) a e =
    let same : address_at points n place ≡ a = cc in
    ap (λ (b : Address). b.view + 1) (sym same)
numbered-on points n (place ∷ places) (suc (suc k)) a e = omega (arith, numbered-on points (suc n) places (suc k) a e)

pub pair-headed : (table points : List ℕ) (k : ℕ) (a : Address) → kth (pair_of table points).views k ≡ some a
    → (pair_of table points).heading a ≡ view_line k a.letter
unfolding addresses_in
pair-headed table points k a e =
    let number : a.view ≡ k = omega (arith, numbered-on points 1 (wanted_in [] points) k a e) in
    ap (λ (n : ℕ). view_line n a.letter) number

-- a pack has as many points as `ttw_live` says
pub live-counted : (table points code : List ℕ) {n : ℕ} → (pair_of table points).judged ≡ Ok n → outward_fault code ≡ 0
    → live_answer points code ≡ Ok (length (packed (pair_of table points) code))
unfolding live_answer live_at
live-counted table points code taken clean =
    rw (accepts point_format points (points-accepted table points taken), eq-eqb (outward_fault code) 0 clean)
    (ap Ok (sym (live-length points code clean)))
