-- A set is a source that a pack can be cut from; and what demand 2 says of its labels and of its lists.
-- Assumes nothing.
use Prim.Native.Nat.{ℕ, zero, suc, ◌+◌, ◌-◌, ◌/◌, ◌≤◌}
use mathlib.Core.Bool.{true≢false}
use mathlib.Core.List.{List, []}
use mathlib.Core.Option.{some}
use mathlib.Core.Path.{◌≡◌, refl, sym, ap, ◌∙◌}
use native.Mathlib.Omega.{arith}
use borrow.Author.Tests.{eq-eqb}
use lib.Dec.{lit≤}
use lib.ListN.{length}
use Rattle.field_outward.specs.Outward.{outward_fault}
use Rattle.refusal.specs.declared.Reason.{Reason}
use Rattle.file_record.specs.Parts.{record_at}
use Rattle.source.specs.Address.{Address}
use Rattle.file.specs.Check.{checked}
use Rattle.file.specs.Mainfile.{main_format}
use Rattle.file.specs.Mainfile as Format
use Rattle.file.specs.declared.MainKind.{MainKind}
use Rattle.file.specs.declared.MainKind.TheVariants.{
  Localities,
  Thoroughfares,
  Descriptors,
  Buildings,
  SubBuildings,
  Organisations,
  Addresses,
}
use Rattle.file.proofs.Laws.{main-between}
use Rattle.file.specs.Accepted.{Accepted}
use Rattle.file.proofs.Accepted.{accepts}
use Rattle.ask.specs.Labels.{kth}
use Rattle.ask.proofs.Kth.{kth-within}
use Rattle.mainfile.specs.Set.{Set, set_judged}
use Rattle.mainfile.specs.Accepted.{AcceptedSet}
use Rattle.mainfile.specs.Addresses.{address_of, addresses_from, addresses_in}
use Rattle.mainfile.specs.Main.{main_of, number_line}
use Rattle.mainfile_check.proofs.Laws.{set-accepted, set-accepts}
use Rattle.mainfile_views.specs.Range.{live_at, live_answer}
use Rattle.mainfile_views.proofs.Together.{in-code-many}
use Rattle.mainfile_sound.proofs.Sound.{set-sound}
use Rattle.mainfile_list.specs.Listing.{views_answer}
use Rattle.demands.specs.Two.{IsValue, Taken, ViewExactly, CodeExactly}
use Rattle.demands.specs.Three.{Packable, packed}
use Rattle.demands.specs.Apart.{OfSet, AnswerIs}
use Rattle.demands.proofs.Two.{view-exactly, code-exactly, exactly-where}
use Rattle.demands.proofs.Says.{then_is, checked-is}
use Rattle.std.specs.Prelude.{Ok, Err}
use Rattle.refusal.specs.Answer.{Answer}

-- what holds of the refusals of each of the seven files holds of those of the set
module _ (Kind : ℕ → Reason → Type 0) (s : Set) where
  pub in_turn : AnswerIs Kind (checked Format.localities s.localities)
      → AnswerIs Kind (checked Format.thoroughfares s.thoroughfares)
      → AnswerIs Kind (checked Format.descriptors s.descriptors)
      → AnswerIs Kind (checked Format.buildings s.buildings)
      → AnswerIs Kind (checked Format.sub_buildings s.sub_buildings)
      → AnswerIs Kind (checked Format.organisations s.organisations)
      → AnswerIs Kind (checked Format.addresses s.addresses)
      → AnswerIs Kind (set_judged s)
  unfolding set_judged
  in_turn l t d b u o a =
      then_is Kind (checked Format.localities s.localities) _ l
      (then_is Kind (checked Format.thoroughfares s.thoroughfares) _ t
      (then_is Kind (checked Format.descriptors s.descriptors) _ d
      (then_is Kind (checked Format.buildings s.buildings) _ b
      (then_is Kind (checked Format.sub_buildings s.sub_buildings) _ u
      (then_is Kind (checked Format.organisations s.organisations) _ o a)))))

-- a file of a set gives 1 to 5, and is the one to blame
file-blamed : (kind : MainKind) (file : List ℕ) → 1 ≤ (main_format kind).file → (main_format kind).file ≤ 7
    → AnswerIs OfSet (checked (main_format kind) file)
file-blamed kind file low high =
    checked-is OfSet (main_format kind) file
    (record {
      short = (low, (high, lit≤ tt));
      header = (low, (high, lit≤ tt));
      trailer = λ last h. (low, (high, lit≤ tt));
      malformed = λ i h. (low, (high, lit≤ tt));
      not-above = λ i h. (low, (high, lit≤ tt));
      misplaced = λ i h e. absurd (true≢false (sym (main-between kind _ _ _) ∙ e));
    })

from-length : (s : Set) (k n : ℕ) → length (addresses_from s k n) ≡ k
from-length s zero n = refl
from-length s (suc k) n = ap suc (from-length s k (suc n))

pub set-length : (s : Set) → length (addresses_in s) ≡ length s.addresses / 88 - 2
unfolding addresses_in
set-length s = from-length s (length s.addresses / 88 - 2) 1

module _ (s : Set) where
  pub set-packable : Packable (main_of s)
  set-packable = record { sound = λ taken code. set-sound s code (set-accepted s taken) }

  -- "behind the file's number, 1 to 7 as listed and tried in that order; 6 doesn't occur"
  pub set-blames : AnswerIs OfSet (set_judged s)
  set-blames =
      in_turn OfSet s (file-blamed Localities s.localities (lit≤ tt) (lit≤ tt))
      (file-blamed Thoroughfares s.thoroughfares (lit≤ tt) (lit≤ tt))
      (file-blamed Descriptors s.descriptors (lit≤ tt) (lit≤ tt))
      (file-blamed Buildings s.buildings (lit≤ tt) (lit≤ tt))
      (file-blamed SubBuildings s.sub_buildings (lit≤ tt) (lit≤ tt))
      (file-blamed Organisations s.organisations (lit≤ tt) (lit≤ tt))
      (file-blamed Addresses s.addresses (lit≤ tt) (lit≤ tt))

  -- it is accepted exactly where all seven files are
  taken-all : Taken (main_of s) → AcceptedSet s
  taken-all t = by-judged (set_judged s) refl t
    where
      by-judged : (j : Answer) → set_judged s ≡ j → IsValue j → AcceptedSet s
      by-judged (Ok n) e t = set-accepted s e
      by-judged (Err r) e t = absurd t

  all-taken : AcceptedSet s → Taken (main_of s)
  all-taken a = rw (set-accepts s a) tt

  -- so a label of it is there exactly where all files, the code and the number are accepted, and the rest of demand 2 holds
  pub set_view : (view : ℕ) (out : List ℕ) → ViewExactly (AcceptedSet s) (main_of s) view out
  set_view view out = exactly-where taken-all all-taken (view-exactly (main_of s) out view)

  pub set_code : (code : List ℕ) (k : ℕ) (out : List ℕ) → CodeExactly (AcceptedSet s) (main_of s) code k out
  set_code code k out = exactly-where taken-all all-taken (code-exactly (main_of s) out code k)

  -- the line before a view in a listing: "the line `view N`, no letter"
  numbered-on : (m n k : ℕ) (a : Address) → kth (addresses_from s m n) k ≡ some a → a.view + 1 ≡ n + k
  unfolding address_of
  numbered-on zero n k a e = absurd (omega (arith, (kth-within [] k a e).0, (kth-within [] k a e).1))
  numbered-on (suc m) n zero a e = absurd (omega (arith, (kth-within (addresses_from s (suc m) n) 0 a e).0))
  numbered-on (suc m) n (suc zero) a e =
      let same : address_of n (record_at 88 s.addresses n) s.organisations ≡ a = cc in
      ap (λ (b : Address). b.view + 1) (sym same)
  numbered-on (suc m) n (suc (suc k)) a e = omega (arith, numbered-on m (suc n) (suc k) a e)

  pub set-headed : (k : ℕ) (a : Address) → kth (main_of s).views k ≡ some a → (main_of s).heading a ≡ number_line k
  unfolding addresses_in
  set-headed k a e =
      let number : a.view ≡ k = omega (arith, numbered-on (length s.addresses / 88 - 2) 1 k a e) in ap number_line number

  -- it has as many views as its call says
  pub views-counted : {n : ℕ} → set_judged s ≡ Ok n → views_answer s ≡ Ok (length (main_of s).views)
  views-counted taken = rw taken (ap Ok (sym (set-length s)))

  -- of an accepted address file, whatever the other six are: a pack has as many points as the live ones of the code are said
  -- to be
  pub main-live-counted : (code : List ℕ) → Accepted Format.addresses s.addresses → outward_fault code ≡ 0
      → live_answer s.addresses code ≡ Ok (length (packed (main_of s) code))
  unfolding live_answer live_at
  main-live-counted code a clean =
      rw (accepts Format.addresses s.addresses a, eq-eqb (outward_fault code) 0 clean) (ap Ok (sym (in-code-many s code a)))
