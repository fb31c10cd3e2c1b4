-- Laws of labels asked of a set: its views by the numbers of their records.
-- Assumes nothing.
use Prim.Native.Nat.{ℕ, zero, suc, ◌+◌, ◌-◌, ◌/◌, ◌≤◌, ◌<◌}
use mathlib.Core.Path.{◌≡◌, refl, sym, ap, ◌∙◌}
use mathlib.Core.Bool.{Bool, true, false, cond}
use mathlib.Core.List.{List}
use mathlib.Core.Option.{none, some}
use native.Mathlib.Omega.{arith}
use borrow.Author.Tests.{eq-eqb, ne_eqb, ltb-true, ltb-false, lt-ltb, le-ltb}
use lib.Dec.{ltb}
use lib.ListN.{length}
use Rattle.refusal.specs.declared.Reason.TheVariants.{NoSuchNumber}
use Rattle.refusal.specs.Outcome.{said}
use Rattle.refusal.proofs.Outcomes.{afterwards-value}
use Rattle.file_record.specs.Parts.{record_at}
use Rattle.source.specs.Address.{Lookup, Address}
use Rattle.source.specs.Resolve.{forbidden, missing, elements_of, Resolved, resolve}
use Rattle.label.specs.Label.{resolved_outcome}
use Rattle.field_outward.specs.Outward.{outward_fault}
use Rattle.file.specs.Mainfile.{addresses}
use Rattle.file.proofs.Laws.{at-least-two, within-limit}
use Rattle.ask.specs.Labels.{kth, kth_label, label_outcome, view_label, code_label}
use Rattle.ask.proofs.Laws.{by-good-code}
use Rattle.mainfile.specs.Set.{Set, set_judged}
use Rattle.mainfile.specs.Rows.{set_lookup}
use Rattle.mainfile.specs.Addresses.{address_of, addresses_from, addresses_in}
use Rattle.mainfile.specs.Main.{main_of}
use Rattle.mainfile.specs.Accepted.{AcceptedSet}
use Rattle.mainfile_check.proofs.Laws.{set-accepted}
use Rattle.mainfile_views.specs.Range.{views_in, first_in, many_in}
use Rattle.mainfile_views.proofs.Together.{in-code-range, range-low, range-high}
use Rattle.mainfile_label.specs.Places.{place_among, resolved_at, place_label, AddressPlace, Between}
use Rattle.std.specs.Prelude.{Ok}
use Rattle.refusal.specs.Answer.{refusal}

-- ---- among records that stand together

pub among-some : (first many k : ℕ) → (k ≡ 0 → ⊥) → k - 1 < many → first + (k - 1) ≡ place_among first many k
among-some first many zero there h = absurd (there refl)
among-some first many (suc j) there h =
    let before : suc j - 1 ≡ j = omega arith in
    rw before (simp (lt-ltb j many (rw before at h)))

pub among_none : (first many k : ℕ) → (k ≡ 0 → ⊥) → many ≤ k - 1 → 0 ≡ place_among first many k
among_none first many zero there h = absurd (there refl)
among_none first many (suc j) there h =
    let before : suc j - 1 ≡ j = omega arith in simp (le-ltb j many (rw before at h))

-- ---- one place

module _ (s : Set) (place : ℕ) (out : List ℕ) where
  pub no_place : place ≡ 0 → place_label s place out ≡ said (refusal 0 NoSuchNumber) out
  unfolding place_label
  no_place e = rw (eq-eqb place 0 e)

  pub some-place : (place ≡ 0 → ⊥) → (r : Resolved) → resolved_at s place ≡ r
      → place_label s place out ≡ resolved_outcome r out
  unfolding place_label
  some-place there r e = rw (ne_eqb place 0 there) (ap (λ (r : Resolved). resolved_outcome r out) e)

-- ---- the views in file order

-- what an address resolves to does not look at its number
pub resolve-number : (look : Lookup) (rec organisations : List ℕ) (n m : ℕ)
    → resolve look (address_of n rec organisations) ≡ resolve look (address_of m rec organisations)
unfolding resolve forbidden missing elements_of address_of
resolve-number look rec organisations n m = refl

module _ (s : Set) where
  abbrev address_at : ℕ → Address
  address_at n = address_of n (record_at 88 s.addresses n) s.organisations

  pub kth-there : (k n j : ℕ) → j < k → kth (addresses_from s k n) (suc j) ≡ some (address_at (n + j))
  kth-there zero n j h = absurd (omega arith)
  kth-there (suc k) n zero h = rw (let z : n + 0 ≡ n = omega arith in z)
  kth-there (suc k) n (suc j) h =
      kth-there k (suc n) j (omega arith) ∙ rw (let z : suc n + j ≡ n + suc j = omega arith in z)

  pub kth-none : (k n j : ℕ) → k ≤ j → kth (addresses_from s k n) (suc j) ≡ none
  kth-none zero n j h = refl
  kth-none (suc k) n zero h = absurd (omega arith)
  kth-none (suc k) n (suc j) h = kth-none k (suc n) j (omega arith)

  pub kth-zero : (k n : ℕ) → kth (addresses_from s k n) 0 ≡ none
  kth-zero zero n = refl
  kth-zero (suc k) n = refl

  -- the label of the record of the k-th of m addresses from record n on is the k-th's
  pub place-is-kth : (n m k : ℕ) (out : List ℕ) → 1 ≤ n
      → place_label s (place_among n m k) out ≡ kth_label (set_lookup s) (addresses_from s m n) k out
  unfolding kth_label
  place-is-kth n m zero out low =
      no_place s 0 out refl ∙ sym (ap (λ o. label_outcome (set_lookup s) o out) (kth-zero m n))
  place-is-kth n m (suc j) out low = by-test (ltb j m) refl
    where
      by-test : (t : Bool) → ltb j m ≡ t
          → place_label s (cond t (n + j) 0) out ≡ label_outcome (set_lookup s) (kth (addresses_from s m n) (suc j)) out
      by-test true e =
          some-place s (n + j) out (λ z. omega arith) _
          (resolve-number (set_lookup s) (record_at 88 s.addresses (n + j)) s.organisations 0 (n + j))
          ∙ sym (ap (λ o. label_outcome (set_lookup s) o out) (kth-there m n j (ltb-true j m e)))
      by-test false e =
          no_place s 0 out refl
          ∙ sym (ap (λ o. label_outcome (set_lookup s) o out) (kth-none m n j (ltb-false j m e)))

-- ---- records that stand together

module _ (s : Set) (ok : AcceptedSet s) where
  abbrev number : ℕ
  number = length s.addresses / 88

  two : 2 ≤ number
  two = at-least-two addresses s.addresses ok.addresses.is_whole

  -- all addresses of an accepted set, and those of a code
  pub all-between : Between s 1 (views_in s.addresses)
  all-between = record { accepted = ok; low = omega arith; high = omega (arith, two) }

  pub code-between : (code : List ℕ) → Between s (first_in s.addresses code) (many_in s.addresses code)
  code-between code =
      record {
        accepted = ok;
        low = range-low s code ok.addresses;
        high = omega (arith, two, range-high s code ok.addresses);
      }

module _ (s : Set) (n m : ℕ) (b : Between s n m) where
  pub between-few : n + m ≤ 1_000_000
  between-few = omega (arith, b.high, within-limit addresses s.addresses b.accepted.addresses.is_whole)

  -- the record of one of them is an address's
  pub among-place : (k : ℕ) → AddressPlace s (place_among n m k)
  among-place zero = record { accepted = b.accepted; high = omega (arith, b.low, b.high) }
  among-place (suc j) = record { accepted = b.accepted; high = by-test (ltb j m) refl }
    where
      by-test : (t : Bool) → ltb j m ≡ t → cond t (n + j) 0 < length s.addresses / 88 - 1
      by-test true e = omega (arith, b.high, ltb-true j m e)
      by-test false e = omega (arith, b.low, b.high)

-- ---- all files together

module _ (s : Set) {n : ℕ} (taken : set_judged s ≡ Ok n) where
  pub view-by-place : (view : ℕ) (out : List ℕ)
      → place_label s (place_among 1 (views_in s.addresses) view) out ≡ view_label (main_of s) view out
  unfolding view_label addresses_in
  view-by-place view out =
      place-is-kth s 1 (views_in s.addresses) view out (omega arith) ∙ sym (afterwards-value refusal out _ taken)

  pub code-by-place : (code : List ℕ) → outward_fault code ≡ 0 → (k : ℕ) (out : List ℕ)
      → place_label s (place_among (first_in s.addresses code) (many_in s.addresses code) k) out
      ≡ code_label (main_of s) code k out
  unfolding code_label
  code-by-place code clean k out =
      let a = (set-accepted s taken).addresses in
      place-is-kth s (first_in s.addresses code) (many_in s.addresses code) k out (range-low s code a)
      ∙ (ap (λ views. kth_label (set_lookup s) views k out) (sym (in-code-range s code a))
      ∙ sym (by-good-code refusal code out _ (main_of s) taken clean))
