-- `book_source::inner::start_among` meets its contract. Assumes nothing.
use borrow.Author.Rules.{rules}
use Prim.Native.Nat.{ℕ, zero, suc, ◌-◌, ◌<◌}
use mathlib.Core.Path.{◌≡◌, refl, sym, ap}
use mathlib.Core.List.{List, ◌∷◌}
use native.Mathlib.Omega.{arith}
use lib.ListN.{length, get_or, get_or-eq_default}
use Rattle.book_source.specs.Starts.{start_among}
use Rattle.book_source.proofs.inner.start_among.Statement.{statement}
use Rattle.book_source.proofs.inner.start_among.Tie as tie

none-at : (starts : List ℕ) (k : ℕ) → k ≡ 0 → 0 ≡ start_among starts k
none-at starts k e = ap (start_among starts) (sym e)

none-behind : (starts : List ℕ) (k : ℕ) → length starts < k → 0 ≡ start_among starts k
none-behind starts k h = sym (get_or-eq_default (0 ∷ starts) 0 {n = k} (omega arith))

one-there : (starts : List ℕ) (k : ℕ) → (k ≡ 0 → ⊥) → get_or starts (k - 1) 0 ≡ start_among starts k
one-there starts zero some = absurd (some refl)
one-there starts (suc k) some = ap (λ i. get_or starts i 0) (let z : suc k - 1 ≡ k = omega arith in z)

returns : tie.Need-returns-then-k-eq0
returns c = none-at c.args.starts.now c.args.k c.if-k-eq0.true

returns-2 : tie.Need-returns-then-starts-k
returns-2 c =
    none-behind c.args.starts.now c.args.k (omega arith)

cast-result : tie.Need-overflow_cast-result
cast-result c = omega (arith, c.shared_slice_known-1.given (c.args.k - 1))

returns-3 : tie.Need-returns
returns-3 c =
    one-there c.args.starts.now c.args.k
    c.if-k-eq0.false

pub start_among_spec : {M : Type 1} → statement M
start_among_spec = tie.close (tie.spec returns returns-2 (search rules) (search rules) (search rules) cast-result returns-3)
