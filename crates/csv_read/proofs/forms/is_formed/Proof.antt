-- `csv_read::forms::is_formed` meets its contract. Assumes nothing.
use borrow.Author.Rules.{rules}
use Prim.Native.Nat.{ℕ}
use mathlib.Core.Path.{sym, ap, ◌∙◌}
use mathlib.Core.Bool.{Bool}
use mathlib.Core.List.{List, [], ◌∷◌}
use lib.Dec.{eqb}
use lib.ListN.{get_or}
use Rattle.file_compare.specs.Order.{same}
use Rattle.csv_read.proofs.FormLaws.{form-text, form-at, before_at, ahead-at}
use Rattle.csv_read.proofs.forms.is_formed.Statement.{statement}
use Rattle.csv_read.proofs.forms.is_formed.Tie as tie

-- the arguments
module _ (c : tie.After-shared_slice_known-2-1) where
  abbrev f : List ℕ
  f = c.args.f.now

returns : tie.Need-returns-in-0
returns c fields b d = c.is_postcode.ensures ∙ form-at fields c.in-0.is (f c.before.before)

returns-2 : tie.Need-returns-in-1
returns-2 c fields b d =
    ap (λ (n : ℕ). eqb n 0) c.filled_fault.ensures ∙ form-at fields c.in-1.is (f c.before.before)

returns-3 : tie.Need-returns-in-3
returns-3 c fields b d =
    let key = c.in-3.is in
    c.double_formed.ensures (get_or fields 2 []) (before_at fields key b) ∙ form-at fields key (f c.before.before)

returns-4 : tie.Need-returns-in-6
returns-4 c fields b d = c.are_digits.ensures ∙ form-at fields c.in-6.is (f c.before.before)

returns-5 : tie.Need-returns-in-11
returns-5 c fields b d =
    let key = c.in-11.is in
    c.organisation_formed.ensures (get_or fields 10 []) (get_or fields 13 []) (before_at fields key b)
    (ap (λ (t : List ℕ). same t (83 ∷ [])) (ahead-at fields key d))
    ∙ form-at fields key (f c.before.before)

returns-6 : tie.Need-returns-in-12
returns-6 c fields b d = c.are_digits-in-12.ensures ∙ form-at fields c.in-12.is (f c.before.before)

returns-7 : tie.Need-returns-in-13
returns-7 c fields b d = c.is_type.ensures ∙ form-at fields c.in-13.is (f c.before.before)

returns-8 : tie.Need-returns-in-14
returns-8 c fields b d = c.is_indicator.ensures ∙ form-at fields c.in-14.is (f c.before.before)

returns-9 : tie.Need-returns-in-15
returns-9 c fields b d = c.is_suffix.ensures ∙ form-at fields c.in-15.is (f c.before.before)

returns-10 : tie.Need-returns-in_default
returns-10 c fields b d =
    let r = c.in_default.in_default-own.rest in
    let s = c in
    ap (λ (n : ℕ). eqb n 0) c.text_fault.ensures
    ∙ sym
    (ap (λ (form : List ℕ → Bool). form (f c.before.before))
    (form-text fields s.args.n s.requires.0 r.0.0.0.0.0.0.0.0.1 r.0.0.0.0.0.0.0.1 r.0.0.0.0.0.0.1
    r.0.0.0.0.0.1 r.0.0.0.0.1 r.0.0.0.1 r.0.0.1 r.0.1 r.1))

pub is_formed_spec : {M : Type 1} → statement M
is_formed_spec =
    tie.close
    (tie.spec (search rules) (search rules) (search rules) (search rules) (search rules) (search rules) (search rules)
    (search rules) (search rules) (search rules) returns returns-2 returns-3 returns-4 returns-5 returns-6 returns-7
    returns-8 returns-9 returns-10)
