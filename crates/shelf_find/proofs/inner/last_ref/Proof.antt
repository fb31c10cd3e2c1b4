-- `shelf_find::inner::last_ref` meets its contract. Assumes nothing.
use borrow.Author.Rules.{rules}
use Prim.Native.Nat.{ℕ, ◌-◌, ◌<◌}
use mathlib.Core.Path.{◌≡◌, sym, ap, ◌∙◌}
use mathlib.Core.List.{List}
use native.Mathlib.Omega.{arith}
use lib.ListN.{length, get_or}
use Rattle.shelf.specs.Shelf.{ref_at, last_of}
use Rattle.shelf.specs.Search.{upper_of, last_found_in, last_found}
use Rattle.shelf.proofs.Search.{upper-to, found_none, found_here, found-other, found_as}
use Rattle.shelf_find.proofs.inner.last_ref.Statement.{statement}
use Rattle.shelf_find.proofs.inner.last_ref.Tie as tie

-- once the search is done
module _ (u : tie.After-upper_ref-end) where
  abbrev start : tie.Start
  start = u.before.before.before.before

  abbrev file : List ℕ
  file = start.args.file.now

  abbrev numbers : ℕ → ℕ
  numbers i = get_or start.args.refs.now i 0

  abbrev last : ℕ
  last = last_of start.args.s file

  end_is : u.upper_ref-end.result ≡ upper_of numbers last start.args.r
  end_is = u.upper_ref-end.ensures ∙ ap (λ n. upper_of numbers n start.args.r) u.last_of.ensures

  -- the numbers find what the records find
  same : last_found_in numbers last start.args.r ≡ last_found start.args.s file start.args.r
  unfolding last_found
  same = found_as numbers (ref_at start.args.s file) last start.args.r start.requires.1.each

  inside : 1 < u.upper_ref-end.result → u.upper_ref-end.result - 1 < length start.args.refs.now
  inside h =
      let e = end_is in
      omega (arith, upper-to numbers start.args.r last (omega arith), start.requires.1.long)

upper-ref-requires : tie.Need-upper_ref-end-requires
upper-ref-requires c κs = omega (arith, c.last_of.ensures, c.requires.1.long)

returns : tie.Need-returns-then-end-le1
returns c =
    let u = c in
    sym (found_none (numbers u.before) (start u.before).args.r (last u.before) (rw (end_is u.before) at c.if-end-le1.true)) ∙ same u.before

mul-if2 : tie.Need-offset_bounds-refs-row
mul-if2 c = omega (arith, inside c.before c.if-end-le1.false)

shared-slice-read-if2 : tie.Need-bounds-refs-row
shared-slice-read-if2 c = inside c.before.before c.if-end-le1.false

cast-if2 : tie.Need-overflow_cast-refs
cast-if2 c = omega (arith, c.shared_slice_known-3-1.given (c.upper_ref-end.result - 1))

returns-2 : tie.Need-returns-then-refs-row
returns-2 c =
    let u = c in
    rw (end_is u.before.before.before)
    (sym
    (found_here (numbers u.before.before.before) (start u.before.before.before).args.r (last u.before.before.before) (rw (end_is u.before.before.before) at c.if-end-le1.false)
    (rw (end_is u.before.before.before) at c.if-refs-row.true))
    ∙ same u.before.before.before)

returns-3 : tie.Need-returns-else-refs-row
returns-3 c =
    let u = c in
    sym
    (found-other (numbers u.before.before.before) (start u.before.before.before).args.r (last u.before.before.before) (rw (end_is u.before.before.before) at c.if-end-le1.false)
    (λ e. c.if-refs-row.false (rw (end_is u.before.before.before) e)))
    ∙ same u.before.before.before

pub last_ref_spec : {M : Type 1} → statement M
last_ref_spec =
    tie.close
    (tie.spec
    (λ c κs. search rules)
    upper-ref-requires
    returns
    (λ c. search rules)
    mul-if2
    shared-slice-read-if2
    cast-if2
    returns-2
    returns-3)
