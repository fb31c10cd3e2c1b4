-- `csv_read::forms::small_ahead` meets its contract. Assumes nothing.
use borrow.Author.Rules.{rules}
use Prim.Native.Nat.{ℕ, ◌+◌, ◌<◌}
use mathlib.Core.Path.{◌≡◌, sym, ap, ◌∙◌}
use mathlib.Core.Bool.{Bool}
use mathlib.Core.List.{List, [], ◌∷◌}
use native.Mathlib.Omega.{arith}
use lib.ListN.{drop, get_or}
use Rattle.file_compare.specs.Order.{same}
use Rattle.csv_paf.specs.File.{fields_of}
use Rattle.csv_read.proofs.Cut.{comma-within, this-field, next_field, no_field}
use Rattle.csv_read.proofs.forms.small_ahead.Statement.{statement}
use Rattle.csv_read.proofs.forms.small_ahead.Tie as tie

abbrev is-small : List ℕ → Bool
is-small t = same t (83 ∷ [])

-- once the first field's end is found
module _ (e : tie.After-field_end-first) where
  abbrev start : tie.Start
  start = e.before.before

  abbrev csv : List ℕ
  csv = start.args.csv.now

  abbrev first : ℕ
  first = e.field_end-first.result

returns : tie.Need-returns-then-byte_of-ne44
returns c =
    let e = c in
    sym
    (ap is-small
    (no_field (csv e.before.before) (start e.before.before).args.start (first e.before.before) e.field_end-first.ensures 1 (λ z. c.if-byte_of-ne44.true (c.byte_of.ensures ∙ z))))

-- behind the first comma
module _ (c : tie.Else-byte_of-ne44) where
  abbrev one : tie.After-field_end-first
  one = c.before.before

  comma : get_or (csv one) (first one) 0 ≡ 44
  comma = sym c.byte_of.ensures ∙ c.if-byte_of-ne44.false

  one_on : get_or (fields_of (drop (start one).args.start (csv one))) 2 [] ≡ get_or (fields_of (drop (first one + 1) (csv one))) 1 []
  one_on = next_field (csv one) (start one).args.start (first one) one.field_end-first.ensures 1 comma

add-field-end : tie.Need-overflow_add-first
add-field-end c =
    omega (arith, comma-within (csv (one c)) (first (one c)) (comma c), (start (one c)).well_formed.0.1)

returns-2 : tie.Need-returns-then-byte_of-ne44-2
returns-2 c =
    let e = c in
    let f = one e.before.before.before in
    sym
    (ap is-small
    (one_on e.before.before.before
    ∙ no_field (csv f) (first f + 1) e.field_end-second.result e.field_end-second.ensures 0
    (λ z. c.if-byte_of-ne44-2.true (c.byte_of-2.ensures ∙ z))))

-- behind the second
module _ (c : tie.Else-byte_of-ne44-2) where
  abbrev two : tie.After-field_end-second
  two = c.before.before

  abbrev bytes : List ℕ
  bytes = csv (one two.before)

  comma2 : get_or bytes two.field_end-second.result 0 ≡ 44
  comma2 = sym c.byte_of-2.ensures ∙ c.if-byte_of-ne44-2.false

  two-on : get_or (fields_of (drop (first (one two.before) + 1) bytes)) 1 []
      ≡ get_or (fields_of (drop (two.field_end-second.result + 1) bytes)) 0 []
  two-on = next_field bytes (first (one two.before) + 1) two.field_end-second.result two.field_end-second.ensures 0 comma2

  fits : two.field_end-second.result + 1 < 18_446_744_073_709_551_616
  fits = omega (arith, comma-within bytes two.field_end-second.result comma2, (start (one two.before)).well_formed.0.1)

add-field-end-2 : tie.Need-overflow_add-second
add-field-end-2 c = omega (arith, fits c)

add-part-of : tie.Need-overflow_add-second-2
add-part-of c = omega (arith, fits c.before)

returns-3 : tie.Need-returns
returns-3 c =
    let p = c in
    let third = p in
    let behind = third in
    c.same_bytes.ensures
    ∙ ap is-small
    (p.part_of.ensures
    ∙ sym
    (one_on (two behind.before.before.before.before.before).before
    ∙ (two-on behind.before.before.before.before.before
    ∙ this-field (bytes behind.before.before.before.before.before) ((two behind.before.before.before.before.before).field_end-second.result + 1) third.field_end-third.result third.field_end-third.ensures)))

pub small_ahead_spec : {M : Type 1} → statement M
small_ahead_spec =
    tie.close
    (tie.spec (search rules) (search rules) returns add-field-end (search rules) (search rules) returns-2 add-field-end-2 (search rules) add-part-of (search rules) (search rules) returns-3)
