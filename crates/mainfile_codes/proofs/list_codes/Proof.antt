-- `mainfile_codes::list_codes` meets its contract. Assumes nothing.
use borrow.Author.Rules.{rules}
use Prim.Native.Nat.{ℕ, ◌*◌}
use mathlib.Core.Path.{◌≡◌, refl, sym, ap, ◌∙◌}
use mathlib.Core.List.{List}
use native.Mathlib.Omega.{arith}
use lib.ListN.{length}
use Rattle.refusal.specs.declared.Reason.TheVariants.{Room}
use Rattle.refusal.proofs.Outcomes.{said-as}
use Rattle.tally.specs.Tally.{Entry}
use Rattle.tally_bytes.specs.Entries.{entry_bytes}
use Rattle.tally_bytes.proofs.Entries.{entries-long, fits, falls-short}
use Rattle.mainfile_codes.specs.Codes.{codes_in}
use Rattle.mainfile_codes.proofs.list_codes.Statement.{statement}
use Rattle.mainfile_codes.proofs.list_codes.Tie as tie
use Rattle.std.specs.Prelude.{Ok}
use Rattle.refusal.specs.Answer.{refusal}

-- once the codes are counted
module _ (k : tie.After-count_codes-n) where
  abbrev s : tie.Start
  s = k.before.before.before

  abbrev out : List ℕ
  out = s.args.out.now

  abbrev es : List Entry
  es = codes_in s.args.addresses.now

  needed : 8 * k.count_codes-n.result ≡ length (entry_bytes es)
  needed = omega (arith, k.count_codes-n.ensures.0, entries-long es)

count-codes-requires : tie.Need-count_codes-n-requires
count-codes-requires c κs = c.requires

returns : tie.Need-returns-then-out-needed
returns c =
    let k = c in
    rw c.into.ensures
    (said-as (ap (λ (n : ℕ). refusal 0 (Room n)) (needed k.before.before)) refl
    ∙ sym (falls-short (length (es k.before.before)) (entry_bytes (es k.before.before)) (out k.before.before) (omega (arith, needed k.before.before, c.if-out-needed.true))))

write-codes-requires : tie.Need-write_codes-requires
write-codes-requires c κs =
    let e = c in
    let k = e in
    ((s k.before.before).requires, omega (arith, needed k.before.before, e.if-out-needed.false))

returns-2 : tie.Need-returns
returns-2 c =
    let w = c in
    let e = w in
    let k = e in
    said-as (ap Ok k.count_codes-n.ensures.0) w.write_codes.ensures.is
    ∙ sym (fits (length (es k.before.before.before.before.before)) (entry_bytes (es k.before.before.before.before.before)) (out k.before.before.before.before.before) (omega (arith, needed k.before.before.before.before.before, e.if-out-needed.false)))

pub list_codes_spec : {M : Type 1} → statement M
list_codes_spec =
    tie.close
    (tie.spec count-codes-requires (search rules) (search rules) returns write-codes-requires (search rules) returns-2)
