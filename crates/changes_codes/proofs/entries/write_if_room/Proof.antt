-- `changes_codes::entries::write_if_room` meets its contract. Assumes nothing.
use borrow.Author.Rules.{rules}
use Prim.Native.Nat.{ℕ, ◌*◌}
use mathlib.Core.Path.{◌≡◌, refl, sym, ap, ◌∙◌}
use mathlib.Core.List.{List}
use native.Mathlib.Omega.{arith}
use lib.ListN.{length}
use Rattle.refusal.specs.declared.Reason.TheVariants.{Room}
use Rattle.refusal.proofs.Outcomes.{said-as}
use Rattle.tally_bytes.proofs.Entries.{fits, falls-short}
use Rattle.changes_codes.specs.Codes.{pair_bytes}
use Rattle.changes_codes.proofs.Pairs.{pairs-long}
use Rattle.changes_codes.proofs.entries.write_if_room.Statement.{statement}
use Rattle.changes_codes.proofs.entries.write_if_room.Tie as tie
use Rattle.refusal.specs.Answer.{refusal}

module _ (s : tie.Start) where
  abbrev bytes : List ℕ
  bytes = pair_bytes s.args.codes.now s.args.counts.now

  needed : length bytes ≡ 8 * length s.args.codes.now
  needed = pairs-long s.args.codes.now s.args.counts.now s.requires.0

returns : tie.Need-returns-then-out-needed
returns c =
    let s = c in
    let out = s.args.out.now in
    rw c.into.ensures
    (said-as (ap (λ (n : ℕ). refusal 0 (Room n)) (sym (needed s.before.before.before.before.before))) refl
    ∙ sym (falls-short (length s.args.codes.now) (bytes s.before.before.before.before.before) out (omega (arith, needed s.before.before.before.before.before, c.if-out-needed.true))))

write-entries-requires : tie.Need-write_entries-requires
write-entries-requires c κs =
    let s = c in
    (s.requires.0, omega (arith, needed s.before.before.before.before.before, c.if-out-needed.false))

returns-2 : tie.Need-returns
returns-2 c =
    let w = c in
    let e = w in
    let s = e in
    let out = s.args.out.now in
    said-as refl w.write_entries.ensures.is
    ∙ sym (fits (length s.args.codes.now) (bytes s.before.before.before.before.before.before.before.before) out (omega (arith, needed s.before.before.before.before.before.before.before.before, e.if-out-needed.false)))

pub write_if_room_spec : {M : Type 1} → statement M
write_if_room_spec =
    tie.close (tie.spec (search rules) (search rules) returns write-entries-requires (search rules) returns-2)
