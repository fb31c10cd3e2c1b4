use Rattle.std.proofs.Common.{◌+◌, ◌≤◌, length, ◌∙◌, arith}
use mathlib.Core.Path.{ap₂}
use Rattle.std.proofs.lemmas.List.{length_push}
use Rattle.std.proofs.lemmas.Slice.Zip.{zip_turn}
use Rattle.label.proofs.Puts.{put_as}
use Rattle.label.proofs.Going.{going-as, going_step}
use Rattle.tally_bytes.specs.Entries.{one_entry}
use Rattle.changes_codes.specs.Codes.{pair_bytes}
use Rattle.changes_codes.proofs.Pairs.{pairs-on}
use Rattle.changes_codes.proofs.entries.write_entries.Goals as goal

pub loop-code-preserved : goal.loop-code-preserved
loop-code-preserved c =
    let codes = c.args.codes.now in
    let counts = c.args.counts.now in
    let l = c.loop-code in
    let i = length l.yielded in
    let turn = zip_turn codes counts l.yielded _ _ c.next.new.self _ (cc) (cc) l.yielded_by _ c.in-Some.is c.next.ensures.steps in
    let this = ap₂ one_entry (turn.2 0) (turn.3 0) in
    let left = going-as (pairs-on codes counts i c.requires.counts_len turn.0) l.invariant.1 in
    let room : 0 + length (pair_bytes codes counts) ≤ length c.args.out.now = omega (arith, c.requires.counts_in_bounds) in
    rw (length_push l.yielded (c.in-Some.field-0-0, c.in-Some.field-0-1)) (
      c.entry_at-at.auto.out ∙ l.invariant.0,
      going_step _ left (put_as this c.entry_at-at.ensures) room,
    )
