-- `report_write::blocks::view_at` meets its contract. Assumes nothing.
use borrow.Author.Rules.{rules}
use mathlib.Core.Path.{refl, sym, subst}
use mathlib.Core.List.{List}
use Prim.Native.Nat.{ℕ, ◌≤◌}
use native.Mathlib.Omega.{arith}
use lib.ListN.{length, length-replicate}
use lib.Seq.{length-take-le}
use Rattle.refusal.specs.Outcome.{Outcome}
use Rattle.label_print.proofs.Unique.{zeros}
use Rattle.report.specs.Report.{view_text}
use Rattle.report.proofs.Feeds.{fed-as}
use Rattle.report_write.proofs.Labels.{Told, ToldBy, told-value, told-refused, view-told}
use Rattle.report_write.proofs.blocks.view_at.Statement.{statement}
use Rattle.report_write.proofs.blocks.view_at.Tie as tie
use Rattle.refusal.specs.Answer.{Answer}

size : (n : ℕ) → n ≤ length (zeros n)
size n = omega (arith, length-replicate {A = ℕ} n 0)

-- once the label was asked
module _ (l : tie.After-fresh_label-fresh) where
  abbrev start : tie.Start
  start = l.before.before.before.before

  abbrev text : List ℕ
  text = view_text start.args.table.now start.args.points.now start.args.place

  told : Told text l.fresh_label-fresh.result.answer l.fresh_label-fresh.result.bytes
  told =
      subst (λ (o : Outcome Answer). ToldBy text o) (sym l.fresh_label-fresh.ensures.0)
      (view-told start.args.table.now start.args.points.now start.args.place start.requires.1 (zeros 499)
      (size 499))

array-share-prefix-label : tie.Need-slice_bounds-label-end
array-share-prefix-label c =
    let l = c in
    (told-value (text l.before.before) _ (told l.before.before) c.in-Ok.is refl).0

slice-aggregate-text-at : tie.Need-slice_bounds-text_at-end
slice-aggregate-text-at c =
    let l = c in
    sym (length-take-le _ _ (told-value (text l.before.before.before) _ (told l.before.before.before) c.in-Ok.is refl).0)

returns : tie.Need-returns-in-Ok
returns c =
    let a = c in
    let l = a in
    fed-as (told-value (text l.before.before.before.before.before.before.before) _ (told l.before.before.before.before.before.before.before) a.in-Ok.is refl).1 c.text_at.ensures

returns-2 : tie.Need-returns-in-Err
returns-2 c =
    let a = c in
    let l = a in
    fed-as (told-refused (text l.before.before.before.before.before.before) _ _ _ (told l.before.before.before.before.before.before) a.in-Err.is) c.refused_at.ensures

pub view_at_spec : {M : Type 1} → statement M
view_at_spec =
    tie.close
    (tie.spec (λ c κs. search rules) (search rules) array-share-prefix-label slice-aggregate-text-at
    (λ c κs. search rules) (search rules) (λ c κs. search rules) (search rules) returns (search rules) returns-2)
