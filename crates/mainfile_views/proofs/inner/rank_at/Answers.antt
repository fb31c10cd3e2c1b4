use Rattle.std.proofs.Common.{◌≡◌, ℕ, zero, suc, ◌≤◌, refl, arith, ap, ◌∙◌}
use Rattle.std.specs.Ordering.{ordering_index}
use Rattle.file_compare.specs.Order.{order, ordering}
use Rattle.file_compare.proofs.Order.{order-bound}
use Rattle.mainfile_views.specs.Range.{rank}
use Rattle.mainfile_views.proofs.inner.rank_at.Goals as goal

index-rank : (n : ℕ) → n ≤ 2 → ordering_index (ordering n) ≡ rank n
index-rank zero h = refl
index-rank (suc zero) h = refl
index-rank (suc (suc zero)) h = refl
index-rank (suc (suc (suc n))) h = absurd (omega arith)

pub returns : goal.returns
returns c =
    let outward = c.part_of-outward.result.now in
    let code = c.args.code.now in
    c.rank_of.ensures
    ∙ (ap ordering_index c.order_of.ensures
    ∙ (index-rank (order outward code) (order-bound outward code)
    ∙ rw (c.part_of-outward.ensures, c.whole_record-rec.ensures)))
