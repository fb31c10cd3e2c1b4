-- `book_source::inner::delivery_from` meets its contract. Assumes nothing.
use borrow.Author.Rules.{rules}
use mathlib.Core.Path.{sym, ap, subst}
use Prim.Native.Nat.{ℕ}
use mathlib.Core.List.{List}
use Rattle.source.specs.declared.DeliveryPoint.{DeliveryPoint}
use Rattle.source.specs.Delivery.{Within}
use Rattle.changes_source.specs.Delivery.{delivery_at}
use Rattle.changes_meaning.proofs.Says.{within-at}
use Rattle.book_source.specs.Starts.{records_at, shifted, delivery_from}
use Rattle.book_source.proofs.Says.{two, within-moved}
use Rattle.book_source.proofs.inner.delivery_from.Statement.{statement}
use Rattle.book_source.proofs.inner.delivery_from.Tie as tie

-- once the records are read: their texts lie within the book
module _ (d : tie.After-delivery_at-p) where
  abbrev start : tie.Start
  start = d.before.before.before

  abbrev book : List ℕ
  book = start.args.book.now

  within : Within book (shifted start.args.at d.delivery_at-p.result)
  within =
      subst (λ (p : DeliveryPoint). Within book (shifted start.args.at p)) (sym d.delivery_at-p.ensures)
      (within-moved book start.args.at start.requires (delivery_at (records_at book start.args.at) 0)
      (within-at (records_at book start.args.at) 0 (two book start.args.at start.requires)))

returns : tie.Need-returns
unfolding delivery_from
returns c =
    let d = c in
    ap (shifted (start d.before.before.before.before.before).args.at) d.delivery_at-p.ensures

pub delivery_from_spec : {M : Type 1} → statement M
delivery_from_spec = tie.close (tie.spec (search rules) (search rules) (search rules) (search rules) (search rules)
    (λ c. let h = (within c.before.before).postcode in let k = (start c.before.before).well_formed in search rules)
    (λ c. let h = (within c.before.before.before).suffix in let k = (start c.before.before.before).well_formed in search rules)
    (λ c. let h = (within c.before.before.before.before).box in let k = (start c.before.before.before.before).well_formed in search rules)
    (λ c. let h = (within c.before.before.before.before.before).organisation in let k = (start c.before.before.before.before.before).well_formed in search rules)
    returns)
