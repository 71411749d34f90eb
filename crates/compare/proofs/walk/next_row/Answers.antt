-- `next_row` passes over the rows above the price. The loop's invariant: no row passed was at or below it.
-- Assumes nothing.
use mathlib.Core.Path.{◌≡◌, sym, ap, ◌∙◌}
use native.Mathlib.Numerals.{add-one}
use native.Mathlib.Omega.{arith}
use Rattle.values.specs.Contents.{offer_at}
use Rattle.values.specs.declared.place.Offer.{Offer}
use Rattle.layout.specs.Form.{edition_of}
use Rattle.layout.specs.Read.{row_offers}
use Rattle.layout.proofs.Contained.{length-row_offers, offer_at-row_offers}
use Rattle.call.specs.Losers.{to_price}
use Rattle.compare.proofs.Walks.{passed_none, passed-more, next_here, next-none}
use Rattle.compare.proofs.walk.next_row.Goals as goal
use Rattle.compare.proofs.walk.next_row.Goals.{After-to_price}

pub loop-row-init : goal.loop-row-init
loop-row-init c =
    passed_none _ _ _ (omega (arith, length-row_offers c.args.book.now (edition_of c.args.book.now) 1 c.args.n, c.requires.1))

-- what the test says of the book's own offer
tested : (c : After-to_price) →
    let a = c.args in
    c.to_price.result ≡ to_price a.price (offer_at (row_offers a.book.now (edition_of a.book.now) 1 a.n) c.loop-row.row).price
tested c =
    c.to_price.ensures
    ∙ ap (λ (o : Offer). to_price c.args.price o.price) (c.offer_at.ensures ∙ sym (offer_at-row_offers _ _ _ _ _ c.loop-row-test.true))

pub returns-then-to_price : goal.returns-then-to_price
returns-then-to_price c =
    next_here _ _ _ _ c.loop-row.invariant (sym (tested (goal.at.returns-then-to_price c).After-to_price) ∙ c.if-to_price.true)

pub loop-row-preserved : goal.loop-row-preserved
loop-row-preserved c =
    let a = c.args in
    rw (add-one c.loop-row.row)
    (passed-more _ _ _ c.loop-row.row c.loop-row.invariant
    (omega (arith, length-row_offers a.book.now (edition_of a.book.now) 1 a.n, c.loop-row-test.true))
    (sym (tested (goal.at.loop-row-preserved c).After-to_price) ∙ c.if-to_price.false))

pub returns : goal.returns
returns c =
    let a = c.args in
    next-none _ _ _ c.loop-row.row _ c.loop-row.invariant
    (omega (arith, length-row_offers a.book.now (edition_of a.book.now) 1 a.n, c.loop-row.invariant.most, c.loop-row-test.false))
    (length-row_offers a.book.now (edition_of a.book.now) 1 a.n)
