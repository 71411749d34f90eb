-- The workings over the columns of contents are those of the contents.
--
-- In order: what a row commits and is paid, by its block and by the least that it commits; the row; the workings.
-- Assumes nothing.
use mathlib.Core.Path.{◌≡◌, ap, ap₂, sym, ◌∙◌}
use mathlib.Core.List.{List}
use mathlib.Core.Option.{Option}
use Prim.Native.Nat.{ℕ, ◌-◌, ◌<◌}
use lib.ListN.{length, get_or}
use native.Mathlib.Omega.{arith}
use borrow.Author.Tests.{lt-ltb, le-ltb}
use Rattle.std.specs.Prelude.{Some}
use Rattle.laws.proofs.Cases.{by_order, cond-true, cond-false}
use Rattle.auction.specs.Offers.{Offers}
use Rattle.auction.specs.Settlement.{mills}
use Rattle.values.specs.Contents.{Contents, offer_at}
use Rattle.values.specs.declared.head.Parameters.{Parameters}
use Rattle.columns.specs.inner.Column.{row_least, rows_of}
use Rattle.columns.specs.inner.Columns.{Columns}
use Rattle.pricing.specs.Price.{as_price}
use Rattle.region.specs.Region.{region_curve}
use Rattle.settle.specs.inner.Rows.{committed_from}
use Rattle.settle.proofs.Commits.{committed-from}
use Rattle.sale.specs.Auction.{offers_of, total, price, row_cleared, row_committed, row_make_whole}
use Rattle.sale.specs.inner.Sale.{Stands}
use Rattle.sale.proofs.Payments.{quoted-as_price}
use Rattle.sale.proofs.Sales.{columns-offers, leasts-row}
use Rattle.workings.specs.Works.{row_works, worked_row, works_of}
use Rattle.workings.specs.inner.Works.{row_works_by, worked_row_by, works_at}
use Rattle.workings.specs.declared.works.Works.{Works}

module _ (c : Contents) (leasts : List ℕ) (row : ℕ) where
  -- a row by the least that it commits
  row-own : get_or leasts row 0 ≡ row_least c.offers row
      → row_works_by (offers_of c.offers) (total c) (as_price (price c)) (get_or leasts row 0) row ≡ row_works c row
  unfolding row_works_by row_works row_committed row_make_whole row_cleared
  row-own e =
      let clears = row_cleared c row in
      let commits : committed_from (get_or leasts row 0) clears ≡ row_committed c row =
      ap (λ (l : ℕ). committed_from l clears) e ∙ sym (committed-from (offer_at c.offers row).block clears) in
      λ i.
      record {
        turn = (row_works c row).turn;
        committed = commits i;
        make_whole = ap₂ (λ (q : Option ℕ) (k : ℕ). mills q (k - clears)) (quoted-as_price (price c)) commits i;
      }

  worked-own : (row < length c.offers → get_or leasts row 0 ≡ row_least c.offers row)
      → worked_row_by (offers_of c.offers) (total c) (as_price (price c)) leasts row ≡ worked_row c row
  unfolding worked_row_by worked_row offers_of
  worked-own e =
      by_order (length c.offers) row
      (λ l. let t = le-ltb row (length c.offers) l in cond-false _ _ _ t ∙ sym (cond-false _ _ _ t))
      (λ l.
      let t = lt-ltb row (length c.offers) l in
      cond-true _ _ _ t ∙ ap Some (row-own (e l)) ∙ sym (cond-true _ _ _ t))

  works-own : (rung place : ℕ) → (row < length c.offers → get_or leasts row 0 ≡ row_least c.offers row)
      → works_at (region_curve c.parameters) (offers_of c.offers) leasts row rung place ≡ works_of c row rung place
  unfolding works_at works_of total price
  works-own rung place e =
      let own = works_of c row rung place in
      λ i.
      record {
        stop = own.stop;
        price = own.price;
        share = own.share;
        row = worked-own e i;
        ladder = own.ladder;
        contest = own.contest;
      }

-- worked over the columns of contents they are those of the contents
pub works-stand : (c : Contents) (p : Parameters) (n : ℕ) (v : Columns) (w : Works) (row rung place : ℕ) → Stands c p n v
    → w ≡ works_at (region_curve p) (rows_of v.prices v.quantities v.stamps v.resources v.steps n) v.leasts row rung place
    → w ≡ works_of c row rung place
works-stand c p n v w row rung place s e =
    e
    ∙ ap₂ (λ (q : Parameters) (o : Offers). works_at (region_curve q) o v.leasts row rung place) s.own (columns-offers c p n v s)
    ∙ works-own c v.leasts row rung place (λ l. leasts-row c p n v s row (omega (arith, s.count)))
