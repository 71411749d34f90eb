-- Contents that say the same up to the clearing price of the first sell the same.
--
-- In order: the total and the price; what an offer at or below the price gets; the totals of mills; the lines of both; the losers.
-- Assumes nothing.
use mathlib.Core.Path.{◌≡◌, sym, ap, ap₂, ◌∙◌}
use mathlib.Core.Bool.{Bool}
use mathlib.Core.List.{List, map}
use mathlib.Core.Option.{some}
use Prim.Native.Nat.{ℕ, ◌+◌, ◌*◌, ◌≤◌, ◌<◌}
use lib.Dec.{leb}
use lib.ListN.{length, get_or}
use borrow.Author.Tests.{leb-true, leb-false}
use Rattle.laws.specs.Lists.{those}
use Rattle.laws.proofs.Sums.{sum_to-ext}
use Rattle.laws.proofs.Listing.{list_of-ext, list_of-map, list_of-get_d}
use Rattle.laws.proofs.Those.{those-map, those-agree, sums-agree}
use Rattle.auction.specs.Offers.{Demand}
use Rattle.auction.specs.Clearing.{cleared_total, clearing_price}
use Rattle.auction.specs.Settlement.{committed, mills, make_whole}
use Rattle.auction.specs.Losers.{rows_at_or_below}
use Rattle.auction.proofs.ByRow.{row_clears}
use Rattle.auction.proofs.Unmoved.{total-unmoved, price-unmoved, clears-unmoved}
use Rattle.calendar.specs.Year.{days_of}
use Rattle.curve.specs.Price.{demand_of}
use Rattle.region.specs.Region.{region_curve}
use Rattle.values.specs.Values.{held}
use Rattle.values.specs.Contents.{Contents, no_offer, offer_at}
use Rattle.values.specs.declared.head.Parameters.{Parameters}
use Rattle.values.specs.declared.place.Offer.{Offer}
use Rattle.limits.specs.Clearable.{Clearable}
use Rattle.settle.specs.Read.{optional}
use Rattle.sale.specs.Auction.{offers_of, demand, total, price, row_cleared, row_committed, all_make_whole, daily_total, year_total}
use Rattle.sale.proofs.Ground.{clearable-falls}
use Rattle.call.specs.Losers.{to_price, at_or_below, SameToPrice, Line, line_at, lines_at_or_below, OthersLose}
use Rattle.call.proofs.Shared.{as_row, offer_clears, offer_line, cleared-line, committed-line, make-whole-line, to_price-most, to_price-held}
use Rattle.call.proofs.Shared.{held-listed, rows_same, loser-cleared, loser-committed, loser-make-whole}

-- two buffers that hold what the rows of contents clear and commit
pub record Holds (c : Contents) (cleared committed : List ℕ) : Type 0 where
  pub cleared-row : (row : ℕ) → row < length c.offers → get_or cleared row 0 ≡ row_cleared c row
  pub committed-row : (row : ℕ) → row < length c.offers → get_or committed row 0 ≡ row_committed c row

module _ (c : Contents) (v w : List ℕ) (h : Holds c v w) where
  -- the line of a row is that of its offer
  line-of-offer : (row : ℕ) → row < length c.offers → line_at c v w row ≡ offer_line c (offer_at c.offers row)
  line-of-offer row l =
      λ i. record {
        offer = offer_at c.offers row;
        cleared = (h.cleared-row row l ∙ cleared-line c row) i;
        committed = (h.committed-row row l ∙ committed-line c row) i;
        make_whole = make-whole-line c row i;
      }

  pub lines-of-offers : (p : ℕ) → lines_at_or_below p c v w ≡ map (offer_line c) (at_or_below p c.offers)
  unfolding lines_at_or_below at_or_below
  lines-of-offers p =
      let test : Line → Bool = λ line. to_price p line.offer.price in
      ap (those test)
      (list_of-ext (line_at c v w) (λ i. offer_line c (offer_at c.offers i)) (length c.offers) line-of-offer
      ∙ list_of-map (offer_line c) (offer_at c.offers) (length c.offers)
      ∙ ap (map (offer_line c)) (list_of-get_d c.offers no_offer))
      ∙ those-map test (offer_line c) c.offers

  -- every row that is not at or below the clearing price is above it and gets nothing
  pub others-lose : (p : ℕ) → Clearable c → price c ≡ some p → OthersLose p c v w
  others-lose p ok priced row l e =
      let given = (ok.priced row l).price-given in
      let above = leb-false _ _ (sym (to_price-held p (offer_at c.offers row).price given) ∙ e) in
      let o = offer_at c.offers row in
      record {
        price = held o.price;
        given = given;
        above = above;
        cleared = h.cleared-row row l ∙ cleared-line c row ∙ loser-cleared c ok p priced o above;
        committed = h.committed-row row l ∙ committed-line c row ∙ loser-committed c ok p priced o above;
        make_whole = make-whole-line c row ∙ loser-make-whole c ok p priced o above;
      }

module _ (c c' : Contents) (ok : Clearable c) (ok' : Clearable c') (p : ℕ) (priced : price c ≡ some p) (s : SameToPrice p c c') where
  demand-same : demand c ≡ demand c'
  demand-same = ap (λ (r : Parameters). demand_of (region_curve r)) s.parameters

  rows-shared : rows_at_or_below p (offers_of c.offers) ≡ rows_at_or_below p (offers_of c'.offers)
  rows-shared = rows_same c ok p ∙ ap (map as_row) s.offers ∙ sym (rows_same c' ok' p)

  pub total-shared : total c ≡ total c'
  unfolding total price
  total-shared =
      total-unmoved (demand c) _ _ p (clearable-falls c ok) priced rows-shared
      ∙ ap (λ (d : Demand). cleared_total d (offers_of c'.offers)) demand-same

  pub price-shared : price c' ≡ some p
  unfolding price
  price-shared =
      sym (ap (λ (d : Demand). clearing_price d (offers_of c'.offers)) demand-same)
      ∙ price-unmoved (demand c) _ _ p (clearable-falls c ok) priced rows-shared

  clears-same : (o : Offer) → held o.price ≤ p → offer_clears c o ≡ offer_clears c' o
  unfolding offer_clears total price
  clears-same o l =
      clears-unmoved (demand c) _ _ p (clearable-falls c ok) priced rows-shared (as_row o) l
      ∙ ap (λ (d : Demand). row_clears (offers_of c'.offers) (cleared_total d (offers_of c'.offers)) (as_row o)) demand-same

  line_same : (o : Offer) → held o.price ≤ p → offer_line c o ≡ offer_line c' o
  line_same o l =
      let e = clears-same o l in
      let q = priced ∙ sym price-shared in
      λ i. record {
        offer = o;
        cleared = e i;
        committed = committed (optional o.block) (e i);
        make_whole = make_whole (q i) (optional o.block) (e i);
      }

  -- the lines of the offers at or below p
  pub lines-shared : (v w v' w' : List ℕ) → Holds c v w → Holds c' v' w' → lines_at_or_below p c v w ≡ lines_at_or_below p c' v' w'
  unfolding at_or_below
  lines-shared v w v' w' h h' =
      lines-of-offers c v w h p
      ∙ those-agree (λ (o : Offer). to_price p o.price) (offer_line c) (offer_line c') (λ o e. line_same o (to_price-most p o.price e)) c.offers
      ∙ ap (map (offer_line c')) s.offers
      ∙ sym (lines-of-offers c' v' w' h' p)

  -- ---- mills

  pub make-whole-shared : all_make_whole c ≡ all_make_whole c'
  unfolding all_make_whole
  make-whole-shared =
      sum_to-ext _ _ (length c.offers) (λ i l. make-whole-line c i)
      ∙ sums-agree (λ (o : Offer). leb (held o.price) p) (λ o. (offer_line c o).make_whole) (λ o. (offer_line c' o).make_whole)
      (λ o e. loser-make-whole c ok p priced o (leb-false _ _ e))
      (λ o e. loser-make-whole c' ok' p price-shared o (leb-false _ _ e))
      (λ o e. ap (λ (line : Line). line.make_whole) (line_same o (leb-true _ _ e)))
      (offer_at c.offers) (offer_at c'.offers) (length c.offers) (length c'.offers)
      (held-listed c ok p ∙ s.offers ∙ sym (held-listed c' ok' p))
      ∙ sym (sum_to-ext _ _ (length c'.offers) (λ i l. make-whole-line c' i))

  pub daily-shared : daily_total c ≡ daily_total c'
  unfolding daily_total
  daily-shared = ap₂ ◌+◌ (ap₂ mills (priced ∙ sym price-shared) total-shared) make-whole-shared

  pub year-shared : year_total c ≡ year_total c'
  unfolding year_total
  year-shared = ap₂ ◌*◌ (ap (λ (r : Parameters). days_of r.year) s.parameters) daily-shared
