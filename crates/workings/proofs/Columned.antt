-- The workings over columns, put together from what the market, the ladder and the contest say of them.
--
-- In order: what looks at prices and quantities alone; the level at which the total stops; the workings of columns.
-- Assumes nothing.
use mathlib.Core.Path.{◌≡◌, refl, ap, ap₂, sym, subst, ◌∙◌}
use mathlib.Core.List.{List}
use Prim.Native.Nat.{ℕ, ◌≤◌}
use native.Mathlib.Omega.{arith}
use Rattle.auction.specs.Offers.{Offers, supply, supply_below, level_sum}
use Rattle.auction.specs.Clearing.{cleared_total, next_price, clearing_price}
use Rattle.auction.specs.Shares.{level_amount, weighted, share_down, remainder}
use Rattle.auction.proofs.Total.{total-is-largest}
use Rattle.curve.specs.Shape.{Shaped}
use Rattle.curve.specs.Price.{demand_of}
use Rattle.curve.specs.declared.Curve.{Curve}
use Rattle.levels.specs.Stop.{stop_level}
use Rattle.levels.specs.inner.Asks.{offers_in as asked_in}
use Rattle.levels.specs.inner.Stop.{StopsAt}
use Rattle.levels.specs.declared.level.Level.{Level}
use Rattle.pricing.specs.Price.{as_price, ClearingPrice}
use Rattle.pricing.specs.inner.Price.{price_at}
use Rattle.pricing.proofs.Agree.{price-agrees}
use Rattle.columns.specs.inner.Sides.{offers_in}
use Rattle.columns.specs.declared.rows.Rows.{Rows}
use Rattle.reasons.specs.Stop.{level_at, tenth_at, next_at, stop_at}
use Rattle.reasons.specs.Share.{share_at, row_share_at, RowShare}
use Rattle.reasons.specs.declared.stop.Stop.{Stop}
use Rattle.ladder.specs.Ladder.{rung_of, rung_at, ladder_from, ladder_at}
use Rattle.ladder.specs.declared.rung.Ladder.{Ladder}
use Rattle.workings.specs.Works.{contest_at, WorkedRow}
use Rattle.workings.specs.inner.Works.{worked_row_by, works_at}
use Rattle.workings.specs.declared.spares.Contest.{Contest}

-- ---- the level at which the total stops

-- what a stop states of its level
stops-there : (c : Curve) (o : Offers) → StopsAt o (cleared_total (demand_of c) o) (stop_at c o).level
unfolding stop_at level_at
stops-there c o = record { total = refl; price = refl; amount = refl; sum = refl; reach = refl }

stop-curve : (c : Curve) (o : Offers) → (stop_at c o).curve ≡ c
unfolding stop_at
stop-curve c o = refl

module _ (c : Curve) (o : Offers) (stop : Stop) (e : stop ≡ stop_at c o) where
  stop-own : stop.curve ≡ c
  stop-own = ap (λ (s : Stop). s.curve) e ∙ stop-curve c o

  stop-total : stop.level.total ≡ cleared_total (demand_of c) o
  stop-total = ap (λ (s : Stop). s.level.total) e ∙ (stops-there c o).total

  pub stop-price : stop.level.price ≡ stop_level o stop.level.total
  stop-price = ap (λ (s : Stop). s.level.price) e ∙ (stops-there c o).price ∙ ap (stop_level o) (sym stop-total)

  -- the total is not past the curve's last point
  stop-last : stop.level.total ≤ c.q3
  stop-last = omega (arith, stop-total, (total-is-largest (demand_of c) o).within)

  -- so the price can be told
  pub stop-priced : Shaped c → Shaped stop.curve × (stop.level.total ≤ stop.curve.q3)
  stop-priced shaped =
      (subst Shaped (sym stop-own) shaped, subst (λ (d : Curve). stop.level.total ≤ d.q3) (sym stop-own) stop-last)

-- ---- the workings of columns

module _ (rows : Rows) where
  abbrev few : Offers
  few = asked_in rows.asks

  abbrev all : Offers
  all = offers_in rows

  -- where a total stops, the price, a row's share and the ladder look at no stamp, no resource number and no step
  total-listed : (c : Curve) → cleared_total (demand_of c) few ≡ cleared_total (demand_of c) all
  unfolding cleared_total supply
  total-listed c = refl

  price-listed : (c : Curve) → clearing_price (demand_of c) few ≡ clearing_price (demand_of c) all
  unfolding clearing_price cleared_total next_price supply
  price-listed c = refl

  stop-listed : (c : Curve) → stop_at c few ≡ stop_at c all
  unfolding stop_at level_at tenth_at next_at cleared_total stop_level supply supply_below level_sum level_amount
  stop-listed c = refl

  level-listed : (x : ℕ) → stop_level few x ≡ stop_level all x
  unfolding stop_level supply_below
  level-listed x = refl

  share-listed : (x row : ℕ) → row_share_at few x row ≡ row_share_at all x row
  unfolding row_share_at share_at share_down remainder weighted level_amount level_sum supply_below
  share-listed x row = refl

  ladder-listed : (x rung : ℕ) → ladder_at few x rung ≡ ladder_at all x rung
  unfolding ladder_at ladder_from rung_at rung_of stop_level level_amount level_sum supply supply_below
  ladder-listed x rung = refl

  module _ (c : Curve) (stop : Stop) (e : stop ≡ stop_at c few) where
    abbrev x : ℕ
    x = stop.level.total

    cleared-total : x ≡ cleared_total (demand_of c) all
    cleared-total = stop-total c few stop e ∙ total-listed c

    sold-at : (price : ClearingPrice) → price ≡ price_at (demand_of stop.curve) stop.level
        → price ≡ as_price (clearing_price (demand_of c) all)
    sold-at price f =
        f
        ∙ ap₂ (λ (d : Curve) (l : Level). price_at (demand_of d) l) (stop-own c few stop e) (ap (λ (s : Stop). s.level) e)
        ∙ price-agrees (demand_of c) few (stop_at c few).level rows.asks.listed.cheap (stops-there c few)
        ∙ ap as_price (price-listed c)

    pub works-columns : (price : ClearingPrice) (share : RowShare) (worked : WorkedRow) (ladder : Ladder) (contest : Contest)
        (leasts : List ℕ) (row rung place : ℕ)
        → price ≡ price_at (demand_of stop.curve) stop.level
        → share ≡ row_share_at few x row
        → worked ≡ worked_row_by all x price leasts row
        → ladder ≡ ladder_at few x rung
        → contest ≡ contest_at all x stop.level.price place
        → record { stop = stop; price = price; share = share; row = worked; ladder = ladder; contest = contest }
        ≡ works_at c all leasts row rung place
    unfolding works_at
    works-columns price share worked ladder contest leasts row rung place f g h k m =
        let sold = sold-at price f in
        let at : stop.level.price ≡ stop_level all (cleared_total (demand_of c) all) =
        stop-price c few stop e ∙ level-listed x ∙ ap (stop_level all) cleared-total in
        λ i.
        record {
          stop = (e ∙ stop-listed c) i;
          price = sold i;
          share = (g ∙ share-listed x row ∙ ap (λ (y : ℕ). row_share_at all y row) cleared-total) i;
          row = (h ∙ ap₂ (λ (y : ℕ) (q : ClearingPrice). worked_row_by all y q leasts row) cleared-total sold) i;
          ladder = (k ∙ ladder-listed x rung ∙ ap (λ (y : ℕ). ladder_at all y rung) cleared-total) i;
          contest = (m ∙ ap₂ (λ (y p : ℕ). contest_at all y p place) cleared-total at) i;
        }
