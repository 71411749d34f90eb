-- The contest of a price level.
--
-- In order: fewer of a level stand before a row than the level has; so no one stands at a place past its last; the contest put
-- together.
-- Assumes nothing.
use mathlib.Core.Path.{◌≡◌, refl, sym, ap, ◌∙◌}
use mathlib.Core.Bool.{false, ◌&&◌}
use mathlib.Core.List.{[]}
use Prim.Native.Nat.{ℕ, ◌≤◌, ◌<◌}
use native.Mathlib.Omega.{arith}
use lib.Dec.{eqb}
use borrow.Author.Tests.{eqb-true, eq-eqb}
use Rattle.std.specs.Prelude.{None}
use Rattle.laws.proofs.Cases.{by-test, and_left, and_right}
use Rattle.laws.proofs.Counts.{count_where-less}
use Rattle.auction.specs.Offers.{Offers}
use Rattle.auction.specs.Shares.{spare_tenths, ahead, rank}
use Rattle.auction.proofs.Ahead.{ahead-order}
use Rattle.columns.specs.inner.Sides.{rows_in, offers_in}
use Rattle.columns.specs.declared.rows.Rows.{Rows}
use Rattle.levels.specs.inner.Asks.{offers_in as asked_in}
use Rattle.levels.specs.inner.Rows.{listed}
use Rattle.turns.proofs.Leveled.{spares-rows}
use Rattle.turns.proofs.Turning.{contenders-rows}
use Rattle.turns.specs.Order.{contenders, placed, held_by, placed_at, Placed}
use Rattle.turns.proofs.Firsts.{first-none}
use Rattle.workings.specs.Works.{contest_at}

module _ (o : Offers) (x : ℕ) where
  -- fewer stand before a row than its level has
  rank-within : (i : ℕ) → i < o.count → rank o x i < contenders o (o.price i)
  unfolding rank contenders
  rank-within i l =
      count_where-less (λ j. eqb (o.price j) (o.price i) && ahead o x j i) (λ j. eqb (o.price j) (o.price i)) o.count i
      (λ j m t. and_left _ _ t) l (rw (eq-eqb (o.price i) (o.price i) refl, (ahead-order o x).irreflexive i))
      (eq-eqb (o.price i) (o.price i) refl)

  -- no row of the level stands at a place past its last
  not-placed : (p k i : ℕ) → contenders o p ≤ k → i < o.count → (eqb (o.price i) p && eqb (rank o x i) k) ≡ false
  not-placed p k i l m =
      by-test (eqb (o.price i) p && eqb (rank o x i) k)
      (λ t.
      let at = eqb-true (o.price i) p (and_left (eqb (o.price i) p) _ t) in
      absurd (omega (arith, rank-within i m, eqb-true (rank o x i) k (and_right (eqb (o.price i) p) _ t), ap (contenders o) at)))
      (λ t. t)

  pub no-one-past : (p k : ℕ) → contenders o p ≤ k → None ≡ placed_at o x p k
  unfolding placed_at placed
  no-one-past p k l =
      sym (ap (held_by o x)
      (first-none (λ i. eqb (o.price i) p && eqb (rank o x i) k) o.count (λ i m. not-placed p k i l m)))

-- the contest of a level: the spare tenths and the contenders look at prices and quantities alone
pub contest-is : (rows : Rows) (x p place spares many : ℕ) (who : Placed) → spares ≡ spare_tenths (asked_in rows.asks) x p
    → many ≡ contenders (listed rows.asks.prices.now [] (rows_in rows)) p → who ≡ placed_at (offers_in rows) x p place
    → record { spares = spares; contenders = many; placed = who } ≡ contest_at (offers_in rows) x p place
unfolding contest_at
contest-is rows x p place spares many who e f g =
    λ i. record { spares = (e ∙ spares-rows rows x p) i; contenders = (f ∙ contenders-rows rows p) i; placed = g i }
