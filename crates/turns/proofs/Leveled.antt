-- A price level over lists of rows: its parts rounded down, and what they leave.
--
-- In order: a level can be divided; a level looks at prices and quantities alone; a part is at most the quantity, and is
-- the row's share rounded down; the parts of a level are at most what it receives, and leave its spare tenths.
-- Assumes nothing.
use mathlib.Core.Path.{◌≡◌, refl, ap, ◌∙◌}
use mathlib.Core.Bool.{cond}
use mathlib.Core.List.{List}
use Prim.Native.Nat.{ℕ, ◌-◌, ◌*◌, ◌/◌, ◌≤◌, ◌<◌, zero-le}
use native.Mathlib.Nat.{le_trans, div-mul-le_self, mul-le-mul_left, le_of_mul-le-mul_right}
use native.Mathlib.Omega.{arith}
use lib.Dec.{eqb}
use borrow.Author.Tests.{eqb-true, eq-eqb}
use Rattle.laws.proofs.Cases.{by_order, cond-true}
use Rattle.laws.proofs.Summands.{sum_where-ext, sum_where-mono}
use Rattle.laws.specs.Sum.{sum_where}
use Rattle.auction.specs.Offers.{Offers, supply_below, level_sum}
use Rattle.auction.specs.Shares.{level_amount, weighted, share_down, spare_tenths}
use Rattle.auction.proofs.LevelDivision.{level_amount-most}
use Rattle.auction.proofs.Spares.{spares-rest}
use Rattle.columns.specs.inner.Sides.{offers_in}
use Rattle.columns.specs.declared.rows.Rows.{Rows}
use Rattle.levels.specs.inner.Asks.{offers_in as asked_in}
use Rattle.levels.specs.inner.Rows.{listed}
use Rattle.reasons.specs.inner.Share.{Positive, LevelAt}
use Rattle.reasons.specs.declared.share.Received.{Received}
use Rattle.reasons.proofs.Shared.{row-level}
use Rattle.turns.specs.inner.Contending.{Parted, parts_in}

-- a level of rows that each offer something can be divided
pub level-parted : (prices quantities : List ℕ) (n x p : ℕ) (l : Received) → Positive quantities n
    → LevelAt (listed prices quantities n) x p l → Parted prices n p l
level-parted prices quantities n x p l positive f =
    let o = listed prices quantities n in
    record {
      some = λ i h at. omega (arith, f.sum, row-level o i h (positive i h), ap (level_sum o) at);
      within = omega (arith, f.amount, f.sum, level_amount-most o x p);
    }

module _ (rows : Rows) (x : ℕ) where
  -- a level looks at no stamp, no resource and no step
  pub level-rows : (p : ℕ) (l : Received) → LevelAt (asked_in rows.asks) x p l → LevelAt (offers_in rows) x p l
  unfolding level_amount supply_below level_sum
  level-rows p l f = record { amount = f.amount; sum = f.sum }

  -- nor does a part of it, or a spare tenth
  pub down-rows : (i : ℕ) → share_down (asked_in rows.asks) x i ≡ share_down (offers_in rows) x i
  unfolding share_down weighted level_amount supply_below level_sum
  down-rows i = refl

  pub spares-rows : (p : ℕ) → spare_tenths (asked_in rows.asks) x p ≡ spare_tenths (offers_in rows) x p
  unfolding spare_tenths share_down weighted level_amount supply_below level_sum
  spares-rows p = refl

-- a part of a level is at most the quantity
pub quotient-most : (quantity : ℕ) (l : Received) → 0 < l.sum → l.amount ≤ l.sum
    → quantity * l.amount / l.sum ≤ quantity
quotient-most quantity l some within =
    le_of_mul-le-mul_right {k = l.sum}
    (le_trans (div-mul-le_self (quantity * l.amount) l.sum) (mul-le-mul_left quantity within))
    some

module _ (o : Offers) (x : ℕ) where
  -- the part of a row's own level is the row's share rounded down
  part-down : (i : ℕ) (l : Received) → LevelAt o x (o.price i) l → o.quantity i * l.amount / l.sum ≡ share_down o x i
  unfolding share_down weighted
  part-down i l f = rw (f.amount, f.sum)

  pub part-own : (i r : ℕ) (l : Received) → LevelAt o x (o.price i) l
      → r ≡ cond (eqb (o.price i) (o.price i)) (o.quantity i * l.amount / l.sum) 0 → r ≡ share_down o x i
  part-own i r l f e = e ∙ cond-true _ _ _ (eq-eqb (o.price i) (o.price i) refl) ∙ part-down i l f

  module _ (p : ℕ) where
    -- the shares of a level rounded down
    abbrev downs : ℕ
    downs = sum_where (λ i. eqb (o.price i) p) (share_down o x) o.count

    module _ (l : Received) (f : LevelAt o x p l) where
      parts-downs : parts_in o p l ≡ downs
      unfolding parts_in
      parts-downs =
          sum_where-ext _ _ _ o.count
          (λ i h t. let at = eqb-true (o.price i) p t in part-down i l (rw at f))

    -- where a level has nothing to sell, no row is at it
    downs-nothing : ((i : ℕ) → i < o.count → 0 < o.quantity i) → level_sum o p ≤ 0 → downs ≤ level_amount o x p
    unfolding level_sum
    downs-nothing positive none =
        le_trans
        (sum_where-mono _ (share_down o x) o.quantity o.count
        (λ i h t. absurd (omega (arith, none, row-level o i h (positive i h), ap (level_sum o) (eqb-true (o.price i) p t)))))
        (le_trans none zero-le)

    downs-most : ((i : ℕ) → i < o.count → 0 < o.quantity i) → downs ≤ level_amount o x p
    downs-most positive = by_order (level_sum o p) 0 (downs-nothing positive) (λ some. omega (arith, spares-rest o x p some))

    module _ (positive : (i : ℕ) → i < o.count → 0 < o.quantity i) (l : Received) (f : LevelAt o x p l) {parts : ℕ}
        (e : parts ≡ parts_in o p l) where
      -- the parts of a level are at most what it receives
      pub parts-most : parts ≤ l.amount
      parts-most = omega (arith, e, parts-downs l f, f.amount, downs-most positive)

      -- and leave its spare tenths
      pub parts-spare : l.amount - parts ≡ spare_tenths o x p
      unfolding spare_tenths
      parts-spare = omega (arith, e, parts-downs l f, f.amount)
