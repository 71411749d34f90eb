-- Parts that the rows of a list hold, at the level at which a total stops and together.
--
-- In order: the shares of a level rounded down are at most what it receives; parts in a list are rows as the sums of the
-- market want them; what the level holds leaves its spare tenths.
-- Assumes nothing.
use mathlib.Core.Path.{◌≡◌, ◌∙◌}
use mathlib.Core.List.{List}
use Prim.Native.Nat.{ℕ, ◌-◌, ◌≤◌, zero-le}
use native.Mathlib.Nat.{div-zero, le_antisymm, le_trans}
use native.Mathlib.Omega.{arith}
use lib.ListN.{get_or}
use lib.Dec.{eqb}
use borrow.Author.Tests.{eqb-true}
use Rattle.laws.proofs.Cases.{by_order}
use Rattle.laws.proofs.Summands.{sum_where-ext, sum_where-mono}
use Rattle.auction.specs.Offers.{Offers, level_sum}
use Rattle.auction.specs.Shares.{level_amount, share_down, spare_tenths}
use Rattle.auction.proofs.Spares.{spares-rest}
use Rattle.levels.specs.declared.level.Level.{Level}
use Rattle.columns.specs.inner.Column.{rows_of}
use Rattle.levels.specs.inner.Rows.{RowLists, listed}
use Rattle.parts.specs.inner.Divides.{DividesRows}
use Rattle.shares.specs.inner.Stages.{Stopped, HoldsParts}
use Rattle.parts.proofs.RowParts.{part-most}
use Rattle.shares.proofs.Sharing.{downs, part-share}

-- where a level has nothing to sell, a share of it is nothing
down-nothing : (o : Offers) (x p i : ℕ) → level_sum o p ≤ 0 → o.price i ≡ p → share_down o x i ≤ o.quantity i
unfolding share_down
down-nothing o x p i none at = rw (at, le_antisymm none zero-le, div-zero) zero-le

downs-nothing : (o : Offers) (x p : ℕ) → level_sum o p ≤ 0 → downs o x p ≤ level_amount o x p
unfolding level_sum
downs-nothing o x p none =
    le_trans
    (sum_where-mono _ (share_down o x) o.quantity o.count (λ i h t. down-nothing o x p i none (eqb-true (o.price i) p t)))
    (le_trans none zero-le)

-- the shares of a level rounded down are at most what it receives
downs-most : (o : Offers) (x p : ℕ) → downs o x p ≤ level_amount o x p
downs-most o x p = by_order (level_sum o p) 0 (downs-nothing o x p) (λ some. omega (arith, spares-rest o x p some))

-- parts in a list are rows
pub parts-rows : (prices quantities : List ℕ) (n : ℕ) (l : Level) → DividesRows l prices quantities n
    → (shares : List ℕ) → HoldsParts l prices quantities n shares → RowLists prices shares n
parts-rows prices quantities n l d shares h =
    record {
      priced = d.rows.priced;
      sized = h.long;
      few = d.rows.few;
      small = λ i k.
          omega (arith, h.row i k, part-most l (get_or prices i 0) (get_or quantities i 0) (d.each i k), d.rows.small i k);
      cheap = d.rows.cheap;
    }

module _ (prices quantities stamps resources steps : List ℕ) (n : ℕ) (l : Level) where
  abbrev rows : Offers
  rows = rows_of prices quantities stamps resources steps n

  module _ (s : Stopped rows l) (shares : List ℕ) (h : HoldsParts l prices quantities n shares) where
    held-downs : level_sum (listed prices shares n) l.price ≡ downs rows l.total l.price
    unfolding level_sum
    held-downs = sum_where-ext (λ i. eqb (get_or prices i 0) l.price) _ _ n (λ i k t. h.row i k ∙ part-share rows l s i k)

    -- what the level holds is at most its amount, and leaves the spare tenths of it
    pub held-spare : (held : ℕ) → held ≡ level_sum (listed prices shares n) l.price
        → (held ≤ l.amount) × (l.amount - held ≡ spare_tenths rows l.total l.price)
    unfolding spare_tenths
    held-spare held e = (
      omega (arith, held-downs, s.stops.amount, downs-most rows l.total l.price),
      omega (arith, held-downs, s.stops.amount),
    )
