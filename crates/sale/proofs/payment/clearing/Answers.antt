-- `clearing` is the clearing of the contents that stand in the columns. What is paid fits 64 bits: a day's mills are at most
-- 117,178,068,800,000.
-- Assumes nothing.
use mathlib.Core.Path.{refl, sym, ap, subst, ◌∙◌}
use Prim.Native.Nat.{ℕ, ◌+◌, ◌≤◌}
use native.Mathlib.Nat.{lt_of_le_of_lt, mul-le-mul}
use native.Mathlib.Omega.{arith}
use lib.Dec.{lit<}
use Rattle.auction.specs.Settlement.{mills}
use Rattle.limits.specs.Ranges.{Ranged}
use Rattle.values.specs.Contents.{Contents}
use Rattle.columns.specs.inner.Columns.{Columns}
use Rattle.columns.specs.inner.Sides.{rows_in, lists_behind}
use Rattle.settle.specs.inner.Read.{quoted}
use Rattle.sale.specs.inner.Sale.{Stands}
use Rattle.sale.proofs.SaleLaws.{SoldAs, sold-contents}
use Rattle.sale.proofs.Payments.{cleared-committable, committed-list, mills-most, whole-most, whole-paid, clearing-is}
use Rattle.sale.proofs.payment.clearing.Goals as goal
use Rattle.sale.proofs.payment.clearing.Goals.{After-mills_of, After-sell-sale}

pub region_curve-requires : goal.region_curve-requires
region_curve-requires c =
    let s = c.requires.some_stand.stands in
    subst Ranged (sym s.own) s.clearable.parameters

pub sell-sale-requires : goal.sell-sale-requires
sell-sale-requires c =
    (c.region_curve.ensures.1, c.requires.rows_in_bounds.0)

abbrev columns : After-sell-sale → Columns
columns c = lists_behind c.args.rows.now

-- the sale is that of any contents in the columns
sold : (c : After-sell-sale) (k : Contents) → Stands k c.args.p (rows_in c.args.rows.now) (columns c)
    → SoldAs k c.args.cleared.now c.sell-sale.result c.sell-sale.new.amounts
sold c k s =
    sold-contents k _ _ (columns c) s _ c.region_curve.ensures.0 _ _ _ c.requires.rows_in_bounds.0 c.sell-sale.ensures

-- of some contents that stand there
some : (c : After-sell-sale) → SoldAs c.requires.some_stand.contents c.args.cleared.now c.sell-sale.result c.sell-sale.new.amounts
some c = sold c c.requires.some_stand.contents c.requires.some_stand.stands

pub commit-past-requires : goal.commit-past-requires
commit-past-requires c =
    let at = goal.at.commit-past-requires c in
    rw c.args.rows.now.committing (
      cleared-committable _ _ _ (columns at.After-sell-sale) c.requires.some_stand.stands _ c.sell-sale.new.amounts
          c.requires.rows_in_bounds.0 (some at.After-sell-sale).amounts,
      c.requires.rows_in_bounds.1,
    )

-- the price on what cleared, and all make-whole
daily-most : (c : After-mills_of)
    → SoldAs c.requires.some_stand.contents c.args.cleared.now c.sell-sale.result c.sell-sale.new.amounts
    → c.mills_of.result + c.mills_of-make_whole.result ≤ 117178068800000
daily-most c own =
    let columns = lists_behind c.args.rows.now in
    let s = c.requires.some_stand.stands in
    omega (
      arith,
      c.mills_of.ensures,
      mills-most _ _ _ columns s _ _ own.quote own.quantity,
      c.mills_of-make_whole.ensures,
      whole-most _ _ _ columns s _ _ own.quote c.commit-past.ensures.value.1,
    )

pub overflow_add-daily : goal.overflow_add-daily
overflow_add-daily c =
    let at = goal.at.overflow_add-daily c in
    omega (arith, daily-most at.After-mills_of (some at.After-sell-sale))

pub overflow_mul-result : goal.overflow_mul-result
overflow_mul-result c =
    let at = goal.at.overflow_mul-result c in
    record { fits = lt_of_le_of_lt (mul-le-mul c.days_of.ensures.1 (daily-most at.After-mills_of (some at.After-sell-sale))) (lit< tt) }

pub returns : goal.returns
returns c =
    let at = goal.at.returns c in
    λ k s.
    let long = c.requires.rows_in_bounds.0 in
    let sale = sold at.After-sell-sale k s in
    let paid = c.commit-past.ensures in
    let many = c.args.rows.now.committing in
    record {
      clearing =
          clearing-is k _ _ (columns at.After-sell-sale) s _ _ _ _ _ _ sale.quantity sale.quote
          (c.mills_of-make_whole.ensures
          ∙ ap (mills (quoted c.sell-sale.result.price)) (rw many at paid.value.0)
          ∙ whole-paid k _ _ (columns at.After-sell-sale) s _ c.sell-sale.new.amounts long sale.amounts _ sale.quote)
          (ap (λ (m : ℕ). m + c.mills_of-make_whole.result) c.mills_of.ensures)
          c.days_of.ensures.0
          refl;
      cleared-holds = sale.amounts;
      committed-holds = committed-list k _ _ (columns at.After-sell-sale) s _ c.sell-sale.new.amounts long sale.amounts _ _ (rw many at paid.out_after);
    }
