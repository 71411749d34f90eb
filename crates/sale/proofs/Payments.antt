-- What payment may count on: bounds of the price, the total and each row's commitment, so that no amount of mills is too large;
-- and that what is paid is the clearing of the contents.
-- Assumes nothing.
use mathlib.Core.Path.{◌≡◌, refl, ap, ap₂, sym, ◌∙◌}
use mathlib.Core.List.{List}
use mathlib.Core.Option.{Option, none, some}
use Prim.Native.Nat.{ℕ, ◌+◌, ◌-◌, ◌*◌, ◌≤◌, ◌<◌}
use native.Mathlib.Nat.{le_refl, mul-le-mul}
use native.Mathlib.Omega.{arith}
use lib.ListN.{length, get_or}
use Rattle.laws.specs.Sum.{sum_to}
use Rattle.laws.specs.Filled.{filled}
use Rattle.laws.proofs.Fills.{filled-ext}
use Rattle.laws.proofs.Sums.{sum_to-ext}
use Rattle.laws.proofs.Filling.{length-filling}
use Rattle.laws.proofs.FilledRows.{filled_row}
use Rattle.auction.specs.Clearing.{cleared_total}
use Rattle.auction.specs.Settlement.{mills}
use Rattle.calendar.specs.Year.{days_of}
use Rattle.auction.proofs.Total.{total-is-largest}
use Rattle.auction.proofs.Price.{price-margin}
use Rattle.auction.proofs.ShareLaws.{share-within}
use Rattle.auction.proofs.Committed.{committed-most}
use Rattle.values.specs.Contents.{Contents, offer_at}
use Rattle.values.specs.declared.head.Parameters.{Parameters}
use Rattle.region.specs.Region.{region_curve}
use Rattle.curve.proofs.Prices.{price-most}
use Rattle.pricing.specs.Price.{as_price, ClearingPrice}
use Rattle.settle.specs.Read.{optional}
use Rattle.settle.specs.inner.Read.{quoted}
use Rattle.settle.specs.inner.Rows.{committed_from, row_commits, row_past, Committable}
use Rattle.settle.proofs.Commits.{committed-from, mills-sum}
use Rattle.values.specs.declared.Value.{Value}
use Rattle.values.specs.declared.Value.TheVariants.{Given, Missing}
use Rattle.columns.specs.inner.Columns.{Columns}
use Rattle.sale.specs.Auction.{offers_of, demand, total, price, row_cleared, row_committed, row_make_whole, all_make_whole, daily_total, year_total}
use Rattle.sale.specs.Payment.{clearing_of, cleared_list, committed_list}
use Rattle.sale.specs.inner.Sale.{Stands}
use Rattle.sale.proofs.Ground.{clearable-shaped, clearable-falls, clearable-proper}
use Rattle.sale.proofs.Sales.{leasts-long, leasts-row}

-- a price that is said as the code says it is quoted again
pub quoted-as_price : (x : Option ℕ) → quoted (as_price x) ≡ x
quoted-as_price none = refl
quoted-as_price (some p) = refl

-- a price of at most 958,904 on so many tenths at most
mills-bound : (x : Option ℕ) (t most : ℕ) → ((cents : ℕ) → x ≡ some cents → cents ≤ 958904) → t ≤ most → mills x t ≤ 958904 * most
mills-bound none t most h l = omega arith
mills-bound (some cents) t most h l = mul-le-mul (h cents refl) l

-- an optional value that is there was given
optional-given : (v : Value) (n : ℕ) → optional v ≡ some n → v ≡ Given n
optional-given (Given m) n e = cc
optional-given Missing n e = cc

module _ (c : Contents) (p : Parameters) (n : ℕ) (v : Columns) (s : Stands c p n v) where
  price-bound : (cents : ℕ) → price c ≡ some cents → cents ≤ 958904
  unfolding price
  price-bound cents e =
      let m = price-margin (demand c) (offers_of c.offers) cents (clearable-falls c s.clearable) e in
      let shaped = clearable-shaped c s.clearable in
      let x = cleared_total (demand c) (offers_of c.offers) in
      omega (arith, m.up_to x (le_refl _), price-most (region_curve c.parameters) shaped x, shaped.price-most)

  total-bound : total c ≤ 2200000
  unfolding total
  total-bound =
      omega (arith, (total-is-largest (demand c) (offers_of c.offers)).within, (clearable-shaped c s.clearable).quantity-most)

  row_within : (row : ℕ) → row < length c.offers → row_cleared c row ≤ (offer_at c.offers row).quantity
  unfolding row_cleared offers_of
  row_within row l = share-within (offers_of c.offers) (total c) (clearable-proper c s.clearable) row l

  -- what each row commits, from the least that it commits and what it clears
  module _ (before after : List ℕ) (long : n ≤ length before) (e : after ≡ cleared_list c before) where
    cleared-row : (row : ℕ) → row < length c.offers → get_or after row 0 ≡ row_cleared c row
    unfolding cleared_list
    cleared-row row l = filled_row (row_cleared c) (length c.offers) before e (omega (arith, s.count)) row l

    row-commits : (row : ℕ) → row < length c.offers → row_commits v.leasts after row ≡ row_committed c row
    unfolding row_committed
    row-commits row l =
        ap₂ committed_from (leasts-row c p n v s row (omega (arith, s.count))) (cleared-row row l)
        ∙ sym (committed-from (offer_at c.offers row).block (row_cleared c row))

    -- none commits more than 200,000 tenths
    pub cleared-committable : Committable v.leasts after n
    unfolding row_committed cleared_list
    cleared-committable =
        record {
          leasts-long = leasts-long c p n v s;
          cleared-long = omega (arith, length-filling (row_cleared c) (length c.offers) before e);
          few = omega (arith, s.count, s.clearable.few);
          modest = λ row l.
              let here : row < length c.offers = omega (arith, s.count) in
              let sound = (s.clearable.priced row here).sound in
              omega (
                arith,
                row-commits row here,
                committed-most (optional (offer_at c.offers row).block) (row_cleared c row) (offer_at c.offers row).quantity
                    (λ block f. sound.block_to block (optional-given _ block f))
                    (row_within row here),
                sound.quantity-to,
              );
        }

    -- the list of what the rows commit
    pub committed-list : (start after' : List ℕ) → after' ≡ filled (row_commits v.leasts after) n start
        → after' ≡ committed_list c start
    unfolding committed_list
    committed-list start after' f =
        f
        ∙ ap (λ (m : ℕ). filled (row_commits v.leasts after) m start) s.count
        ∙ filled-ext _ _ (length c.offers) start row-commits

    -- what the rows are paid past what they clear
    pub whole-paid : (q : ClearingPrice) → q ≡ as_price (price c)
        → mills (quoted q) (sum_to (row_past v.leasts after) n) ≡ all_make_whole c
    unfolding all_make_whole row_make_whole row_committed
    whole-paid q f =
        sym (mills-sum (quoted q) (row_past v.leasts after) n)
        ∙ ap (sum_to (λ row. mills (quoted q) (row_past v.leasts after row))) s.count
        ∙ sum_to-ext _ (row_make_whole c) (length c.offers)
        (λ row l. ap₂ mills (ap quoted f ∙ quoted-as_price (price c)) (ap₂ ◌-◌ (row-commits row l) (cleared-row row l)))

  price-quoted : (q : ClearingPrice) → q ≡ as_price (price c) → (cents : ℕ) → quoted q ≡ some cents → cents ≤ 958904
  price-quoted q f cents e = price-bound cents (sym (ap quoted f ∙ quoted-as_price (price c)) ∙ e)

  -- the price on what cleared, and on what is committed past it
  pub mills-most : (q : ClearingPrice) (x : ℕ) → q ≡ as_price (price c) → x ≡ total c → mills (quoted q) x ≤ 2109588800000
  mills-most q x f e = mills-bound (quoted q) x 2200000 (price-quoted q f) (omega (arith, total-bound))

  pub whole-most : (q : ClearingPrice) (past : ℕ) → q ≡ as_price (price c) → past ≤ 120000000 → mills (quoted q) past ≤ 115068480000000
  whole-most q past f l = mills-bound (quoted q) past 120000000 (price-quoted q f) l

  -- a total, a price and make-whole that are those of the contents make up their clearing
  pub clearing-is : (x : ℕ) (q : ClearingPrice) (whole daily year days : ℕ) → x ≡ total c → q ≡ as_price (price c)
      → whole ≡ all_make_whole c → daily ≡ mills (quoted q) x + whole → days ≡ days_of p.year → year ≡ days * daily
      → record { total = x; price = q; make_whole = whole; daily = daily; year = year } ≡ clearing_of c
  unfolding clearing_of daily_total year_total
  clearing-is x q whole daily year days e f g h d y =
      let m : daily ≡ mills (price c) (total c) + all_make_whole c =
      h ∙ ap₂ (λ (z : Option ℕ) (t : ℕ). mills z t + whole) (ap quoted f ∙ quoted-as_price (price c)) e ∙ ap (λ (w : ℕ). mills (price c) (total c) + w) g in
      let own : days ≡ days_of c.parameters.year = d ∙ ap (λ (q : Parameters). days_of q.year) s.own in
      λ i. record { total = e i; price = f i; make_whole = g i; daily = m i; year = (y ∙ ap₂ ◌*◌ own m) i }
