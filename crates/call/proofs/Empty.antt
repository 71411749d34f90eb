-- Contents of which nothing clears, and contents with no offers.
--
-- In order: with no price every amount of mills is 0; where there is no offer the total is 0 and there is no price; so the
-- outcome of a call on a book of no rows.
-- Assumes nothing.
use mathlib.Core.Path.{◌≡◌, sym, ap, subst, ◌∙◌}
use mathlib.Core.Bool.{true}
use mathlib.Core.List.{List}
use mathlib.Core.Option.{none}
use Prim.Native.Nat.{ℕ, ◌*◌}
use native.Mathlib.Nat.{mul-zero}
use native.Mathlib.Omega.{arith}
use lib.ListN.{length}
use Rattle.std.specs.Prelude.{Ok}
use Rattle.laws.specs.Sum.{sum_to, sum_where}
use Rattle.laws.specs.Filled.{filled}
use Rattle.laws.proofs.Sums.{sum_to-none}
use Rattle.laws.proofs.Fills.{filled_none}
use Rattle.auction.specs.Offers.{supply}
use Rattle.auction.proofs.Total.{total-is-largest}
use Rattle.auction.proofs.Price.{price-none}
use Rattle.calendar.specs.Year.{days_of}
use Rattle.values.specs.Contents.{Contents, offer_at}
use Rattle.values.specs.declared.head.Parameters.{Parameters}
use Rattle.values.proofs.Firsts.{and_then-next, first-zero}
use Rattle.limits.specs.Offers.{rows_fault}
use Rattle.pricing.specs.Price.{as_price}
use Rattle.layout.specs.Read.{contents_of}
use Rattle.book.specs.Faults.{first_fault}
use Rattle.book.specs.inner.Opening.{before_rows, Opened}
use Rattle.book.proofs.Stages.{first-before}
use Rattle.sale.specs.Auction.{offers_of, demand, total, price, row_cleared, row_committed, row_make_whole, all_make_whole, daily_total, year_total}
use Rattle.sale.specs.Payment.{clearing_of, cleared_list, committed_list}
use Rattle.call.specs.Answer.{Outcome, call_fault}
use Rattle.call.specs.inner.None.{none_cleared}
use Rattle.sale.specs.declared.Clearing.{Clearing}
use Rattle.sale.specs.inner.Sale.{ClearedAs}
use Rattle.call.proofs.Calls.{long-enough, outcome-cleared}
use Rattle.values.specs.Refusals.{no_fault}

module _ (c : Contents) (e : price c ≡ none) where
  pub make-whole-none : all_make_whole c ≡ 0
  unfolding all_make_whole row_make_whole
  make-whole-none = sum_to-none _ (length c.offers) (λ i l. rw e)

  pub daily-none : daily_total c ≡ 0
  unfolding daily_total
  daily-none = rw (e, make-whole-none)

  pub year-none : year_total c ≡ 0
  unfolding year_total
  year-none = ap (λ (m : ℕ). days_of c.parameters.year * m) daily-none ∙ mul-zero (days_of c.parameters.year)

module _ (c : Contents) (empty : length c.offers ≡ 0) where
  supply-empty : (p : ℕ) → supply (offers_of c.offers) p ≡ 0
  unfolding supply sum_where sum_to offers_of
  supply-empty p = rw empty

  total-empty : total c ≡ 0
  unfolding total
  total-empty =
      omega (arith, (total-is-largest (demand c) (offers_of c.offers)).supplied, supply-empty ((demand c).price (total c)))

  price-empty : price c ≡ none
  unfolding price total
  price-empty = price-none (demand c) (offers_of c.offers) total-empty

  clearing-empty : none_cleared ≡ clearing_of c
  unfolding clearing_of
  clearing-empty = λ i.
      record {
        total = sym total-empty i;
        price = sym (ap as_price price-empty) i;
        make_whole = sym (make-whole-none c price-empty) i;
        daily = sym (daily-none c price-empty) i;
        year = sym (year-none c price-empty) i;
      }

  -- nothing is written to either list
  pub cleared-empty : (cleared committed : List ℕ) → ClearedAs c cleared committed none_cleared cleared committed
  unfolding cleared_list committed_list
  cleared-empty cleared committed =
      record {
        clearing = clearing-empty;
        cleared-holds = filled_none (row_cleared c) cleared ∙ ap (λ (n : ℕ). filled (row_cleared c) n cleared) (sym empty);
        committed-holds = filled_none (row_committed c) committed ∙ ap (λ (n : ℕ). filled (row_committed c) n committed) (sym empty);
      }

-- a book of no rows whose parameters passed has no fault, whatever the buffers
fault-empty : (b : List ℕ) (edition : ℕ) (p : Parameters) (n cleared committed : ℕ) → Opened b edition p n → n ≡ 0
    → no_fault ≡ call_fault b cleared committed
unfolding call_fault rows_fault
fault-empty b edition p n cleared committed o z =
    let empty : length (contents_of b).offers ≡ 0 = sym o.rows ∙ z in
    let rows = ap (λ (m : ℕ). rows_fault true (contents_of b).edition (offer_at (contents_of b).offers) m) empty ∙ first-zero _ in
    sym
    (and_then-next (first_fault b) _ (first-before b ∙ and_then-next (before_rows b) _ o.passed ∙ rows)
    ∙ long-enough b cleared committed (omega (arith, empty)) (omega (arith, empty)))

-- the outcome of a call on such a book
pub outcome-empty : (b cleared committed : List ℕ) (edition : ℕ) (p : Parameters) (n : ℕ) (k : Clearing) → Opened b edition p n → n ≡ 0
    → k ≡ none_cleared
    → Outcome b cleared committed (Ok k) cleared committed
outcome-empty b cleared committed edition p n k o z e =
    subst (λ (r : Clearing). Outcome b cleared committed (Ok r) cleared committed) (sym e)
    (outcome-cleared b cleared committed none_cleared cleared committed
    (fault-empty b edition p n (length cleared) (length committed) o z)
    (cleared-empty (contents_of b) (sym o.rows ∙ z) cleared committed))
