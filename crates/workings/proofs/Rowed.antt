-- What a row works out to, put together.
--
-- In order: what it clears, by its turn; the row; a row that is there and one that isn't.
-- Assumes nothing.
use mathlib.Core.Path.{◌≡◌, refl, sym, ap, ap₂, ◌∙◌}
use mathlib.Core.List.{List}
use Prim.Native.Nat.{ℕ, ◌-◌, ◌≤◌, ◌<◌}
use lib.ListN.{get_or}
use borrow.Author.Tests.{lt-ltb, le-ltb}
use Rattle.std.specs.Prelude.{Some, None}
use Rattle.laws.proofs.Cases.{cond-true, cond-false}
use Rattle.auction.specs.Offers.{Offers}
use Rattle.auction.specs.Shares.{cleared}
use Rattle.auction.specs.Settlement.{mills}
use Rattle.settle.specs.inner.Read.{quoted}
use Rattle.settle.specs.inner.Rows.{committed_from}
use Rattle.turns.specs.Turn.{turn_at}
use Rattle.turns.specs.declared.turn.Turn.{Turn}
use Rattle.workings.specs.inner.Works.{row_works_by, worked_row_by}
use Rattle.workings.specs.declared.row.RowWorks.{RowWorks}
use Rattle.pricing.specs.Price.{ClearingPrice}

module _ (o : Offers) (x : ℕ) (price : ClearingPrice) where
  turn-cleared : (row : ℕ) → (turn_at o x row).cleared ≡ cleared o x row
  unfolding turn_at
  turn-cleared row = refl

  pub row_is : (least row : ℕ) (turn : Turn) (committed paid : ℕ) → turn ≡ turn_at o x row
      → committed ≡ committed_from least turn.cleared → paid ≡ mills (quoted price) (committed - turn.cleared)
      → record { turn = turn; committed = committed; make_whole = paid } ≡ row_works_by o x price least row
  unfolding row_works_by
  row_is least row turn committed paid e f g =
      let clears : turn.cleared ≡ cleared o x row = ap (λ (t : Turn). t.cleared) e ∙ turn-cleared row in
      let commits : committed ≡ committed_from least (cleared o x row) = f ∙ ap (committed_from least) clears in
      λ i.
      record {
        turn = e i;
        committed = commits i;
        make_whole = (g ∙ ap₂ (λ (a b : ℕ). mills (quoted price) (a - b)) commits clears) i;
      }

  module _ (leasts : List ℕ) (row : ℕ) where
    pub row-there : (r : RowWorks) → row < o.count → r ≡ row_works_by o x price (get_or leasts row 0) row
        → Some r ≡ worked_row_by o x price leasts row
    unfolding worked_row_by
    row-there r l e = ap Some e ∙ sym (cond-true _ _ _ (lt-ltb row o.count l))

    pub row-absent : o.count ≤ row → None ≡ worked_row_by o x price leasts row
    unfolding worked_row_by
    row-absent l = sym (cond-false _ _ _ (le-ltb row o.count l))
