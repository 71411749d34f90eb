-- Rows that pass where prices are needed pass where they are not: soundness asks for less than clearing.
--
-- In order: one offer; the rows.
-- Assumes nothing.
use mathlib.Core.Path.{◌≡◌, sym, ◌∙◌}
use mathlib.Core.Bool.{true, false}
use Prim.Native.Nat.{ℕ}
use Rattle.values.specs.declared.place.Offer.{Offer}
use Rattle.values.proofs.Firsts.{and_then-next, and_then-right, first-ext}
use Rattle.limits.specs.Offers.{price_fault, offer_fault, rows_fault}
use Rattle.limits.proofs.PassingRows.{rows-values}
use Rattle.values.specs.Refusals.{no_fault}

offer-unpriced : (edition : ℕ) (o : Offer) (row : ℕ) → offer_fault true edition o row ≡ no_fault → offer_fault false edition o row ≡ no_fault
unfolding offer_fault
offer-unpriced edition o row e = and_then-right (price_fault o.price row) _ e

-- Rows that clearing's tests pass are passed by those of soundness.
pub rows-unpriced : (edition : ℕ) (offers : ℕ → Offer) (n : ℕ) → rows_fault true edition offers n ≡ no_fault → rows_fault false edition offers n ≡ no_fault
unfolding rows_fault
rows-unpriced edition offers n e =
    first-ext _ _ n
    (λ row l.
    let priced : offer_fault true edition (offers row) row ≡ no_fault = rows-values true edition offers n e row l in
    and_then-next (offer_fault false edition (offers row) row) _ (offer-unpriced edition (offers row) row priced)
    ∙ sym (and_then-next (offer_fault true edition (offers row) row) _ priced))
    ∙ e
