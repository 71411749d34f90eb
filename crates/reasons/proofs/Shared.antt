-- A row's share, put together from what is offered at its price and below.
--
-- In order: what is offered below a price is part of what is offered at it or below, and the rest is the level's sum; what
-- the level receives; it has something to sell; the exact part fits 64 bits; the share; a row that is there and one that isn't.
-- Assumes nothing.
use mathlib.Core.Path.{◌≡◌, refl, ap, sym, ◌∙◌}
use Prim.Native.Nat.{ℕ, ◌-◌, ◌*◌, ◌/◌, ◌%◌, ◌≤◌, ◌<◌, min}
use native.Mathlib.Omega.{arith}
use native.Mathlib.Nat.{mul-le-mul, le_of_lt}
use lib.Dec.{eqb}
use borrow.Author.Tests.{lt-ltb, le-ltb, eq-eqb}
use Rattle.std.specs.Prelude.{Some, None}
use Rattle.laws.proofs.Where.{sum_where-place}
use Rattle.laws.proofs.Cases.{cond-true, cond-false}
use Rattle.auction.specs.Offers.{Offers, supply, supply_below, level_sum}
use Rattle.auction.specs.Shares.{level_amount, weighted, share_down, remainder}
use Rattle.auction.proofs.Supply.{supply-split, supply_below-supply}
use Rattle.reasons.specs.Share.{share_at, row_share_at}
use Rattle.reasons.specs.inner.Share.{LevelAt}
use Rattle.reasons.specs.declared.share.Received.{Received}
use Rattle.reasons.specs.declared.share.Share.{Share}

module _ (o : Offers) (x p below reach : ℕ) (e : below ≡ supply_below o p) (f : reach ≡ supply o p) where
  pub below-reach : below ≤ reach
  below-reach = omega (arith, supply_below-supply o p)

  pub level-sum : reach - below ≡ level_sum o p
  level-sum = omega (arith, supply-split o p)

  pub level-received : (room amount : ℕ) → room ≡ x - below → amount ≡ min room (reach - below)
      → LevelAt o x p (record { amount = amount; sum = reach - below })
  unfolding level_amount
  level-received room amount h g = record { amount = rw (h, level-sum, e) at g; sum = level-sum }

-- the level of a row that offers something has something to sell
pub row-level : (o : Offers) (i : ℕ) → i < o.count → 0 < o.quantity i → 0 < level_sum o (o.price i)
unfolding level_sum
row-level o i l q =
    omega (arith, sum_where-place (λ j. eqb (o.price j) (o.price i)) o.quantity o.count i l (eq-eqb (o.price i) (o.price i) refl))

-- the exact part fits 64 bits
pub exact-fits : (quantity amount : ℕ) → quantity ≤ 200000 → amount < 4294967296 → quantity * amount < 18446744073709551616
exact-fits quantity amount q a = omega (arith, mul-le-mul q (le_of_lt a))

-- the exact part is the quantity times the level's amount, over the level's sum
pub share-is : (o : Offers) (x i : ℕ) (r : Received) → LevelAt o x (o.price i) r
    → record { amount = r.amount; sum = r.sum; down = o.quantity i * r.amount / r.sum; remainder = o.quantity i * r.amount % r.sum }
    ≡ share_at o x i
unfolding share_at share_down remainder weighted
share-is o x i r l = rw (l.amount, l.sum)

module _ (o : Offers) (x i : ℕ) where
  pub row-shares : (s : Share) → i < o.count → s ≡ share_at o x i → Some s ≡ row_share_at o x i
  unfolding row_share_at
  row-shares s l e = ap Some e ∙ sym (cond-true _ _ _ (lt-ltb i o.count l))

  pub no_row : o.count ≤ i → None ≡ row_share_at o x i
  unfolding row_share_at
  no_row l = sym (cond-false _ _ _ (le-ltb i o.count l))
