-- Where a total stops, put together from what the market says of it.
--
-- In order: the level by its parts; the last tenth; the next one, where the curve still buys and where it does not; the stop.
-- Assumes nothing.
use mathlib.Core.Path.{◌≡◌, ap, sym, ◌∙◌}
use Prim.Native.Nat.{ℕ, ◌+◌, ◌≤◌, ◌<◌}
use borrow.Author.Tests.{lt-ltb, le-ltb}
use Rattle.std.specs.Prelude.{Some, None}
use Rattle.laws.proofs.Cases.{cond-true, cond-false}
use Rattle.auction.specs.Offers.{Offers, supply, level_sum}
use Rattle.auction.specs.Clearing.{cleared_total}
use Rattle.auction.specs.Shares.{level_amount}
use Rattle.units.specs.declared.CentsPerMwDay.{CentsPerMwDay}
use Rattle.curve.specs.Price.{tenth_price, demand_of}
use Rattle.curve.specs.declared.Curve.{Curve}
use Rattle.levels.specs.inner.Stop.{StopsAt}
use Rattle.levels.specs.declared.level.Level.{Level}
use Rattle.reasons.specs.Stop.{level_at, tenth_at, next_at, stop_at, Next}
use Rattle.reasons.specs.declared.stop.Tenth.{Tenth}

-- what is known of the level at which a total stops leaves one level
pub level-is : (o : Offers) (x : ℕ) (l : Level) → StopsAt o x l → l ≡ level_at o x
unfolding level_at
level-is o x l s =
    λ i.
    record {
      total = s.total i;
      price = s.price i;
      amount = (s.amount ∙ ap (level_amount o x) s.price) i;
      sum = (s.sum ∙ ap (level_sum o) s.price) i;
      reach = (s.reach ∙ ap (supply o) s.price) i;
    }

pub tenth-is : (c : Curve) (o : Offers) (k : ℕ) (price : CentsPerMwDay) (offered : ℕ) → price.0 ≡ tenth_price c k
    → offered ≡ supply o price.0
    → record { price = price; offered = offered } ≡ tenth_at c o k
unfolding tenth_at
tenth-is c o k price offered e f = λ i. record { price = record { 0 = e i }; offered = (f ∙ ap (supply o) e) i }

module _ (c : Curve) (o : Offers) (x : ℕ) where
  pub next-bought : (t : Tenth) → x < c.q3 → t ≡ tenth_at c o (x + 1) → Some t ≡ next_at c o x
  unfolding next_at
  next-bought t l e = ap Some e ∙ sym (cond-true _ _ _ (lt-ltb x c.q3 l))

  pub next-none : c.q3 ≤ x → None ≡ next_at c o x
  unfolding next_at
  next-none l = sym (cond-false _ _ _ (le-ltb x c.q3 l))

-- the level of a cleared total, its last tenth and the next one are where it stops
pub stop_is : (c : Curve) (o : Offers) (l : Level) (last : Tenth) (next : Next)
    → StopsAt o (cleared_total (demand_of c) o) l → last ≡ tenth_at c o l.total → next ≡ next_at c o l.total
    → record { curve = c; level = l; last = last; next = next } ≡ stop_at c o
unfolding stop_at
stop_is c o l last next s f g =
    λ i.
    record {
      curve = c;
      level = level-is o (cleared_total (demand_of c) o) l s i;
      last = (f ∙ ap (tenth_at c o) s.total) i;
      next = (g ∙ ap (next_at c o) s.total) i;
    }
