-- The rungs of the ladder, put together from what is offered at a price and below.
-- Assumes nothing.
use mathlib.Core.Path.{◌≡◌, ap, ◌∙◌}
use Prim.Native.Nat.{ℕ, ◌+◌, ◌-◌, ◌≤◌, ◌<◌, min}
use native.Mathlib.Numerals.{add-one}
use native.Mathlib.Omega.{arith}
use borrow.Author.Tests.{le-leb}
use Rattle.std.specs.Prelude.{Some, None}
use Rattle.laws.specs.Sum.{sum_to}
use Rattle.laws.proofs.Where.{sum_where-every}
use Rattle.laws.proofs.Largests.{largest-is}
use Rattle.auction.specs.Offers.{Offers, supply, supply_below, level_sum}
use Rattle.auction.specs.Shares.{level_amount}
use Rattle.auction.proofs.Supply.{supply-split}
use Rattle.levels.specs.Stop.{stop_level}
use Rattle.levels.proofs.Stops.{stops}
use Rattle.ladder.specs.Prices.{down, rung_price}
use Rattle.ladder.specs.Ladder.{rung_of, as_rung, rung_at, ladder_from, ladder_at, RungAt}
use Rattle.ladder.specs.declared.rung.Rung.{Rung}

-- at 1,000,000 everything is offered
everything : (o : Offers) → ((i : ℕ) → i < o.count → o.price i ≤ 1000000) → supply o 1000000 ≡ sum_to o.quantity o.count
unfolding supply
everything o cheap = sum_where-every _ o.quantity o.count (λ i l. le-leb (o.price i) 1000000 (cheap i l))

module _ (o : Offers) (x : ℕ) where
  -- the level at a price by what is offered below it, at it or below, and in all
  pub rung-is : (p below reach every offered room receives higher : ℕ) → ((i : ℕ) → i < o.count → o.price i ≤ 1000000)
      → below ≡ supply_below o p → reach ≡ supply o p → every ≡ supply o 1000000
      → offered ≡ reach - below → room ≡ x - below → receives ≡ min room offered → higher ≡ every - reach
      → record { price = p; offered = offered; receives = receives; higher = higher } ≡ rung_of o x p
  unfolding rung_of level_amount
  rung-is p below reach every offered room receives higher cheap e f g h a b d =
      let sum : offered ≡ level_sum o p = omega (arith, supply-split o p) in
      λ i.
      record {
        price = p;
        offered = sum i;
        receives = (rw (a, e, sum) at b) i;
        higher = (rw (g, f, everything o cheap) at d) i;
      }

  pub rung-reached : (k from p : ℕ) (r : Rung) → Some p ≡ rung_price o.price o.count k from → r ≡ rung_of o x p
      → Some r ≡ rung_at o x k from
  unfolding rung_at
  rung-reached k from p r e f = ap Some f ∙ ap (as_rung o x) e

  pub rung-none : (k from : ℕ) → None ≡ rung_price o.price o.count k from → None ≡ rung_at o x k from
  unfolding rung_at
  rung-none k from e = ap (as_rung o x) e

  -- the price at which x stops is at most 1,000,000
  pub stop-cheap : (stop : ℕ) → stop ≡ stop_level o x → stop ≤ 1000000
  unfolding stop_level
  stop-cheap stop e = omega (arith, (largest-is (stops o x) 1000000).within)

  pub ladder-is : (k stop from lower : ℕ) (rung : RungAt) → stop ≡ stop_level o x
      → from ≡ down o.price o.count 6 (stop + 1) → lower ≡ supply_below o from → rung ≡ rung_at o x k from
      → record { lower = lower; rung = rung } ≡ ladder_at o x k
  unfolding ladder_at ladder_from
  ladder-is k stop from lower rung e f g h =
      let starts : from ≡ ladder_from o x = f ∙ rw (add-one, e) in
      λ i. record { lower = (g ∙ ap (supply_below o) starts) i; rung = (h ∙ ap (rung_at o x k) starts) i }
