-- A price level is an amount divided in proportion to quantities, the largest remainders first.
--
-- In order: the level as a division; its parts, remainders, spare tenths and shares are those of the definitions; the
-- order of spare tenths is one that the division may go by; the level's sum and amount.
-- Assumes nothing.
use mathlib.Core.Path.{◌≡◌, refl, ap}
use mathlib.Core.Bool.{true}
use Prim.Native.Nat.{ℕ, ◌-◌, ◌≤◌, ◌<◌}
use native.Mathlib.Nat.{min-le_right}
use native.Mathlib.Omega.{arith}
use lib.Dec.{eqb}
use borrow.Author.Tests.{eqb-true, eq-eqb}
use Rattle.laws.proofs.Where.{sum_where-place}
use Rattle.laws.proofs.Summands.{sum_where-ext}
use Rattle.laws.proofs.Division.{Division, sum_over, whole, part_down, part_left, spare}
use Rattle.laws.proofs.Ranks.{rank_among}
use Rattle.laws.proofs.Remainders.{share, LargestFirst}
use Rattle.auction.specs.Offers.{Offers, Proper, level_sum}
use Rattle.auction.specs.Shares.{level_amount, weighted, share_down, remainder, spare_tenths, ahead, rank, cleared}
use Rattle.auction.proofs.Ahead.{ahead-order, ahead-untied, ahead-larger}

-- the offers at p divide the level's amount by their quantities
abbrev pub level_division : Offers → ℕ → ℕ → Division
level_division o x p =
    record {
      within = λ i. eqb (o.price i) p;
      weight = o.quantity;
      places = o.count;
      amount = level_amount o x p;
    }

-- at an offer's own price, the division's terms are those of the definitions
module _ (o : Offers) (x p i : ℕ) (at : o.price i ≡ p) where
  pub division-down : part_down (level_division o x p) i ≡ share_down o x i
  unfolding part_down whole share_down weighted level_sum
  division-down = rw (← at)

  pub division-left : part_left (level_division o x p) i ≡ remainder o x i
  unfolding part_left whole remainder weighted level_sum
  division-left = rw (← at)

  pub division-rank : rank_among (level_division o x p).within (ahead o x) o.count i ≡ rank o x i
  unfolding rank
  division-rank = rw (← at)

-- so are the sums of the parts rounded down, the spare tenths and the shares
pub division-downs : (o : Offers) (x p : ℕ)
    → sum_over (level_division o x p) (part_down (level_division o x p)) ≡ sum_over (level_division o x p) (share_down o x)
division-downs o x p = sum_where-ext _ _ _ o.count (λ i l t. division-down o x p i (eqb-true (o.price i) p t))

pub division-spare : (o : Offers) (x p : ℕ) → spare (level_division o x p) ≡ spare_tenths o x p
unfolding spare spare_tenths
division-spare o x p = ap (λ (s : ℕ). level_amount o x p - s) (division-downs o x p)

pub division-share : (o : Offers) (x p i : ℕ) → o.price i ≡ p
    → share (level_division o x p) (ahead o x) i ≡ cleared o x i
unfolding share cleared
division-share o x p i at = rw (division-down o x p i at, division-rank o x p i at, division-spare o x p, at)

division-larger : (o : Offers) (x p i j : ℕ) → o.price i ≡ p → o.price j ≡ p
    → part_left (level_division o x p) i < part_left (level_division o x p) j → ahead o x j i ≡ true
division-larger o x p i j v w l = ahead-larger o x i j (omega (arith, division-left o x p i v, division-left o x p j w))

-- the order of spare tenths is an order that the division may go by
pub division-first : (o : Offers) (x p : ℕ) → Proper o → LargestFirst (level_division o x p) (ahead o x)
division-first o x p proper =
    record {
      order = ahead-order o x;
      untied = ahead-untied o x _ proper;
      larger = λ i j v w. division-larger o x p i j (eqb-true (o.price i) p v) (eqb-true (o.price j) p w);
    }

-- all weights together are the level's sum
pub division-whole : (o : Offers) (x p : ℕ) → whole (level_division o x p) ≡ level_sum o p
unfolding whole level_sum
division-whole o x p = refl

-- a level receives no more than its sum
pub level_amount-most : (o : Offers) (x p : ℕ) → level_amount o x p ≤ level_sum o p
unfolding level_amount
level_amount-most o x p = min-le_right _ _

-- the level of an offer has something to sell
pub level_sum-positive : (o : Offers) (i : ℕ) → Proper o → i < o.count → 0 < level_sum o (o.price i)
unfolding level_sum
level_sum-positive o i proper l =
    let same = eq-eqb (o.price i) (o.price i) refl in
    let part = sum_where-place (λ j. eqb (o.price j) (o.price i)) o.quantity o.count i l same in
    omega (arith, proper.positive i l)
