-- What an offer clears, told from the offer itself and not from the row in which it stands.
--
-- In order: the share, the remainder, the order of spare tenths, the rank and the amount of an offer that stands anywhere; that they
-- are those of the definitions; an offer in a level that receives nothing clears nothing.
-- Assumes nothing.
use mathlib.Core.Path.{◌≡◌, refl}
use mathlib.Core.Bool.{Bool, cond, ◌&&◌, ◌||◌}
use Prim.Native.Nat.{ℕ, ◌+◌, ◌-◌, ◌*◌, ◌/◌, ◌%◌}
use native.Mathlib.Nat.{mul-zero, zero-div}
use native.Mathlib.Omega.{arith}
use lib.Dec.{ltb, eqb}
use borrow.Author.Tests.{le-ltb}
use Rattle.laws.specs.Sum.{sum_to, sum_where, count_where}
use Rattle.auction.specs.Offers.{Offers, level_sum}
use Rattle.auction.specs.Shares.{level_amount, weighted, share_down, remainder, spare_tenths, ahead, rank, cleared}
use Rattle.auction.specs.Losers.{Row, row_of}

module _ (o : Offers) (x : ℕ) where
  -- the exact part of an offer, rounded down, and what that leaves
  unfoldable pub row_down : Row → ℕ
  row_down r = r.quantity * level_amount o x r.price / level_sum o r.price

  unfoldable pub row_left : Row → ℕ
  row_left r = r.quantity * level_amount o x r.price % level_sum o r.price

  -- the offer r is ahead of the offer s in the order of spare tenths
  unfoldable pub row_ahead : Row → Row → Bool
  row_ahead r s =
      ltb (row_left s) (row_left r)
      || (eqb (row_left s) (row_left r)
      && (ltb r.stamp s.stamp
      || (eqb r.stamp s.stamp
      && (ltb r.resource s.resource || (eqb r.resource s.resource && ltb r.step s.step)))))

  -- how the offer r counts in the rank of the offer s, and the rank of s
  unfoldable pub rank_part : Row → Row → ℕ
  rank_part s r = cond (eqb r.price s.price && row_ahead r s) 1 0

  unfoldable pub row_rank : Row → ℕ
  row_rank s = sum_to (λ j. rank_part s (row_of o j)) o.count

  -- what an offer adds to the shares rounded down of the level at q
  unfoldable pub down_part : ℕ → Row → ℕ
  down_part q r = cond (eqb r.price q) (row_down r) 0

  -- what an offer clears
  unfoldable pub row_clears : Row → ℕ
  row_clears r = row_down r + cond (ltb (row_rank r) (spare_tenths o x r.price)) 1 0

  -- the spare tenths of a level
  pub spares-by-row : (q : ℕ) → spare_tenths o x q ≡ level_amount o x q - sum_to (λ j. down_part q (row_of o j)) o.count
  unfolding spare_tenths sum_where down_part row_down share_down weighted
  spares-by-row q = refl

  -- what clears by the definitions is what the row's offer clears
  pub cleared-by-row : (i : ℕ) → cleared o x i ≡ row_clears (row_of o i)
  unfolding cleared row_clears row_down row_rank rank_part row_ahead row_left rank ahead share_down remainder weighted count_where sum_where
  cleared-by-row i = refl

  -- an offer in a level that receives nothing clears nothing
  pub clears-nothing : (r : Row) → level_amount o x r.price ≡ 0 → row_clears r ≡ 0
  unfolding row_clears row_down
  clears-nothing r e =
      let none : spare_tenths o x r.price ≡ 0 = omega (arith, spares-by-row r.price) in
      rw (e, mul-zero r.quantity, zero-div (level_sum o r.price), none, le-ltb (row_rank r) 0 (omega arith))
