-- What rounding down leaves of a divided amount goes one each to the places with the largest remainders.
--
-- In order: a place's share, and the order; the shares add up; who gets one more has a remainder; a share is at most the
-- exact part rounded up, and at most the weight.
-- Assumes nothing.
use mathlib.Core.Path.{◌≡◌}
use mathlib.Core.Bool.{Bool, true, cond, ◌&&◌}
use mathlib.Core.Logic.{◌⊎◌, inl, inr, ⊎_elim}
use Prim.Native.Nat.{ℕ, suc, ◌+◌, ◌*◌, ◌≤◌, ◌<◌}
use native.Mathlib.Nat.{le_trans, suc-mul}
use native.Mathlib.Omega.{arith}
use lib.Dec.{ltb}
use borrow.Author.Tests.{ltb-true}
use Rattle.laws.specs.Sum.{count_where}
use Rattle.laws.proofs.Cases.{by_order, by-test, cond-true, cond-false, and-true, and_left, and_right}
use Rattle.laws.proofs.Counts.{count_where-mono}
use Rattle.laws.proofs.Summands.{sum_where-add, sum_where-ones}
use Rattle.laws.proofs.Orders.{StrictOrder}
use Rattle.laws.proofs.Ranks.{rank_among, NoTies, ranks-fill}
use Rattle.laws.proofs.Division.{Division, sum_over, whole, part_down, part_left, spare, spare-rest, spare-most}
use Rattle.laws.proofs.Division.{part-exact, part_down-most, part_down-room}

-- a place's share: its part rounded down, and one more where fewer stand before it than are spare
unfoldable pub share : Division → (ℕ → ℕ → Bool) → ℕ → ℕ
share d before i = part_down d i + cond (ltb (rank_among d.within before d.places i) (spare d)) 1 0

-- an order by which what is spare may be given out
pub record LargestFirst (d : Division) (before : ℕ → ℕ → Bool) : Type 0 where
  -- it is strict
  pub order : StrictOrder before
  -- no two places within stand level
  pub untied : NoTies d.within before d.places
  -- the larger remainder stands first
  pub larger : (i j : ℕ) → d.within i ≡ true → d.within j ≡ true → part_left d i < part_left d j → before j i ≡ true

module _ (d : Division) (before : ℕ → ℕ → Bool) (some : 0 < whole d) (first : LargestFirst d before) where
  abbrev rank : ℕ → ℕ
  rank = rank_among d.within before d.places

  spare-among : spare d ≤ count_where d.within d.places
  spare-among =
      let among = count_where-mono _ d.within d.places (λ i l t. and_left (d.within i) (ltb 0 (part_left d i)) t) in
      le_trans (spare-most d some) among

  -- the shares add up to the amount
  pub shares-add-up : sum_over d (share d before) ≡ d.amount
  unfolding share
  shares-add-up =
      omega (
        arith,
        sum_where-add d.within (part_down d) (λ i. cond (ltb (rank i) (spare d)) 1 0) d.places,
        sum_where-ones d.within (λ i. ltb (rank i) (spare d)) d.places,
        ranks-fill d.within before first.order d.places (spare d) first.untied spare-among,
        spare-rest d some,
      )

  left-before : (i j : ℕ) → d.within i ≡ true → part_left d i ≤ 0
      → d.within j && ltb 0 (part_left d j) ≡ true → d.within j && before j i ≡ true
  left-before i j w z t =
      let v = and_left (d.within j) _ t in
      let some_left = ltb-true 0 (part_left d j) (and_right (d.within j) _ t) in
      and-true (d.within j) (before j i) v (first.larger i j w v (omega arith))

  -- who has no remainder stands after all who have one, so what is spare does not reach it
  pub spare-left : (i : ℕ) → d.within i ≡ true → rank i < spare d → 0 < part_left d i
  spare-left i w l =
      by_order (part_left d i) 0
      (λ z.
      let after = count_where-mono _ _ d.places (λ j m t. left-before i j w z t) in
      omega (arith, spare-most d some))
      (λ h. h)

  -- a share is the part rounded down, or one more where a remainder is left
  pub share-cases : (i : ℕ) → d.within i ≡ true
      → (share d before i ≡ part_down d i) ⊎ ((share d before i ≡ suc (part_down d i)) × (0 < part_left d i))
  unfolding share
  share-cases i w =
      by-test (ltb (rank i) (spare d))
      (λ t. inr (omega (arith, cond-true {X = ℕ} _ 1 0 t), spare-left i w (ltb-true _ _ t)))
      (λ t. inl (omega (arith, cond-false {X = ℕ} _ 1 0 t)))

  -- it is less than one over the exact part
  pub share-ceiling : (i : ℕ) → d.within i ≡ true → share d before i * whole d < d.weight i * d.amount + whole d
  share-ceiling i w =
      ⊎_elim
      (λ e. rw e (omega (arith, part-exact d i)))
      (λ e. rw (e.0, suc-mul) (omega (arith, part-exact d i)))
      (share-cases i w)

  -- it is at most the weight, where the amount is at most all weights
  pub share-most : d.amount ≤ whole d → (i : ℕ) → d.within i ≡ true → share d before i ≤ d.weight i
  share-most most i w =
      ⊎_elim
      (λ e. omega (arith, part_down-most d some most i))
      (λ e. omega (arith, part_down-room d most i e.1))
      (share-cases i w)
