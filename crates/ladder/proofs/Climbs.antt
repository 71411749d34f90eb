-- The ladder of prices, step by step.
--
-- In order: a price down and a price up; a price that was found is no higher than those of the rows.
-- Assumes nothing.
use mathlib.Core.Path.{◌≡◌, sym, ap, ◌∙◌}
use mathlib.Core.Bool.{Bool, true, false, cond}
use Prim.Native.Nat.{ℕ, zero, suc, ◌+◌, ◌≤◌, ◌<◌, min}
use native.Mathlib.Nat.{le_refl}
use native.Mathlib.Omega.{arith}
use lib.Dec.{leb}
use Rattle.std.specs.Prelude.{Some, None}
use Rattle.std.specs.declared.option.Option.{Option}
use Rattle.ladder.specs.Prices.{of_both, pick_where, lowest_from, highest_under, down, rung_price, onward}

-- ---- a price down and a price up

module _ (price : ℕ → ℕ) (n : ℕ) where
  pub down-all : (k limit : ℕ) → k ≡ 0 → down price n k limit ≡ limit
  unfolding down
  down-all k limit e = ap (λ (m : ℕ). down price n m limit) e

  pub down-one : (k j limit p : ℕ) → k ≡ suc j → Some p ≡ highest_under price n limit → down price n k limit ≡ down price n j p
  unfolding down
  down-one k j limit p e f = ap (λ (m : ℕ). down price n m limit) e ∙ ap (onward limit (down price n j)) (sym f)

  pub down_ends : (k j limit : ℕ) → k ≡ suc j → None ≡ highest_under price n limit → down price n k limit ≡ limit
  unfolding down
  down_ends k j limit e f = ap (λ (m : ℕ). down price n m limit) e ∙ ap (onward limit (down price n j)) (sym f)

  pub up-here : (k from : ℕ) → k ≡ 0 → rung_price price n k from ≡ lowest_from price n from
  unfolding rung_price
  up-here k from e = ap (λ (m : ℕ). rung_price price n m from) e

  pub up_one : (k j from p : ℕ) → k ≡ suc j → Some p ≡ lowest_from price n from → rung_price price n k from ≡ rung_price price n j (p + 1)
  unfolding rung_price
  up_one k j from p e f =
      ap (λ (m : ℕ). rung_price price n m from) e
      ∙ ap (onward None (λ (q : ℕ). rung_price price n j (suc q))) (sym f)
      ∙ ap (rung_price price n j) {x = suc p} {y = p + 1} (omega arith)

  pub up_ends : (k j from : ℕ) → k ≡ suc j → None ≡ lowest_from price n from → None ≡ rung_price price n k from
  unfolding rung_price
  up_ends k j from e f =
      sym (ap (λ (m : ℕ). rung_price price n m from) e ∙ ap (onward None (λ (q : ℕ). rung_price price n j (suc q))) (sym f))

  abbrev Within : Option ℕ → Type 0
  Within None = Unit {0}
  Within (Some p) = p ≤ 1000000

  lesser-within : (t : Bool) (v : ℕ) (rest : Option ℕ) → v ≤ 1000000 → Within rest → Within (cond t (Some (of_both min v rest)) rest)
  lesser-within true v None l w = l
  lesser-within true v (Some q) l w = omega arith
  lesser-within false v rest l w = w

  least-within : (test : ℕ → Bool) (m : ℕ) → ((i : ℕ) → i < m → price i ≤ 1000000) → Within (pick_where min test price m)
  unfolding pick_where
  least-within test zero cheap = tt
  least-within test (suc m) cheap =
      lesser-within (test m) (price m) _ (cheap m (le_refl (suc m))) (least-within test m (λ i l. cheap i (omega arith)))

  -- a price that was found is no higher than those of the rows
  pub found-cheap : (from p : ℕ) → ((i : ℕ) → i < n → price i ≤ 1000000) → Some p ≡ lowest_from price n from → p ≤ 1000000
  unfolding lowest_from
  found-cheap from p cheap e = rw (← e) at (least-within (λ i. leb from (price i)) n cheap)
