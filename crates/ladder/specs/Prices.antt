-- The prices of n rows as a ladder: the next one up, the next one down.
-- Assumes nothing.
use Rattle.std.specs.Prelude.{ℕ, zero, suc, min, max, Bool, cond, leb, ltb, Some, None}
use Rattle.std.specs.declared.option.Option.{Option}

-- a value and another that may not be there, by what is picked of two
abbrev pub of_both : (ℕ → ℕ → ℕ) → ℕ → Option ℕ → ℕ
of_both pick v None = v
of_both pick v (Some w) = pick v w

-- what is picked of the values of f at those of the first n places that pass `test`, if any does
unfoldable pub pick_where : (ℕ → ℕ → ℕ) → (ℕ → Bool) → (ℕ → ℕ) → ℕ → Option ℕ
pick_where pick test f zero = None
pick_where pick test f (suc n) = let rest = pick_where pick test f n in cond (test n) (Some (of_both pick (f n) rest)) rest

-- on from a price that is there, and an end where there is none
abbrev pub onward : {A : Type 0} → A → (ℕ → A) → Option ℕ → A
onward end next None = end
onward end next (Some p) = next p

module _ (price : ℕ → ℕ) (n : ℕ) where
  -- the lowest price that is not under `from`, and the highest under a limit
  unfoldable pub lowest_from : ℕ → Option ℕ
  lowest_from from = pick_where min (λ i. leb from (price i)) price n

  unfoldable pub highest_under : ℕ → Option ℕ
  highest_under limit = pick_where max (λ i. ltb (price i) limit) price n

  -- k prices down from a limit, as far as there are prices
  unfoldable pub down : ℕ → ℕ → ℕ
  down zero limit = limit
  down (suc k) limit = onward limit (λ p. down k p) (highest_under limit)

  -- k prices up from the lowest that is not under `from`, if there are so many
  unfoldable pub rung_price : ℕ → ℕ → Option ℕ
  rung_price zero from = lowest_from from
  rung_price (suc k) from = onward None (λ p. rung_price k (suc p)) (lowest_from from)
