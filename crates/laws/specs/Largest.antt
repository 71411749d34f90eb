-- The largest number up to a top that passes a test, and the least value among the places that pass one.
-- Assumes nothing.
use Rattle.std.specs.Prelude.{ℕ, zero, suc, min, Bool, cond}
use Rattle.std.proofs.Math.Option.{Option, none, some}

-- the largest k from 1 to `top` that passes `test`, and 0 where none does
unfoldable pub largest : (ℕ → Bool) → ℕ → ℕ
largest test zero = 0
largest test (suc top) = cond (test (suc top)) (suc top) (largest test top)

-- the lesser of a value and another that may not be there
abbrev pub lesser : ℕ → Option ℕ → ℕ
lesser v none = v
lesser v (some w) = min v w

-- the least value of f at those of the first n places that pass `test`, if any does
unfoldable pub least_where : (ℕ → Bool) → (ℕ → ℕ) → ℕ → Option ℕ
least_where test f zero = none
least_where test f (suc n) = let rest = least_where test f n in cond (test n) (some (lesser (f n) rest)) rest
