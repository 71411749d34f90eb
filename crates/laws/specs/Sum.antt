-- Sums and counts over the first n places, and the test that something holds at each of them.
-- Assumes nothing.
use Rattle.std.specs.Prelude.{ℕ, zero, suc, ◌+◌, Bool, true, cond, ◌&&◌}

-- f 0 + f 1 + … + f (n − 1)
unfoldable pub sum_to : (ℕ → ℕ) → ℕ → ℕ
sum_to f zero = 0
sum_to f (suc n) = sum_to f n + f n

-- the sum of f over those of the first n places at which `test` holds
unfoldable pub sum_where : (ℕ → Bool) → (ℕ → ℕ) → ℕ → ℕ
sum_where test f n = sum_to (λ i. cond (test i) (f i) 0) n

-- how many of the first n places pass `test`
unfoldable pub count_where : (ℕ → Bool) → ℕ → ℕ
count_where test n = sum_where test (λ i. 1) n

-- `test` holds at each of the first n places
unfoldable pub every : (ℕ → Bool) → ℕ → Bool
every test zero = true
every test (suc n) = every test n && test n
