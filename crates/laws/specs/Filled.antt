-- A list of which the first places are filled in order.
-- Assumes nothing.
use Rattle.std.specs.Prelude.{ℕ, zero, suc, List, set}

-- the list with its first n entries f 0, f 1, …; entries past them are not touched
unfoldable pub filled : (ℕ → ℕ) → ℕ → List ℕ → List ℕ
filled f zero xs = xs
filled f (suc n) xs = set (filled f n xs) n (f n)
