-- Orders of places by one key after another.
-- Assumes nothing.
use Rattle.std.specs.Prelude.{ℕ, Bool, ◌&&◌, ◌||◌, ltb, eqb}

-- the lower key first
abbrev pub by_key : (ℕ → ℕ) → ℕ → ℕ → Bool
by_key key i j = ltb (key i) (key j)

-- the lower key first, and the order `rest` among equal keys
abbrev pub then_by : (ℕ → ℕ) → (ℕ → ℕ → Bool) → ℕ → ℕ → Bool
then_by key rest i j = ltb (key i) (key j) || (eqb (key i) (key j) && rest i j)

-- the higher key first, and the order `rest` among equal keys
abbrev pub highest_by : (ℕ → ℕ) → (ℕ → ℕ → Bool) → ℕ → ℕ → Bool
highest_by key rest i j = ltb (key j) (key i) || (eqb (key j) (key i) && rest i j)
