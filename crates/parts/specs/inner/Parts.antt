-- What a row has of a total, told from its price, its quantity and the level at which the total stops.
--
-- In order: its part rounded down, its key in the order of spare tenths, and whether it contends for one; the same of the
-- rows of lists.
-- Assumes nothing.
use Rattle.std.specs.Prelude.{ℕ, ◌-◌, ◌*◌, ◌/◌, ◌%◌, cond, List, get_or, ltb, eqb}
use Rattle.levels.specs.declared.level.Level.{Level}

-- under the level all of the quantity, over it nothing, at it the exact part rounded down
unfoldable pub part_of : Level → ℕ → ℕ → ℕ
part_of l price quantity =
    cond (ltb price l.price) quantity
    (cond (ltb l.price price) 0
    (quantity * l.amount / l.sum))

-- at the level the lower the more rounding down left, elsewhere 0
unfoldable pub key_of : Level → ℕ → ℕ → ℕ
key_of l price quantity = cond (eqb price l.price) (l.sum - quantity * l.amount % l.sum) 0

module _ (l : Level) (prices quantities : List ℕ) (row : ℕ) where
  abbrev pub row_part : ℕ
  row_part = part_of l (get_or prices row 0) (get_or quantities row 0)

  abbrev pub row_key : ℕ
  row_key = key_of l (get_or prices row 0) (get_or quantities row 0)

-- a row at the level stands at 1, any other at 0
abbrev pub row_standing : Level → List ℕ → ℕ → ℕ
row_standing l prices row = cond (eqb (get_or prices row 0) l.price) 1 0
