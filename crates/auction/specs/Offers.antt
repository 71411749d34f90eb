-- The two sides of an auction, and what is offered at a price.
--
-- Quantities are tenths of a megawatt, prices cents per MW-day. Offers are counted from 0; what stands past `count` is
-- never looked at. `Demand` is any price that a curve asks for the k-th tenth, up to its last point.
-- Assumes nothing.
use Rattle.std.specs.Prelude.{ℕ, ◌≤◌, ◌<◌, ◌≡◌, leb, ltb, eqb}
use Rattle.laws.specs.Sum.{sum_where}

-- the offers of a book, each value a function of the row
pub record Offers : Type 0 where
  pub count : ℕ
  pub price : ℕ → ℕ
  pub quantity : ℕ → ℕ
  pub stamp : ℕ → ℕ
  pub resource : ℕ → ℕ
  pub step : ℕ → ℕ

-- a curve: its price at a quantity from 0 to its last point
pub record Demand : Type 0 where
  pub price : ℕ → ℕ
  pub last : ℕ

-- a curve that never rises up to its last point
unfoldable pub Falling : Demand → Type 0
Falling d = (j k : ℕ) → j ≤ k → k ≤ d.last → d.price k ≤ d.price j

-- every offer has something to sell, and no two have one resource number and one step
pub record Proper (o : Offers) : Type 0 where
  pub positive : (i : ℕ) → i < o.count → 0 < o.quantity i
  pub distinct : (i j : ℕ) → i < o.count → j < o.count → o.resource i ≡ o.resource j → o.step i ≡ o.step j → i ≡ j

-- everything offered at the price p or below
unfoldable pub supply : Offers → ℕ → ℕ
supply o p = sum_where (λ i. leb (o.price i) p) o.quantity o.count

-- everything offered strictly below the price p
unfoldable pub supply_below : Offers → ℕ → ℕ
supply_below o p = sum_where (λ i. ltb (o.price i) p) o.quantity o.count

-- everything offered at exactly the price p: the sum of the price level
unfoldable pub level_sum : Offers → ℕ → ℕ
level_sum o p = sum_where (λ i. eqb (o.price i) p) o.quantity o.count
