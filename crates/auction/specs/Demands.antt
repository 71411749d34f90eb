-- What demands 2 and 3 ask of a total and of the amounts that offers clear, and what one more offer may do.
--
-- In order: the cleared total; amounts that clear by price; amounts that are the best choice; amounts that divide a total by
-- the stated shares; a book with one more offer, and a clearing that is no dearer.
-- Assumes nothing.
use Rattle.std.specs.Prelude.{◌≡◌, true, ◌⊎◌, ◌↔◌, ℕ, suc, ◌≤◌, ◌<◌, eqb}
use Rattle.std.proofs.Math.Option.{some}
use Rattle.laws.specs.Sum.{sum_where}
use Rattle.auction.specs.Offers.{Offers, Demand, supply}
use Rattle.auction.specs.Clearing.{cleared_total, clearing_price}
use Rattle.auction.specs.Shares.{level_amount, share_down, remainder, spare_tenths, ahead, rank}
use Rattle.auction.specs.Surplus.{total, Choice, NoMoreSurplus}

-- a quantity that the offers priced at or below the curve there can supply
abbrev pub Suppliable : Demand → Offers → ℕ → Type 0
Suppliable d o k = k ≤ supply o (d.price k)

-- x is the largest quantity that the offers priced at or below the curve there can supply
pub record IsTotal (d : Demand) (o : Offers) (x : ℕ) : Type 0 where
  -- it is not past the curve's last point
  pub within : x ≤ d.last
  -- the offers priced at or below the curve price at x sum to at least x
  pub supplied : Suppliable d o x
  -- no larger quantity up to the last point is so supplied
  pub most : (k : ℕ) → k ≤ d.last → Suppliable d o k → k ≤ x

-- the amounts x clear by price
pub record ByPrice (d : Demand) (o : Offers) (x : ℕ → ℕ) : Type 0 where
  -- no offer clears more than its quantity
  pub within : (i : ℕ) → i < o.count → x i ≤ o.quantity i
  -- together they are the cleared total
  pub sum : total o x ≡ cleared_total d o
  -- every offer under the clearing price clears in full
  pub whole : (p : ℕ) → clearing_price d o ≡ some p → (i : ℕ) → i < o.count → o.price i < p → x i ≡ o.quantity i
  -- every offer over the clearing price clears nothing
  pub nothing : (p : ℕ) → clearing_price d o ≡ some p → (i : ℕ) → i < o.count → p < o.price i → x i ≡ 0

-- the amounts x are the best choice
pub record Best (d : Demand) (o : Offers) (x : ℕ → ℕ) : Type 0 where
  -- they are a choice: each between nothing and the offered quantity, together no more than the curve's last point
  pub choice : Choice d o x
  -- no other choice leaves more surplus
  pub most : (a : ℕ → ℕ) → Choice d o a → NoMoreSurplus d o a x
  -- none with equal surplus clears more
  pub largest : (a : ℕ → ℕ) → Choice d o a → NoMoreSurplus d o x a → total o a ≤ total o x

-- the amounts a divide the total x by the stated shares
pub record Divided (o : Offers) (x : ℕ) (a : ℕ → ℕ) : Type 0 where
  -- each is its proportional part rounded down, or, where that leaves a remainder, up to a tenth
  pub part : (i : ℕ) → i < o.count → (a i ≡ share_down o x i) ⊎ ((a i ≡ suc (share_down o x i)) × (0 < remainder o x i))
  -- no part passes its offer
  pub within : (i : ℕ) → i < o.count → a i ≤ o.quantity i
  -- the parts of a price level add up exactly to what the level receives
  pub exact : (p : ℕ) → sum_where (λ i. eqb (o.price i) p) a o.count ≡ level_amount o x p
  -- a part is rounded up exactly where fewer of its level stand before it than there are spare tenths
  pub first : (i : ℕ) → i < o.count → (a i ≡ suc (share_down o x i)) ↔ (rank o x i < spare_tenths o x (o.price i))
  -- so of two offers of a level the one that is ahead gets a spare tenth if the other does
  pub ordered : (i j : ℕ) → i < o.count → j < o.count → o.price j ≡ o.price i → ahead o x j i ≡ true
      → a i ≡ suc (share_down o x i) → a j ≡ suc (share_down o x j)

-- o' has one more offer than o, at the end
pub record OneMore (o o' : Offers) : Type 0 where
  -- there is one row more
  pub count : o'.count ≡ suc o.count
  -- the rows before it have the prices that they had
  pub price : (i : ℕ) → i < o.count → o.price i ≡ o'.price i
  -- and their quantities
  pub quantity : (i : ℕ) → i < o.count → o.quantity i ≡ o'.quantity i

-- from o to o' the total does not fall and the price does not rise
pub record NoDearer (d : Demand) (o o' : Offers) : Type 0 where
  -- the cleared total does not fall
  pub total : cleared_total d o ≤ cleared_total d o'
  -- where there was a price there is one
  pub priced : (p : ℕ) → clearing_price d o ≡ some p → (q : ℕ) × (clearing_price d o' ≡ some q)
  -- and it does not rise
  pub price : (p q : ℕ) → clearing_price d o ≡ some p → clearing_price d o' ≡ some q → q ≤ p
