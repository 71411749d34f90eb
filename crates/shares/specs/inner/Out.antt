-- What a list of amounts holds once a total is shared out over its rows.
-- Assumes nothing.
use Rattle.std.specs.Prelude.{ℕ, ◌≤◌, ◌<◌, ◌≡◌, List, length, get_or}
pub use Rattle.columns.specs.inner.Ordered.{Ordered}
use Rattle.auction.specs.Offers.{Offers}
use Rattle.auction.specs.Shares.{cleared}

-- `after` holds what each row of o clears of the total x, and past the last row what `before` held
pub record SharedOut (o : Offers) (x : ℕ) (before after : List ℕ) : Type 0 where
  pub length-kept : length after ≡ length before
  pub row : (i : ℕ) → i < o.count → get_or after i 0 ≡ cleared o x i
  pub past : (i : ℕ) → o.count ≤ i → get_or after i 0 ≡ get_or before i 0
