-- What the stages of sharing out ask of the rows and of the level at which the total stops.
-- Assumes nothing.
use Rattle.std.specs.Prelude.{ℕ, ◌+◌, ◌≤◌, ◌<◌, ◌≡◌, List, length, get_or}
use Rattle.auction.specs.Offers.{Offers}
use Rattle.auction.specs.Shares.{spare_tenths}
use Rattle.columns.specs.inner.Column.{rows_of}
use Rattle.levels.specs.inner.Stop.{StopsAt}
use Rattle.levels.specs.declared.level.Level.{Level}
use Rattle.shares.specs.inner.Out.{Ordered}
use Rattle.parts.specs.inner.Parts.{row_part}
use Rattle.parts.specs.inner.Divides.{DividesRows}

-- a list holds the part of each of n rows
pub record HoldsParts (l : Level) (prices quantities : List ℕ) (n : ℕ) (shares : List ℕ) : Type 0 where
  pub long : n ≤ length shares
  pub row : (i : ℕ) → i < n → get_or shares i 0 ≡ row_part l prices quantities i

-- offers that each have something to sell, at prices of a book, and the level at which a total of them stops
pub record Stopped (o : Offers) (l : Level) : Type 0 where
  pub stops : StopsAt o l.total l
  pub cheap : (i : ℕ) → i < o.count → o.price i ≤ 1000000
  pub positive : (i : ℕ) → i < o.count → 0 < o.quantity i

-- n rows that hold their parts, and the spare tenths of their level
pub record SparesDue (prices quantities stamps resources steps : List ℕ) (n : ℕ) (l : Level) (spare : ℕ) (out : List ℕ) :
    Type 0 where
  pub divides : DividesRows l prices quantities n
  pub ordered : Ordered quantities stamps resources steps n
  pub stopped : Stopped (rows_of prices quantities stamps resources steps n) l
  pub holds : HoldsParts l prices quantities n out
  pub tenths : spare ≡ spare_tenths (rows_of prices quantities stamps resources steps n) l.total l.price

-- to each of n entries a number can be added within 32 bits
pub record Adds (tenths : List ℕ) (n : ℕ) (out : List ℕ) : Type 0 where
  pub given : n ≤ length tenths
  pub long : n ≤ length out
  pub fits : (i : ℕ) → i < n → get_or out i 0 + get_or tenths i 0 < 4294967296
