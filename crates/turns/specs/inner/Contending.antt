-- A price level as the code has it, what its rows contend with, and what is asked of them.
--
-- In order: what the parts of a level ask; its parts rounded down; a contender, the order of two, and what decides
-- between them; how many stand before one.
-- Assumes nothing.
use Rattle.std.specs.Prelude.{ℕ, ◌*◌, ◌/◌, ◌%◌, ◌≤◌, ◌<◌, ◌≡◌, Bool, cond, ◌&&◌, ◌||◌, List, get_or, ltb, eqb}
use Rattle.laws.specs.Sum.{sum_where, count_where}
use Rattle.auction.specs.Offers.{Offers}
use Rattle.reasons.specs.declared.share.Received.{Received}
use Rattle.turns.specs.declared.order.Contender.{Contender}
use Rattle.turns.specs.declared.order.Key.{Key}
use Rattle.turns.specs.declared.order.Key.TheVariants.{Remainder, Stamp, Resource, Step}

-- where one of n rows has the price p, the level has something to sell; it receives no more than that
pub record Parted (prices : List ℕ) (n p : ℕ) (l : Received) : Type 0 where
  pub some : (i : ℕ) → i < n → get_or prices i 0 ≡ p → 0 < l.sum
  pub within : l.amount ≤ l.sum

-- the parts of the rows at p, rounded down, together
unfoldable pub parts_in : Offers → ℕ → Received → ℕ
parts_in o p l = sum_where (λ i. eqb (o.price i) p) (λ i. o.quantity i * l.amount / l.sum) o.count

-- what a row contends with at a level
abbrev pub contender_of : (quantity stamp resource step : ℕ) → Received → Contender
contender_of quantity stamp resource step l =
    record { remainder = quantity * l.amount % l.sum; stamp = stamp; resource = resource; step = step }

-- the same of row i of offers
abbrev pub contender_in : Offers → ℕ → Received → Contender
contender_in o i l = contender_of (o.quantity i) (o.stamp i) (o.resource i) (o.step i) l

-- the first stands before the second
unfoldable pub ahead_of : Contender → Contender → Bool
ahead_of a b =
    ltb b.remainder a.remainder
    || (eqb b.remainder a.remainder
    && (ltb a.stamp b.stamp
    || (eqb a.stamp b.stamp
    && (ltb a.resource b.resource || (eqb a.resource b.resource && ltb a.step b.step)))))

-- what decides between two
unfoldable pub decided_of : Contender → Contender → Key
decided_of a b =
    cond (eqb a.remainder b.remainder)
    (cond (eqb a.stamp b.stamp) (cond (eqb a.resource b.resource) Step Resource) Stamp)
    Remainder

-- how many rows of the level at p stand before a contender
unfoldable pub before_in : Offers → ℕ → Received → Contender → ℕ
before_in o p l c =
    count_where (λ j. eqb (o.price j) p && ahead_of (contender_in o j l) c) o.count
