-- The rows of a price level in the order of spare tenths: how many there are, and who stands at a place.
-- Assumes nothing.
use Rattle.std.specs.Prelude.{ℕ, zero, suc, Bool, cond, ◌&&◌, eqb, Some, None}
use Rattle.laws.specs.Sum.{count_where}
use Rattle.auction.specs.Offers.{Offers}
use Rattle.auction.specs.Shares.{remainder, rank}
use Rattle.turns.specs.declared.order.Contender.{Contender}
use Rattle.turns.specs.declared.order.Key.{Key}
use Rattle.turns.specs.declared.order.Key.TheVariants.{Remainder, Stamp, Resource, Step}
use Rattle.std.specs.declared.option.Option.{Option}

-- who stands at a place: no one where no row of the price has it
abbrev pub Placed : Type 0
Placed = Option Contender

-- the place of a key among the keys: 0 the remainders, 1 the stamps, 2 the resources, 3 the steps
abbrev pub number_of : Key → ℕ
number_of Remainder = 0
number_of Stamp = 1
number_of Resource = 2
number_of Step = 3

-- how many rows are at the price p
unfoldable pub contenders : Offers → ℕ → ℕ
contenders o p = count_where (λ i. eqb (o.price i) p) o.count

-- the first that is there of two
abbrev pub or_else : Option ℕ → Option ℕ → Option ℕ
or_else None other = other
or_else (Some i) other = Some i

-- the first of the first n places that passes `test`, if any does
unfoldable pub first_where : (ℕ → Bool) → ℕ → Option ℕ
first_where test zero = None
first_where test (suc n) = or_else (first_where test n) (cond (test n) (Some n) None)

-- the row at place k, from 0, of the level at p
unfoldable pub placed : Offers → ℕ → ℕ → ℕ → Option ℕ
placed o x p k = first_where (λ i. eqb (o.price i) p && eqb (rank o x i) k) o.count

-- what row i contends for a spare tenth with
unfoldable pub contender_at : Offers → ℕ → ℕ → Contender
contender_at o x i =
    record { remainder = remainder o x i; stamp = o.stamp i; resource = o.resource i; step = o.step i }

-- a row that may not be there, as a contender
abbrev pub held_by : Offers → ℕ → Option ℕ → Placed
held_by o x None = None
held_by o x (Some i) = Some (contender_at o x i)

-- who stands at place k of the level at p
unfoldable pub placed_at : Offers → ℕ → ℕ → ℕ → Placed
placed_at o x p k = held_by o x (placed o x p k)
