-- The order of spare tenths, `ahead`, is a strict order in which no two offers of a book stand level.
--
-- It is read as its keys, one after the other: the remainder, the highest first, then the stamp, then the resource, then the step.
-- Assumes nothing.
use mathlib.Core.Path.{◌≡◌}
use mathlib.Core.Bool.{Bool, true}
use Prim.Native.Nat.{ℕ, ◌<◌}
use Rattle.laws.specs.Orders.{by_key, then_by}
use Rattle.laws.proofs.Orders.{StrictOrder, Tied, by_key-order, by_key-tied, then_by-order, then_by-tied}
use Rattle.laws.proofs.Orders.{highest_by-order, highest_by-tied, highest_by-higher}
use Rattle.laws.proofs.Ranks.{NoTies}
use Rattle.auction.specs.Offers.{Offers, Proper}
use Rattle.auction.specs.Shares.{remainder, ahead}

-- the keys among equal stamps: the lower resource, then the lower step
abbrev by_resource : Offers → ℕ → ℕ → Bool
by_resource o = then_by o.resource (by_key o.step)

-- the keys among equal remainders: the earlier stamp, then those
abbrev by_stamp : Offers → ℕ → ℕ → Bool
by_stamp o = then_by o.stamp (by_resource o)

-- nothing is ahead of itself, and what is ahead of one that is ahead of a third is ahead of the third
pub ahead-order : (o : Offers) (x : ℕ) → StrictOrder (ahead o x)
unfolding ahead
ahead-order o x =
    highest_by-order (remainder o x) (by_stamp o)
    (then_by-order o.stamp (by_resource o) (then_by-order o.resource _ (by_key-order o.step)))

-- offers of which neither is ahead have one resource number and one step
ahead-tied : (o : Offers) (x i j : ℕ) → Tied (ahead o x) i j → (o.resource i ≡ o.resource j) × (o.step i ≡ o.step j)
unfolding ahead
ahead-tied o x i j t =
    let remained = highest_by-tied (remainder o x) (by_stamp o) i j t in
    let stamped = then_by-tied o.stamp (by_resource o) i j remained.1 in
    let numbered = then_by-tied o.resource (by_key o.step) i j stamped.1 in
    (numbered.0, by_key-tied o.step i j numbered.1)

-- where resource numbers or steps differ, no two offers stand level
pub ahead-untied : (o : Offers) (x : ℕ) (within : ℕ → Bool) → Proper o → NoTies within (ahead o x) o.count
ahead-untied o x within proper i j k l v w t =
    let tied = ahead-tied o x i j t in
    proper.distinct i j k l tied.0 tied.1

-- the larger remainder is ahead
pub ahead-larger : (o : Offers) (x i j : ℕ) → remainder o x i < remainder o x j → ahead o x j i ≡ true
unfolding ahead
ahead-larger o x i j l = highest_by-higher (remainder o x) (by_stamp o) j i l
