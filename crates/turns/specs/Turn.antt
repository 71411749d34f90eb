-- A row's turn for the spare tenths of its level, and the row at the other side of the cut.
-- Assumes nothing.
use Rattle.std.specs.Prelude.{ℕ, ◌-◌, cond, ltb, eqb, Some, None}
use Rattle.auction.specs.Offers.{Offers}
use Rattle.auction.specs.Shares.{remainder, spare_tenths, rank, cleared}
use Rattle.turns.specs.Order.{contenders, placed, contender_at}
use Rattle.turns.specs.declared.turn.Rival.{Rival}
use Rattle.turns.specs.declared.order.Key.{Key}
use Rattle.turns.specs.declared.order.Key.TheVariants.{Remainder, Stamp, Resource, Step}
use Rattle.std.specs.declared.option.Option.{Option}
use Rattle.turns.specs.declared.turn.Turn.{Turn}

-- what decides between rows i and j: their remainders, their stamps, their resources or their steps
unfoldable pub decided_by : Offers → ℕ → ℕ → ℕ → Key
decided_by o x i j =
    cond (eqb (remainder o x i) (remainder o x j))
    (cond (eqb (o.stamp i) (o.stamp j)) (cond (eqb (o.resource i) (o.resource j)) Step Resource) Stamp)
    Remainder

-- the place at the other side of the cut: for one that gets a spare tenth the first that gets none, for any other the last
-- that gets one
unfoldable pub rival_place : ℕ → ℕ → ℕ
rival_place place spares = cond (ltb place spares) spares (spares - 1)

-- the row at the other side of the cut, where any tenth is spare
unfoldable pub rival_row : Offers → ℕ → ℕ → Option ℕ
rival_row o x i =
    let spares = spare_tenths o x (o.price i) in
    cond (eqb spares 0) None (placed o x (o.price i) (rival_place (rank o x i) spares))

-- row i against a row that may not be there
abbrev pub rival_by : Offers → ℕ → ℕ → Option ℕ → Option Rival
rival_by o x i None = None
rival_by o x i (Some j) = Some (record { contender = contender_at o x j; decided = decided_by o x i j })

-- row i's place in the order, how many contend for how many spare tenths, what the row clears, and its rival
unfoldable pub turn_at : Offers → ℕ → ℕ → Turn
turn_at o x i =
    record {
      place = rank o x i;
      contenders = contenders o (o.price i);
      spares = spare_tenths o x (o.price i);
      cleared = cleared o x i;
      rival = rival_by o x i (rival_row o x i);
    }
