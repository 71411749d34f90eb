-- `turn_at` puts a row's turn together.
-- Assumes nothing.
use mathlib.Core.Path.{◌≡◌, refl, ◌∙◌}
use lib.ListN.{get_or}
use Rattle.auction.specs.Shares.{spare_tenths}
use Rattle.columns.specs.inner.Sides.{offers_in}
use Rattle.turns.proofs.Counted.{counted}
use Rattle.turns.proofs.Leveled.{down-rows, spares-rows}
use Rattle.turns.proofs.Turning.{contenders-rows, turn_is}
use Rattle.turns.proofs.turn.turn_at.Goals as goal
use Rattle.turns.proofs.turn.turn_at.Goals.{After-from}

pub spares_at-spares-requires : goal.spares_at-spares-requires
spares_at-spares-requires c = c.args.rows.now.ordered.positive

pub contenders_at-requires : goal.contenders_at-requires
contenders_at-requires c = c.args.rows.now.asks.listed.few

pub part_at-requires : goal.part_at-requires
part_at-requires c = (c.args.rows.now.ordered.positive, c.requires)

-- the spare tenths of the row's level
spares : (c : After-from) → c.spares_at-spares.result ≡ spare_tenths (offers_in c.args.rows.now) c.args.x (get_or c.args.rows.now.asks.prices.now c.args.row 0)
spares c = c.spares_at-spares.ensures ∙ spares-rows c.args.rows.now c.args.x _

pub rival_at-requires : goal.rival_at-requires
rival_at-requires c =
    record {
      row_in_bounds = c.requires;
      place_value = c.rank_at-place.ensures.0;
      spares_value = spares (goal.at.rival_at-requires c).After-from;
    }

pub returns : goal.returns
returns c =
    let a = c.args in
    turn_is (offers_in a.rows.now) a.x a.row _ _ _ _ _ _ c.rank_at-place.ensures.0
    (c.contenders_at.ensures ∙ contenders-rows a.rows.now _)
    (spares (goal.at.returns c).After-from)
    (c.part_at.ensures.0 ∙ down-rows a.rows.now a.x a.row)
    (counted c.from.ensures refl)
    c.rival_at.ensures
