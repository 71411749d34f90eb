-- `shares::share_out` writes what each row clears of a total: its part, and where something is spare at the level, what
-- `give` adds to it.
-- Assumes nothing.
use mathlib.Core.Path.{◌≡◌, sym, ◌∙◌}
use Prim.Native.Nat.{◌-◌, ◌≤◌}
use native.Mathlib.Omega.{arith}
use Rattle.laws.proofs.Filling.{length-filling}
use Rattle.laws.proofs.FilledRows.{filled_row}
use Rattle.auction.specs.Offers.{Offers}
use Rattle.auction.specs.Shares.{spare_tenths}
use Rattle.columns.specs.inner.Sides.{rows_in, offers_in}
use Rattle.parts.specs.inner.Divides.{DividesRows}
use Rattle.shares.specs.inner.Stages.{Stopped, HoldsParts}
use Rattle.shares.proofs.Given.{rows-stopped, rows-divide}
use Rattle.shares.proofs.Holding.{parts-rows, held-spare}
use Rattle.shares.proofs.Outcome.{given-shared, parts_shared}
use Rattle.shares.proofs.share_out.Goals as goal
use Rattle.shares.proofs.share_out.Goals.{After-held_at, After-parts, Start}

abbrev rows : After-held_at → Offers
rows c =
    offers_in c.args.rows.now

stopped : (c : After-held_at) → Stopped (rows c) c.args.level
stopped c = let r = c.args.rows.now in rows-stopped _ _ _ _ _ _ _ r.asks.listed r.ordered c.requires.stops_at

divides : (c : Start) → DividesRows c.args.level c.args.rows.now.asks.prices.now c.args.rows.now.asks.quantities.now (rows_in c.args.rows.now)
divides c =
    let r = c.args.rows.now in rows-divide _ _ _ _ r.steps.now _ _ r.asks.listed r.ordered c.requires.stops_at

pub parts-requires : goal.parts-requires
parts-requires c =
    record {
      divides_rows = divides (goal.at.parts-requires c).Start;
      out_in_bounds = c.requires.rows_in_bounds;
    }

holds : (c : After-parts) → let a = c.args in
    HoldsParts a.level a.rows.now.asks.prices.now a.rows.now.asks.quantities.now (rows_in a.rows.now) c.parts.new.out
holds c =
    let long = c.requires.rows_in_bounds in
    let same = length-filling _ _ _ c.parts.ensures in
    record { long = rw same long; row = filled_row _ _ _ c.parts.ensures long }

pub held_at-requires : goal.held_at-requires
held_at-requires c =
    let at = goal.at.held_at-requires c in
    parts-rows _ _ _ _ (divides at.Start) c.parts.new.out (holds at.After-parts)

-- what the level holds is at most its amount, and leaves its spare tenths
spares : (c : After-held_at) → HoldsParts c.args.level c.args.rows.now.asks.prices.now c.args.rows.now.asks.quantities.now (rows_in c.args.rows.now) c.parts.new.out
    → (c.held_at.result ≤ c.args.level.amount)
    × (c.args.level.amount - c.held_at.result ≡ spare_tenths (rows c) c.args.level.total c.args.level.price)
spares c own =
    let r = c.args.rows.now in
    held-spare _ _ r.stamps.now r.resources.now r.steps.now _ _ (stopped c) c.parts.new.out own _
    c.held_at.ensures

pub overflow_sub-spare : goal.overflow_sub-spare
overflow_sub-spare c =
    let at = goal.at.overflow_sub-spare c in
    (spares at.After-held_at (holds at.After-parts)).0

pub give-requires : goal.give-requires
give-requires c =
    let at = goal.at.give-requires c in
    let own = holds at.After-parts in
    record {
      divides = divides at.Start;
      ordered = c.args.rows.now.ordered;
      stopped = stopped at.After-held_at;
      holds = own;
      tenths = (spares at.After-held_at own).1;
    }

pub returns-then-spare-gt0 : goal.returns-then-spare-gt0
returns-then-spare-gt0 c =
    given-shared (rows (goal.at.returns-then-spare-gt0 c).After-held_at) _ _ _ _ c.requires.rows_in_bounds c.parts.ensures c.give.ensures

pub returns-else-spare-gt0 : goal.returns-else-spare-gt0
returns-else-spare-gt0 c =
    let at = goal.at.returns-else-spare-gt0 c in
    parts_shared (rows at.After-held_at) _ _ (stopped at.After-held_at) c.requires.rows_in_bounds c.parts.ensures
    (sym (spares at.After-held_at (holds at.After-parts)).1 ∙ omega arith)
