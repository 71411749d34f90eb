-- `shares::spare::give` gives the spare tenths: the contest by the keys that `line_up` writes is the order of spare tenths.
-- Assumes nothing.
use mathlib.Core.Path.{◌≡◌, ◌∙◌}
use mathlib.Core.Bool.{Bool, cond}
use Prim.Native.Nat.{ℕ, ◌<◌}
use native.Mathlib.Omega.{arith}
use lib.ListN.{length, get_or}
use lib.Seq.{length-take-le}
use lib.Dec.{eqb}
use borrow.Author.Rules.{rules}
use Rattle.laws.proofs.Filling.{length-filling}
use Rattle.laws.proofs.FilledRows.{filled_row}
use Rattle.columns.specs.inner.Sides.{rows_in}
use Rattle.contest.specs.inner.Award.{Ready, Awarded}
use Rattle.parts.specs.inner.Parts.{row_key}
use Rattle.shares.specs.inner.Halves.{high_half, low_half}
use Rattle.shares.proofs.Tenths.{standing-most, won-adds, won-cleared}
use Rattle.shares.proofs.spare.give.Goals as goal
use Rattle.shares.proofs.spare.give.Goals.{After-line_up, After-award}

-- each row has its key
keyed : (c : After-line_up) (i : ℕ) → i < rows_in c.args.rows.now
    → get_or c.line_up.new.keys i 0 ≡ row_key c.args.level c.args.rows.now.asks.prices.now c.args.rows.now.asks.quantities.now i
keyed c = filled_row _ _ _ c.line_up.ensures.keys_after (search rules)

abbrev at_level : After-line_up → ℕ → Bool
at_level c i = eqb (get_or c.args.rows.now.asks.prices.now i 0) c.args.level.price

-- each row stands at 1 where it is at the level, else at 0
stands : (c : After-line_up) (i : ℕ) → i < rows_in c.args.rows.now
    → get_or c.line_up.new.standings i 0 ≡ cond (at_level c i) 1 0
stands c = filled_row _ _ _ c.line_up.ensures.standings_after (search rules)

-- there are as many standings as rows
count : (c : After-line_up) → length c.line_up.new.standings ≡ rows_in c.args.rows.now
count c =
    length-filling _ _ _ c.line_up.ensures.standings_after ∙ length-take-le _ _ c.requires.divides.rows.few

-- each row has its keys, and none has won yet
ready : (c : After-line_up)
    → Ready
    c.line_up.new.keys
    c.halve.new.highs
    c.halve.new.lows
    c.args.rows.now.resources.now
    c.args.rows.now.steps.now
    c.line_up.new.standings
    (rows_in c.args.rows.now)
ready c =
    let p = c.requires in
    record {
      first = omega (arith, length-filling _ _ _ c.line_up.ensures.keys_after, p.divides.rows.few);
      second = omega (arith, length-filling _ _ _ c.halve.ensures.highs_after, p.divides.rows.few);
      third = omega (arith, length-filling _ _ _ c.halve.ensures.lows_after, p.divides.rows.few);
      fourth = p.ordered.resources-long;
      fifth = p.ordered.steps-long;
      standing = omega (arith, count c);
      few = p.divides.rows.few;
      fresh = λ i h. standing-most (at_level c i) (get_or c.line_up.new.standings i 0) (stands c i h);
    }

pub award-requires : goal.award-requires
award-requires c =
    let at = goal.at.award-requires c in
    rw (count at.After-line_up) (ready at.After-line_up)

-- of the rows that contended each stands at the tenth that it won
awarded : (c : After-award)
    → Awarded
    c.line_up.new.keys
    c.halve.new.highs
    c.halve.new.lows
    c.args.rows.now.resources.now
    c.args.rows.now.steps.now
    c.line_up.new.standings
    (rows_in c.args.rows.now)
    c.args.spare
    c.award.new.standings
awarded c = rw (count (goal.at.After-award c).After-line_up) at c.award.ensures

-- there are as many tenths as rows
tenths : (c : After-award) → length c.award.new.standings ≡ rows_in c.args.rows.now
tenths c = (awarded c).rows ∙ count (goal.at.After-award c).After-line_up

halves : (c : After-line_up) (i : ℕ) → i < rows_in c.args.rows.now
    → (get_or c.halve.new.highs i 0 ≡ high_half c.args.rows.now.stamps.now i) × (get_or c.halve.new.lows i 0 ≡ low_half c.args.rows.now.stamps.now i)
halves c i h =
    let few = c.requires.divides.rows.few in (
      filled_row _ _ _ c.halve.ensures.highs_after (search rules) i h,
      filled_row _ _ _ c.halve.ensures.lows_after (search rules) i h,
    )

pub add-requires : goal.add-requires
add-requires c =
    let at = (goal.at.add-requires c).After-award in
    rw (tenths at)
    (won-adds _ _ _ _ _ _ _ _ _ c.requires c.halve.new.highs c.halve.new.lows c.line_up.new.keys c.line_up.new.standings
    c.award.new.standings (awarded at)
    (omega (arith, tenths at)))

pub returns : goal.returns
returns c =
    let at = goal.at.returns c in
    let p = c.requires in
    won-cleared _ _ _ _ _ _ _ _ _ p c.halve.new.highs c.halve.new.lows c.line_up.new.keys c.line_up.new.standings
    c.award.new.standings (awarded at.After-award)
    c.add.new.out
    (halves at.After-line_up)
    (keyed at.After-line_up)
    (stands at.After-line_up)
    (rw (tenths at.After-award) at c.add.ensures)
