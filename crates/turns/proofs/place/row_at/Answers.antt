-- `row_at` is the first row at a place.
-- Assumes nothing.
use mathlib.Core.Path.{◌≡◌}
use mathlib.Core.Bool.{Bool, true, false}
use Prim.Native.Nat.{ℕ}
use borrow.Author.Rules.{rules}
use Rattle.std.proofs.lemmas.Iterator.{first_from_Range}
use Rattle.columns.specs.inner.Sides.{offers_in}
use Rattle.turns.proofs.Turning.{stands_at, row-placed}
use Rattle.turns.proofs.place.row_at.Goals as goal
use Rattle.turns.proofs.place.row_at.Goals.{Start}

-- a row stands at the place
abbrev stands : Start → ℕ → Bool
stands c = stands_at (offers_in c.args.rows.now) c.args.x c.args.price c.args.place

pub returns : goal.returns
returns c =
    let s = (goal.at.returns c).Start in
    row-placed (offers_in s.args.rows.now) s.args.x s.args.price s.args.place _
    (first_from_Range _ _ _ _ (λ i. stands s i ≡ true) (λ i. stands s i ≡ false) c.find.ensures.ran
    (λ i q k. search rules) (λ i q k. search rules))
