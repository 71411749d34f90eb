-- Parts and the spare tenths won: together they fit 32 bits, and they are what the rows clear.
-- Assumes nothing.
use mathlib.Core.Path.{◌≡◌, ap₂, ◌∙◌}
use mathlib.Core.Bool.{Bool, true, false, cond}
use mathlib.Core.List.{List}
use Prim.Native.Nat.{ℕ, ◌+◌, ◌≤◌, ◌<◌, zero-le}
use native.Mathlib.Nat.{le_refl}
use native.Mathlib.Omega.{arith}
use lib.ListN.{length, get_or}
use Rattle.laws.specs.Filled.{filled}
use Rattle.laws.proofs.Fills.{filled-ext}
use Rattle.auction.specs.Offers.{Offers}
use Rattle.auction.specs.Shares.{cleared}
use Rattle.columns.specs.inner.Column.{rows_of}
use Rattle.levels.specs.declared.level.Level.{Level}
use Rattle.contest.specs.inner.Contest.{wins, contenders, in_order}
use Rattle.contest.specs.inner.Award.{Awarded}
use Rattle.parts.specs.inner.Parts.{row_key, row_standing}
use Rattle.shares.specs.inner.Halves.{high_half, low_half}
use Rattle.shares.specs.inner.Stages.{SparesDue, Adds}
use Rattle.shares.proofs.Sharing.{part-share}
use Rattle.shares.proofs.Holding.{parts-rows}
use Rattle.shares.proofs.Contending.{cleared-won}

bit-most : (t : Bool) → cond t 1 0 ≤ 1
bit-most true = le_refl 1
bit-most false = zero-le

-- a standing by a test is at most 1
pub standing-most : (t : Bool) (v : ℕ) → v ≡ cond t 1 0 → v ≤ 1
standing-most t v e = rw e (bit-most t)

module _ (prices quantities stamps resources steps : List ℕ) (n : ℕ) (l : Level) where
  abbrev rows : Offers
  rows = rows_of prices quantities stamps resources steps n

  module _ (spare : ℕ) (out : List ℕ) (p : SparesDue prices quantities stamps resources steps n l spare out)
      (highs lows keys standings tenths : List ℕ) (won : Awarded keys highs lows resources steps standings n spare tenths) where
    -- a row's part and the tenth that it may have won fit
    pub won-adds : n ≤ length tenths → Adds tenths n out
    won-adds h =
        record {
          given = h;
          long = p.holds.long;
          fits = λ i k.
              omega (
                arith,
                (parts-rows prices quantities n l p.divides out p.holds).small i k,
                won.within i k,
                bit-most (wins (contenders standings) (in_order keys highs lows resources steps) n spare i),
              );
        }

    -- the parts and the tenths won are what clears
    pub won-cleared : (after : List ℕ)
        → ((i : ℕ) → i < n → (get_or highs i 0 ≡ high_half stamps i) × (get_or lows i 0 ≡ low_half stamps i))
        → ((i : ℕ) → i < n → get_or keys i 0 ≡ row_key l prices quantities i)
        → ((i : ℕ) → i < n → get_or standings i 0 ≡ row_standing l prices i)
        → after ≡ filled (λ i. get_or out i 0 + get_or tenths i 0) n out → after ≡ filled (cleared rows l.total) n out
    won-cleared after halves keyed standing added =
        let s = p.stopped in
        added
        ∙ filled-ext _ _ n out
        (λ i h.
        ap₂ ◌+◌ (p.holds.row i h ∙ part-share rows l s i h) (won.within i h)
        ∙ cleared-won prices quantities stamps resources steps n l s highs lows halves keys keyed standings spare standing p.tenths i h)
