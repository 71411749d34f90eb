-- The contract of the search leaves one answer: any two that it allows for the same arguments coincide.
--
-- In order: two levels at which the cleared total of the same offers stops; the search, for any rows, and by its contract.
-- Assumes nothing.
use Rattle.std.proofs.Common.{◌≡◌, ℕ, List, Bor}
use contract.Lifetimes.{Lfts}
use Rattle.auction.specs.Offers.{Offers}
use Rattle.curve.specs.declared.Curve.{Curve}
use Rattle.levels.specs.inner.Rows.{listed}
use Rattle.levels.specs.inner.Asks.{offers_in}
use Rattle.levels.specs.declared.asks.Asks.{Asks}
use Rattle.levels.specs.declared.level.Level.{Level}
use Rattle.levels.proofs.Stops.{stops-alone}
use Rattle.market.specs.inner.Cleared.{ClearedAt}
use Rattle.market.proofs.total.cleared_level.Reads as cleared-level

-- the cleared total stops at one level, whatever the offers are
cleared-at-alone : (c : Curve) (o : Offers) (r s : Level) → ClearedAt c o r → ClearedAt c o s → r ≡ s
cleared-at-alone c o r s e f = stops-alone _ _ r s e.0 f.0

-- the cleared total and the level at which it stops: by what the contract of `cleared_level` promises, of n rows of any two lists, and
-- by that contract itself, whose offers are such rows
pub cleared-level-decided : (κs : Lfts 2) (c : Curve) (r s : Level)
    → ((prices quantities : List ℕ) (n : ℕ)
    → ClearedAt c (listed prices quantities n) r → ClearedAt c (listed prices quantities n) s → r ≡ s)
    × ((asks : Bor Asks)
    → cleared-level.Post κs (c, (asks, tt)) r (c, (asks, tt)) → cleared-level.Post κs (c, (asks, tt)) s (c, (asks, tt)) → r ≡ s)
cleared-level-decided κs c r s = (
  λ prices quantities n. cleared-at-alone c (listed prices quantities n) r s,
  λ asks. cleared-at-alone c (offers_in asks.now) r s,
)
