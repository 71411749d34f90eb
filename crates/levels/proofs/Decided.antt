-- The contracts of price levels leave one answer: any two that a contract allows for the same arguments coincide.
-- Assumes nothing.
use mathlib.Core.Path.{◌≡◌, sym, ◌∙◌}
use mathlib.Core.Bool.{Bool}
use mathlib.Core.List.{List}
use Prim.Native.Nat.{ℕ}
use contract.Lifetimes.{Lfts}
use denote.Ref.{Bor}
use Rattle.auction.specs.Offers.{Offers}
use Rattle.curve.specs.Shape.{Shaped}
use Rattle.curve.specs.declared.Curve.{Curve}
use Rattle.curve.proofs.Prices.{curve-falls}
use Rattle.levels.specs.inner.Rows.{listed}
use Rattle.levels.specs.inner.Asks.{offers_in, OfferedAt, OfferedBelow}
use Rattle.levels.specs.declared.asks.Asks.{Asks}
use Rattle.levels.specs.declared.level.Level.{Level}
use Rattle.levels.proofs.Reaching.{level-alone}
use Rattle.levels.proofs.asks.Asks.supply_at.Reads as supply-at
use Rattle.levels.proofs.asks.Asks.supply_below.Reads as supply_below
use Rattle.levels.proofs.level.level_at.Reads as level-at
use Rattle.levels.proofs.level.stops.Reads as stops

-- what is offered at a price or below is one sum, whatever the offers are
offered-at-alone : (o : Offers) (limit r s : ℕ) → OfferedAt o limit r → OfferedAt o limit s → r ≡ s
offered-at-alone o limit r s e f = e.0 ∙ sym f.0

-- and so is what is offered strictly below a price
offered-below-alone : (o : Offers) (price r s : ℕ) → OfferedBelow o price r → OfferedBelow o price s → r ≡ s
offered-below-alone o price r s e f = e.0 ∙ sym f.0

-- what is offered at a price or below: by what the contract of `supply_at` promises, of n rows of any two lists, and by that contract
-- itself, whose offers are such rows
pub supply-at-decided : (κs : Lfts 2) (limit r s : ℕ)
    → ((prices quantities : List ℕ) (n : ℕ)
    → OfferedAt (listed prices quantities n) limit r → OfferedAt (listed prices quantities n) limit s → r ≡ s)
    × ((asks : Bor Asks)
    → supply-at.Post κs (asks, (limit, tt)) r (asks, (limit, tt)) → supply-at.Post κs (asks, (limit, tt)) s (asks, (limit, tt)) → r ≡ s)
supply-at-decided κs limit r s = (
  λ prices quantities n. offered-at-alone (listed prices quantities n) limit r s,
  λ asks. offered-at-alone (offers_in asks.now) limit r s,
)

-- what is offered strictly below a price: by what the contract of `supply_below` promises, of n rows of any two lists, and by that
-- contract itself, whose offers are such rows
pub supply-below-decided : (κs : Lfts 2) (price r s : ℕ)
    → ((prices quantities : List ℕ) (n : ℕ)
    → OfferedBelow (listed prices quantities n) price r → OfferedBelow (listed prices quantities n) price s → r ≡ s)
    × ((asks : Bor Asks)
    → supply_below.Post κs (asks, (price, tt)) r (asks, (price, tt)) → supply_below.Post κs (asks, (price, tt)) s (asks, (price, tt)) → r ≡ s)
supply-below-decided κs price r s = (
  λ prices quantities n. offered-below-alone (listed prices quantities n) price r s,
  λ asks. offered-below-alone (offers_in asks.now) price r s,
)

-- the level at a price, by the contract of `level_at`
pub level-at-decided : (c : Curve) (price below reach guess : ℕ) (r s : Level) → Shaped c
    → level-at.Post tt (c, (price, (below, (reach, (guess, tt))))) r (c, (price, (below, (reach, (guess, tt)))))
    → level-at.Post tt (c, (price, (below, (reach, (guess, tt))))) s (c, (price, (below, (reach, (guess, tt)))))
    → r ≡ s
level-at-decided c price below reach guess r s shaped e f = level-alone _ (curve-falls c shaped) price below reach r s e f

-- whether the total of a level stops there, by the contract of `stops`
pub stops-decided : (level : Level) (r s : Bool)
    → stops.Post tt (level, tt) r (level, tt) → stops.Post tt (level, tt) s (level, tt) → r ≡ s
stops-decided level r s e f = e ∙ sym f
