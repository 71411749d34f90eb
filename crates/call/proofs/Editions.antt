-- With which curve the demands are read on the call: the one that the book's delivery year selects.
--
-- In order: a year up to 2025, which has a margin; a year from 2026 on, which has none.
-- Assumes nothing.
use mathlib.Core.Path.{◌≡◌, ap}
use mathlib.Core.List.{List}
use Prim.Native.Nat.{ℕ, ◌+◌, ◌≤◌}
use contract.Lifetimes.{Lfts}
use denote.Ref.{Bor, MutBor}
use Rattle.std.specs.Prelude.{Ok}
use Rattle.values.specs.Values.{held}
use Rattle.values.specs.declared.Value.TheVariants.{Given, Missing}
use Rattle.values.specs.declared.head.Parameters.{Parameters}
use Rattle.limits.specs.Ranges.{Ranged}
use Rattle.curve.specs.Points.{curve_of}
use Rattle.curve.specs.Price.{demand_of}
use Rattle.curve.specs.Shape.{weights2022, weights2026}
use Rattle.layout.specs.Read.{contents_of}
use Rattle.book.proofs.Accepted.{accepted-clearable}
use Rattle.region.specs.Region.{terms_of}
use Rattle.region.proofs.Regions.{region-2022, region-2026}
use Rattle.sale.specs.Auction.{demand}
use Rattle.sale.specs.declared.Clearing.{Clearing}
use Rattle.call.proofs.Decided.{Called, call-outcome}
use Rattle.call.proofs.Outcomes.{cleared-accepted}

module _ (κs : Lfts 3) (book : Bor (List ℕ)) (cleared₀ committed₀ cleared₁ committed₁ : MutBor (List ℕ)) (k : Clearing)
    (called : Called κs book cleared₀ committed₀ cleared₁ committed₁ (Ok k)) where
  -- the book's parameters
  abbrev p : Parameters
  p = (contents_of book.now).parameters

  ranged : Ranged p
  ranged =
      (accepted-clearable book.now
      (cleared-accepted book.now cleared₀.now committed₀.now k cleared₁.now committed₁.now
      (call-outcome κs book cleared₀ committed₀ cleared₁ committed₁ (Ok k) called))
      ).parameters

  -- Up to 2025 the demands are read with the curve of 2022, by the margin that the book gives.
  pub call-curve-2022 : p.year ≤ 2025
      → (p.margin ≡ Given (held p.margin))
      × (demand (contents_of book.now) ≡ demand_of (curve_of weights2022 (10000 + held p.margin) (terms_of p)))
  call-curve-2022 early = (ranged.margin-given early, ap demand_of (region-2022 p ranged early))

  -- From 2026 on they are read with that of 2026, and the book gives no margin.
  pub call-curve-2026 : 2026 ≤ p.year
      → (p.margin ≡ Missing) × (demand (contents_of book.now) ≡ demand_of (curve_of weights2026 10000 (terms_of p)))
  call-curve-2026 late = (ranged.margin-none late, ap demand_of (region-2026 p ranged late))
