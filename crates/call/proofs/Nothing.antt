-- Where nothing clears there is no price, and every amount of mills is 0.
-- Assumes nothing.
use mathlib.Core.Path.{◌≡◌, ap, sym, ◌∙◌}
use mathlib.Core.List.{List}
use mathlib.Core.Option.{none}
use Prim.Native.Nat.{ℕ}
use contract.Lifetimes.{Lfts}
use denote.Ref.{Bor, MutBor}
use Rattle.std.specs.Prelude.{Ok}
use Rattle.auction.proofs.Price.{price-none}
use Rattle.pricing.specs.Price.{as_price}
use Rattle.layout.specs.Read.{contents_of}
use Rattle.sale.specs.Auction.{offers_of, demand, total, price}
use Rattle.call.specs.Answer.{Outcome}
use Rattle.call.specs.Demands.{NothingCleared}
use Rattle.sale.specs.Payment.{clearing_of}
use Rattle.sale.specs.declared.Clearing.{Clearing}
use Rattle.call.proofs.Decided.{Called, call-outcome}
use Rattle.call.proofs.Empty.{make-whole-none, daily-none, year-none}
use Rattle.call.proofs.Outcomes.{cleared-clearing}

module _ (κs : Lfts 3) (book : Bor (List ℕ)) (cleared₀ committed₀ cleared₁ committed₁ : MutBor (List ℕ)) (k : Clearing)
    (called : Called κs book cleared₀ committed₀ cleared₁ committed₁ (Ok k)) where
  abbrev b : List ℕ
  b = book.now

  out : Outcome b cleared₀.now committed₀.now (Ok k) cleared₁.now committed₁.now
  out = call-outcome κs book cleared₀ committed₀ cleared₁ committed₁ (Ok k) called

  same : k ≡ clearing_of (contents_of b)
  same = cleared-clearing b cleared₀.now committed₀.now k cleared₁.now committed₁.now out

  no-price-there : k.total ≡ 0 → price (contents_of b) ≡ none
  unfolding price total clearing_of
  no-price-there z =
      price-none (demand (contents_of b)) (offers_of (contents_of b).offers) (sym (ap (λ (c : Clearing). c.total) same) ∙ z)

  -- DEMAND 1. When nothing clears, there is no price, and every amount of mills is 0.
  pub call-nothing : k.total ≡ 0 → NothingCleared k
  unfolding clearing_of
  call-nothing z =
      let e = no-price-there z in
      record {
        no-price = ap (λ (c : Clearing). c.price) same ∙ ap as_price e;
        no-make-whole = ap (λ (c : Clearing). c.make_whole) same ∙ make-whole-none (contents_of b) e;
        no-daily = ap (λ (c : Clearing). c.daily) same ∙ daily-none (contents_of b) e;
        no-year = ap (λ (c : Clearing). c.year) same ∙ year-none (contents_of b) e;
      }
