-- LOSERS DON'T MATTER, read on two calls.
--
-- In order: two accepted books that say the same up to the price of the first sell the same; one losing offer more, or less, changes
-- nothing.
-- Assumes nothing.
use mathlib.Core.Path.{◌≡◌, sym, ap, ◌∙◌}
use mathlib.Core.List.{List}
use mathlib.Core.Option.{some}
use Prim.Native.Nat.{ℕ}
use borrow.Author.Tests.{lt-leb}
use contract.Lifetimes.{Lfts}
use denote.Ref.{Bor, MutBor}
use Rattle.std.specs.Prelude.{Some, Ok}
use Rattle.laws.proofs.Those.{those-inserted}
use Rattle.values.specs.Contents.{Contents}
use Rattle.values.specs.declared.place.Offer.{Offer}
use Rattle.units.specs.declared.CentsPerMwDay.{CentsPerMwDay}
use Rattle.limits.specs.Clearable.{Clearable}
use Rattle.pricing.specs.Price.{as_price}
use Rattle.layout.specs.Read.{contents_of}
use Rattle.book.proofs.Accepted.{accepted-clearable}
use Rattle.sale.specs.Auction.{price}
use Rattle.sale.specs.Payment.{clearing_of}
use Rattle.sale.specs.declared.Clearing.{Clearing}
use Rattle.call.specs.Losers.{to_price, at_or_below, SameToPrice, SameSale, OneLoser}
use Rattle.call.proofs.Decided.{Called, call-outcome}
use Rattle.call.proofs.OneMore.{quoted-there}
use Rattle.call.proofs.Outcomes.{cleared-accepted, cleared-clearing, cleared-row, committed-row}
use Rattle.call.proofs.SameSales.{Holds, others-lose, total-shared, price-shared, lines-shared, make-whole-shared, daily-shared, year-shared}

-- a call that cleared: what it says can be cleared, its clearing is that of the book, and its buffers hold what the rows clear and commit
pub record Sells (b : List ℕ) (k : Clearing) (cleared committed : List ℕ) : Type 0 where
  pub clearable : Clearable (contents_of b)
  pub clearing : k ≡ clearing_of (contents_of b)
  pub holds : Holds (contents_of b) cleared committed

pub call-sells : (κs : Lfts 3) (book : Bor (List ℕ)) (cleared₀ committed₀ cleared₁ committed₁ : MutBor (List ℕ)) (k : Clearing)
    → Called κs book cleared₀ committed₀ cleared₁ committed₁ (Ok k)
    → Sells book.now k cleared₁.now committed₁.now
call-sells κs book cleared₀ committed₀ cleared₁ committed₁ k called =
    let out = call-outcome κs book cleared₀ committed₀ cleared₁ committed₁ (Ok k) called in
    record {
      clearable = accepted-clearable book.now (cleared-accepted book.now cleared₀.now committed₀.now k cleared₁.now committed₁.now out);
      clearing = cleared-clearing book.now cleared₀.now committed₀.now k cleared₁.now committed₁.now out;
      holds =
          record {
            cleared-row = cleared-row book.now cleared₀.now committed₀.now k cleared₁.now committed₁.now out;
            committed-row = committed-row book.now cleared₀.now committed₀.now k cleared₁.now committed₁.now out;
          };
    }

-- the price that a clearing quotes is the clearing price of the book
price-there : (c : Contents) (k : Clearing) (p : CentsPerMwDay) → k ≡ clearing_of c → k.price ≡ Some p → price c ≡ some p.0
unfolding clearing_of
price-there c k p e q = quoted-there (price c) p (sym q ∙ ap (λ (r : Clearing). r.price) e)

same-sale : (b b' : List ℕ) (k k' : Clearing) (v w v' w' : List ℕ) → Sells b k v w → Sells b' k' v' w'
    → (p : CentsPerMwDay) → k.price ≡ Some p → SameToPrice p.0 (contents_of b) (contents_of b')
    → SameSale p.0 (contents_of b) (contents_of b') k k' v w v' w'
unfolding clearing_of
same-sale b b' k k' v w v' w' x y p e s =
    let c = contents_of b in
    let c' = contents_of b' in
    let priced = price-there c k p x.clearing e in
    let priced' = price-shared c c' x.clearable y.clearable p.0 priced s in
    record {
      price = e ∙ sym (ap (λ (r : Clearing). r.price) y.clearing ∙ ap as_price priced');
      total = ap (λ (r : Clearing). r.total) x.clearing ∙ total-shared c c' x.clearable y.clearable p.0 priced s ∙ sym (ap (λ (r : Clearing). r.total) y.clearing);
      lines = lines-shared c c' x.clearable y.clearable p.0 priced s v w v' w' x.holds y.holds;
      make-whole = ap (λ (r : Clearing). r.make_whole) x.clearing ∙ make-whole-shared c c' x.clearable y.clearable p.0 priced s ∙ sym (ap (λ (r : Clearing). r.make_whole) y.clearing);
      daily = ap (λ (r : Clearing). r.daily) x.clearing ∙ daily-shared c c' x.clearable y.clearable p.0 priced s ∙ sym (ap (λ (r : Clearing). r.daily) y.clearing);
      year = ap (λ (r : Clearing). r.year) x.clearing ∙ year-shared c c' x.clearable y.clearable p.0 priced s ∙ sym (ap (λ (r : Clearing). r.year) y.clearing);
      losers = others-lose c v w x.holds p.0 x.clearable priced;
      losers' = others-lose c' v' w' y.holds p.0 y.clearable priced';
    }

-- contents with one losing offer more say the same up to the price
loser-same : (p : ℕ) (c c' : Contents) → OneLoser p c c' → SameToPrice p c c'
unfolding at_or_below
loser-same p c c' m =
    record {
      parameters = m.parameters;
      offers =
          ap (at_or_below p) m.offers
          ∙ sym (those-inserted (λ (o : Offer). to_price p o.price) m.before m.loser m.behind
          (ap (to_price p) m.given ∙ lt-leb _ _ m.above))
          ∙ sym (ap (at_or_below p) m.offers');
    }

back : (p : ℕ) (c c' : Contents) → SameToPrice p c c' → SameToPrice p c' c
back p c c' s = record { parameters = sym s.parameters; offers = sym s.offers }

-- Two calls that cleared, the first at the price p.
module _ (κs κs' : Lfts 3) (book : Bor (List ℕ)) (cleared₀ committed₀ cleared₁ committed₁ : MutBor (List ℕ)) (k : Clearing)
    (called : Called κs book cleared₀ committed₀ cleared₁ committed₁ (Ok k))
    (book' : Bor (List ℕ)) (cleared₀' committed₀' cleared₁' committed₁' : MutBor (List ℕ)) (k' : Clearing)
    (called' : Called κs' book' cleared₀' committed₀' cleared₁' committed₁' (Ok k'))
    (p : CentsPerMwDay) (priced : k.price ≡ Some p) where
  abbrev c : Contents
  c = contents_of book.now

  abbrev c' : Contents
  c' = contents_of book'.now

  -- both sell the same
  abbrev Same : Type 0
  Same = SameSale p.0 c c' k k' cleared₁.now committed₁.now cleared₁'.now committed₁'.now

  -- REQUEST 05. Where both books have the same parameters and the same offers at or below p, row for row in the same order among
  -- themselves, both give the same price, the same total and the same to each of these offers, and every other offer gets nothing.
  pub call-losers : SameToPrice p.0 c c' → Same
  call-losers s =
      same-sale _ _ k k' _ _ _ _ (call-sells κs book cleared₀ committed₀ cleared₁ committed₁ k called)
      (call-sells κs' book' cleared₀' committed₀' cleared₁' committed₁' k' called') p priced s

  -- A losing offer that is added, anywhere, changes nothing.
  pub call-loser-added : OneLoser p.0 c c' → Same
  call-loser-added m = call-losers (loser-same p.0 c c' m)

  -- A losing offer that is taken out, from anywhere, changes nothing.
  pub call-loser-taken-out : OneLoser p.0 c' c → Same
  call-loser-taken-out m = call-losers (back p.0 c' c (loser-same p.0 c' c m))
