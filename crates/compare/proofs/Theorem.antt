-- The comparison of two books, by the contract of `compare`.
--
-- In order: the contract leaves one answer; it says that the theorem applies exactly when it does; and then two calls sell the same.
-- Assumes nothing.
use mathlib.Core.Path.{◌≡◌, refl, sym, ap, ap₂, subst, ◌∙◌}
use mathlib.Core.List.{List}
use mathlib.Core.Logic.{◌↔◌}
use Prim.Native.Nat.{ℕ}
use native.Mathlib.Omega.{arith}
use lib.ListN.{length}
use contract.Lifetimes.{Lfts}
use denote.Ref.{Bor, MutBor}
use Rattle.std.specs.Prelude.{Err, Some, None, Ok}
use Rattle.values.specs.Contents.{Contents}
use Rattle.layout.specs.Read.{contents_of}
use Rattle.book.specs.Faults.{first_fault}
use Rattle.sale.specs.Payment.{clearing_of}
use Rattle.sale.specs.declared.Clearing.{Clearing}
use Rattle.call.specs.Answer.{answer_by}
use Rattle.call.specs.Losers.{at_or_below, SameToPrice, SameSale}
use Rattle.call.proofs.Decided.{Called}
use Rattle.call.proofs.Losers.{call-sells, call-losers}
use Rattle.compare.specs.Comparison.{against_by, compared_by, comparison_of, TheoremApplies}
use Rattle.compare.specs.declared.Comparison.{Comparison}
use Rattle.compare.specs.declared.Comparison.TheVariants.{Applies, FirstRefused, SecondRefused, NothingClears}
use Rattle.compare.proofs.Applying.{compared_same, same-compared}
use Rattle.compare.proofs.compare.Reads as compare
use Rattle.values.specs.Refusals.{Verdict, no_fault}
use Rattle.values.specs.declared.refusal.Refusal.{Refusal}
use Rattle.pricing.specs.Price.{ClearingPrice}

-- For every two strings of bytes the comparison has one answer.
pub compare-decided : (κs : Lfts 2) (first second first' second' : Bor (List ℕ)) (r s : Comparison)
    → first.now ≡ first'.now → second.now ≡ second'.now
    → compare.Post κs (first, (second, tt)) r (first, (second, tt))
    → compare.Post κs (first', (second', tt)) s (first', (second', tt))
    → r ≡ s
compare-decided κs first second first' second' r s e f x y = x ∙ ap₂ comparison_of e f ∙ sym y

-- ---- exactly when

-- what is known where an accepted book's price is p
record Known (v v' : Verdict) (price : ClearingPrice) (c c' : Contents) (p shared : ℕ) : Type 0 where
  accepted : v ≡ no_fault
  accepted' : v' ≡ no_fault
  priced : price ≡ Some (record { 0 = p })
  same : SameToPrice p c c'
  count : shared ≡ length (at_or_below p c.offers)

refused-apart : (refusal : Refusal) (p s : ℕ) → FirstRefused refusal ≡ Applies p s → ◌≡◌ {A = ℕ} 0 1
refused-apart refusal p s e = cc

second-apart : (refusal : Refusal) (p s : ℕ) → SecondRefused refusal ≡ Applies p s → ◌≡◌ {A = ℕ} 0 1
second-apart refusal p s e = cc

nothing-apart : (p s : ℕ) → NothingClears ≡ Applies p s → ◌≡◌ {A = ℕ} 0 1
nothing-apart p s e = cc

-- a comparison that says so shows all of it
by-known : (v v' : Verdict) (k : Clearing) (c c' : Contents) (p s : ℕ) → compared_by (answer_by v k) v' c c' ≡ Applies p s
    → Known v v' k.price c c' p s
by-known (Err n) v' k c c' p s e = absurd (omega (arith, refused-apart n p s e))
by-known (Ok u) v' k c c' p s e = go v' k.price e
  where
    go : (w : Verdict) (price : ClearingPrice) → against_by w price c c' ≡ Applies p s → Known no_fault w price c c' p s
    go (Err n) price f = absurd (omega (arith, second-apart n p s f))
    go (Ok u) None f = absurd (omega (arith, nothing-apart p s f))
    go (Ok u) (Some q) f =
        let r = compared_same q.0 c c' p s f in
        let at : q.0 ≡ p = sym r.1.0 in
        record {
          accepted = refl;
          accepted' = refl;
          priced = λ i. Some (record { 0 = at i });
          same = subst (λ (a : ℕ). SameToPrice a c c') at r.0;
          count = r.1.1 ∙ ap (λ (a : ℕ). length (at_or_below a c.offers)) at;
        }

-- and where all of it holds, it says so
known_by : (v v' : Verdict) (k : Clearing) (c c' : Contents) (p s : ℕ) → Known v v' k.price c c' p s
    → compared_by (answer_by v k) v' c c' ≡ Applies p s
known_by v v' k c c' p s w =
    rw (w.accepted, w.accepted', w.priced) (same-compared p c c' w.same ∙ ap (Applies p) (sym w.count))

module _ (b b' : List ℕ) (p shared : ℕ) where
  -- the comparison of two books says that the theorem applies exactly when it does
  pub comparison-applies : (comparison_of b b' ≡ Applies p shared) ↔ TheoremApplies b b' p shared
  unfolding comparison_of
  comparison-applies = (only, there)
    where
      c : Contents
      c = contents_of b

      c' : Contents
      c' = contents_of b'

      only : compared_by (answer_by (first_fault b) (clearing_of c)) (first_fault b') c c' ≡ Applies p shared → TheoremApplies b b' p shared
      only e =
          let w = by-known (first_fault b) (first_fault b') (clearing_of c) c c' p shared e in
          record { accepted = w.accepted; accepted' = w.accepted'; priced = w.priced; same = w.same; count = w.count }

      there : TheoremApplies b b' p shared → compared_by (answer_by (first_fault b) (clearing_of c)) (first_fault b') c c' ≡ Applies p shared
      there t =
          known_by (first_fault b) (first_fault b') (clearing_of c) c c' p shared
          (record { accepted = t.accepted; accepted' = t.accepted'; priced = t.priced; same = t.same; count = t.count })

module _ (κs : Lfts 2) (first second : Bor (List ℕ)) (r : Comparison)
    (compared : compare.Post κs (first, (second, tt)) r (first, (second, tt))) where
  abbrev b : List ℕ
  b = first.now

  abbrev b' : List ℕ
  b' = second.now

  -- REQUEST 05. The comparison says that the theorem applies, with a price and a number of shared offers, exactly when both books are
  -- accepted, the first has that price, both say the same up to it, and so many of their offers are at or below it.
  pub compare-applies : (p shared : ℕ) → (r ≡ Applies p shared) ↔ TheoremApplies b b' p shared
  compare-applies p shared =
      (λ e. (comparison-applies b b' p shared).0 (sym compared ∙ e), λ t. compared ∙ (comparison-applies b b' p shared).1 t)

  -- REQUEST 05. And then two calls on these books sell the same.
  pub compare-losers : (p shared : ℕ) → r ≡ Applies p shared
      → (κs₁ κs₂ : Lfts 3) (cleared₀ committed₀ cleared₁ committed₁ : MutBor (List ℕ)) (k : Clearing)
      → Called κs₁ first cleared₀ committed₀ cleared₁ committed₁ (Ok k)
      → (cleared₀' committed₀' cleared₁' committed₁' : MutBor (List ℕ)) (k' : Clearing)
      → Called κs₂ second cleared₀' committed₀' cleared₁' committed₁' (Ok k')
      → SameSale p (contents_of b) (contents_of b') k k' cleared₁.now committed₁.now cleared₁'.now committed₁'.now
  compare-losers p shared e κs₁ κs₂ cleared₀ committed₀ cleared₁ committed₁ k called cleared₀' committed₀' cleared₁' committed₁' k' called' =
      let t = (compare-applies p shared).0 e in
      let own = (call-sells κs₁ first cleared₀ committed₀ cleared₁ committed₁ k called).clearing in
      call-losers κs₁ κs₂ first cleared₀ committed₀ cleared₁ committed₁ k called second cleared₀' committed₀' cleared₁' committed₁' k' called'
      (record { 0 = p }) (ap (λ (c : Clearing). c.price) own ∙ t.priced) t.same
