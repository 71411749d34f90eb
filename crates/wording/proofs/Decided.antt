-- The contracts of the words leave one answer: any two that a contract allows for the same value coincide.
-- Assumes nothing.
use mathlib.Core.Path.{◌≡◌, sym, ◌∙◌}
use mathlib.Core.Bool.{Bool}
use Prim.Native.Nat.{ℕ}
use Rattle.values.specs.declared.Value.{Value}
use Rattle.wording.specs.declared.word.Told.{Told}
use Rattle.wording.specs.inner.Told.{Tells}
use Rattle.wording.proofs.word.either.Reads as either
use Rattle.wording.proofs.word.first_true.Reads as first-true
use Rattle.wording.proofs.word.given.Reads as given
use Rattle.wording.proofs.word.valued.Reads as valued
use Rattle.wording.proofs.word.yearly.Reads as yearly
use Rattle.wording.proofs.word.margined.Reads as margined
use Rattle.wording.proofs.word.cents_of.Reads as cents-of
use Rattle.wording.proofs.word.priced.Reads as priced
use Rattle.pricing.specs.Price.{ClearingPrice}

-- words and a number that are told leave one value
told_same : {word number : ℕ} (r s : Told) → Tells word number r → Tells word number s → r ≡ s
told_same r s e f = λ i. record { word = (e.words ∙ sym f.words) i; number = (e.shows ∙ sym f.shows) i }

pub either-decided : (test : Bool) (a b r s : ℕ)
    → either.Post tt (test, (a, (b, tt))) r (test, (a, (b, tt)))
    → either.Post tt (test, (a, (b, tt))) s (test, (a, (b, tt))) → r ≡ s
either-decided test a b r s e f = e ∙ sym f

pub first-true-decided : (first second : Bool) (r s : ℕ)
    → first-true.Post tt (first, (second, tt)) r (first, (second, tt))
    → first-true.Post tt (first, (second, tt)) s (first, (second, tt)) → r ≡ s
first-true-decided first second r s e f = e ∙ sym f

pub given-decided : (v : Value) (r s : Bool) → given.Post tt (v, tt) r (v, tt) → given.Post tt (v, tt) s (v, tt) → r ≡ s
given-decided v r s e f = e ∙ sym f

pub valued-decided : (v : Value) (r s : Told) → valued.Post tt (v, tt) r (v, tt) → valued.Post tt (v, tt) s (v, tt) → r ≡ s
valued-decided v r s e f = told_same r s e f

pub yearly-decided : (v : Value) (r s : Told) → yearly.Post tt (v, tt) r (v, tt) → yearly.Post tt (v, tt) s (v, tt) → r ≡ s
yearly-decided v r s e f = told_same r s e f

pub margined-decided : (needed : Bool) (v : Value) (r s : Told) → margined.Post tt (needed, (v, tt)) r (needed, (v, tt))
    → margined.Post tt (needed, (v, tt)) s (needed, (v, tt)) → r ≡ s
margined-decided needed v r s e f = told_same r s e f

pub cents-of-decided : (price : ClearingPrice) (r s : ℕ) → cents-of.Post tt (price, tt) r (price, tt)
    → cents-of.Post tt (price, tt) s (price, tt) → r ≡ s
cents-of-decided price r s e f = e ∙ sym f

pub priced-decided : (price : ClearingPrice) (r s : Told) → priced.Post tt (price, tt) r (price, tt)
    → priced.Post tt (price, tt) s (price, tt) → r ≡ s
priced-decided price r s e f = told_same r s e f
