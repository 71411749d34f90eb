-- The contract of each public function of this crate leaves one answer: any two that it allows for the same bytes or values
-- coincide, wherever the parts lie.
--
-- In order: a value; what is held, and the least; what block 0 and a place hold.
-- Assumes nothing.
use mathlib.Core.Path.{◌≡◌, sym, ◌∙◌}
use mathlib.Core.List.{List}
use Prim.Native.Nat.{ℕ, ◌/◌, ◌%◌}
use lib.Dec.{eqb}
use contract.Lifetimes.{Lfts}
use denote.Ref.{Bor}
use Rattle.laws.proofs.Answers.{same_answer}
use Rattle.block.specs.Bytes.{u32_at}
use Rattle.values.specs.Values.{value_of}
use Rattle.values.specs.Head.{parameters_of, edition_in, offers_in}
use Rattle.values.specs.Place.{offer_of}
use Rattle.values.specs.declared.Value.{Value}
use Rattle.values.specs.declared.head.Parameters.{Parameters}
use Rattle.values.specs.declared.place.Offer.{Offer}
use Rattle.values.specs.declared.refusal.Refusal.{Refusal}
use Rattle.values.proofs.refusal.Refusal.number.Reads as number
use Rattle.values.proofs.refusal.Refusal.place.Reads as place
use Rattle.values.proofs.value_at.Reads as value-at
use Rattle.values.proofs.number_held.Reads as number-held
use Rattle.values.proofs.least_of.Reads as least-of
use Rattle.values.proofs.head.parameters_in.Reads as parameters-in
use Rattle.values.proofs.head.edition_in.Reads as edition-in
use Rattle.values.proofs.head.offers_in.Reads as offers-in
use Rattle.values.proofs.place.offer_in.Reads as offer-in

-- the number that is held, by the contract of `number_held`
pub number-held-decided : (v : Value) (r s : ℕ)
    → number-held.Post tt (v, tt) r (v, tt) → number-held.Post tt (v, tt) s (v, tt) → r ≡ s
number-held-decided v r s e f = e ∙ sym f

-- the number of a refusal, by the contract of `number`
pub refusal-number-decided : (refusal : Refusal) (r s : ℕ)
    → number.Post tt (refusal, tt) r (refusal, tt) → number.Post tt (refusal, tt) s (refusal, tt) → r ≡ s
refusal-number-decided refusal r s e f = e ∙ sym f

-- its place, by the contract of `place`
pub refusal-place-decided : (refusal : Refusal) (r s : ℕ)
    → place.Post tt (refusal, tt) r (refusal, tt) → place.Post tt (refusal, tt) s (refusal, tt) → r ≡ s
refusal-place-decided refusal r s e f = e ∙ sym f

-- the least that is committed, by the contract of `least_of`
pub least-of-decided : (v : Value) (r s : ℕ)
    → least-of.Post tt (v, tt) r (v, tt) → least-of.Post tt (v, tt) s (v, tt) → r ≡ s
least-of-decided v r s e f = e ∙ sym f

module _ (κs : Lfts 1) (part other : Bor (List ℕ)) (same : part.now ≡ other.now) where
  -- the value at a place, by the contract of `value_at`
  pub value-at-decided : (at marks weight : ℕ) (r s : Value)
      → value-at.Post κs (part, (at, (marks, (weight, tt)))) r (part, (at, (marks, (weight, tt))))
      → value-at.Post κs (other, (at, (marks, (weight, tt)))) s (other, (at, (marks, (weight, tt))))
      → r ≡ s
  value-at-decided at marks weight r s = same_answer (λ p. value_of (eqb (marks / weight % 2) 1) (u32_at p at)) same

  -- the parameters, by the contract of `parameters_in`
  pub parameters-in-decided : (r s : Parameters)
      → parameters-in.Post κs (part, tt) r (part, tt) → parameters-in.Post κs (other, tt) s (other, tt) → r ≡ s
  parameters-in-decided r s = same_answer parameters_of same

  -- the edition, by the contract of `edition_in`
  pub edition-in-decided : (r s : ℕ)
      → edition-in.Post κs (part, tt) r (part, tt) → edition-in.Post κs (other, tt) s (other, tt) → r ≡ s
  edition-in-decided r s e f = same_answer edition_in same e.0 f.0

  -- the number of offers, by the contract of `offers_in`
  pub offers-in-decided : (r s : ℕ)
      → offers-in.Post κs (part, tt) r (part, tt) → offers-in.Post κs (other, tt) s (other, tt) → r ≡ s
  offers-in-decided r s e f = same_answer offers_in same e.0 f.0

  -- the offer, by the contract of `offer_in`
  pub offer-in-decided : (edition : ℕ) (r s : Offer)
      → offer-in.Post κs (part, (edition, tt)) r (part, (edition, tt)) → offer-in.Post κs (other, (edition, tt)) s (other, (edition, tt))
      → r ≡ s
  offer-in-decided edition r s = same_answer (offer_of edition) same
