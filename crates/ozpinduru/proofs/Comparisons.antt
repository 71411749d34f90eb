-- The comparison of two books as it goes out, by the contract of `ozp_compare`.
--
-- In order: the contract leaves one answer; kind 1 says that the theorem applies, with the price and the number of shared offers.
-- Assumes nothing.
use mathlib.Core.Path.{◌≡◌, refl, sym, ap, ap₂, subst, ◌∙◌}
use mathlib.Core.List.{List}
use Prim.Native.Nat.{ℕ}
use native.Mathlib.Omega.{arith}
use contract.Lifetimes.{Lfts}
use denote.Ref.{Bor}
use Rattle.compare.specs.Comparison.{comparison_of, TheoremApplies}
use Rattle.compare.specs.declared.Comparison.{Comparison}
use Rattle.compare.specs.declared.Comparison.TheVariants.{Applies, FirstRefused, SecondRefused, NothingClears, ParametersDiffer, OffersDiffer, OnlyFirst, OnlySecond}
use Rattle.compare.proofs.Theorem.{comparison-applies}
use Rattle.ozpinduru.specs.Compared.{compared_out}
use Rattle.plain.specs.declared.structs.OzpComparison.{OzpComparison}
use Rattle.ozpinduru.proofs.compared.ozp_compare.Reads as ozp-compare

-- the comparison of two books, by the contract of `ozp_compare`
pub ozp-compare-decided : (κs : Lfts 2) (first second first' second' : Bor (List ℕ)) (r s : OzpComparison)
    → first.now ≡ first'.now → second.now ≡ second'.now
    → ozp-compare.Post κs (first, (second, tt)) r (first, (second, tt))
    → ozp-compare.Post κs (first', (second', tt)) s (first', (second', tt))
    → r ≡ s
ozp-compare-decided κs first second first' second' r s e f x y = x ∙ ap compared_out (ap₂ comparison_of e f) ∙ sym y

-- no other comparison goes out with kind 1
applies-told : (c : Comparison) → (compared_out c).kind ≡ 1 → c ≡ Applies (compared_out c).price (compared_out c).shared
applies-told (Applies price shared) e = refl
applies-told (FirstRefused refusal) e = absurd (omega arith)
applies-told (SecondRefused refusal) e = absurd (omega arith)
applies-told NothingClears e = absurd (omega arith)
applies-told (ParametersDiffer field) e = absurd (omega arith)
applies-told (OffersDiffer row other) e = absurd (omega arith)
applies-told (OnlyFirst row) e = absurd (omega arith)
applies-told (OnlySecond other) e = absurd (omega arith)

-- Where kind 1 goes out, the theorem applies to both books, with the price and the number of shared offers that go out with it.
pub ozp-compare-applies : (κs : Lfts 2) (first second : Bor (List ℕ)) (r : OzpComparison)
    → ozp-compare.Post κs (first, (second, tt)) r (first, (second, tt))
    → r.kind ≡ 1 → TheoremApplies first.now second.now r.price r.shared
ozp-compare-applies κs first second r x e =
    let c = comparison_of first.now second.now in
    let told = applies-told c (ap (λ (o : OzpComparison). o.kind) (sym x) ∙ e) in
    subst (λ (o : OzpComparison). TheoremApplies first.now second.now o.price o.shared) (sym x)
    ((comparison-applies first.now second.now (compared_out c).price (compared_out c).shared).0 told)
