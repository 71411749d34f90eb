-- A comparison says that the theorem applies exactly when it does.
--
-- In order: the offers that stand at or below a price are those of the definition; two lists of them that are compared; contents; books.
-- Assumes nothing.
use mathlib.Core.Path.{◌≡◌, refl, sym, ap, ap₂, subst, ◌∙◌}
use mathlib.Core.Bool.{true}
use mathlib.Core.List.{List, [], ◌∷◌, map}
use Prim.Native.Nat.{ℕ, suc, ◌+◌}
use native.Mathlib.Omega.{arith}
use lib.ListN.{length, length-map}
use Rattle.laws.proofs.Cases.{by-test, cond-true, cond-false}
use Rattle.laws.proofs.Those.{those-none, those-passed, those-left}
use Rattle.std.specs.Prelude.{Some, None}
use Rattle.std.specs.declared.option.Option.{Option}
use Rattle.values.specs.Contents.{Contents}
use Rattle.values.specs.declared.head.Parameters.{Parameters}
use Rattle.values.specs.declared.place.Offer.{Offer}
use Rattle.call.specs.Losers.{to_price, at_or_below, SameToPrice}
use Rattle.compare.specs.Same.{same_offer, field_apart}
use Rattle.compare.specs.Comparison.{Standing, standing, standing_compared, offers_compared, parameters_compared, compared_to}
use Rattle.compare.specs.declared.Comparison.{Comparison}
use Rattle.compare.specs.declared.Comparison.TheVariants.{Applies, OffersDiffer, ParametersDiffer, OnlyFirst, OnlySecond}
use Rattle.compare.proofs.Sames.{offer-same, offer-self, parameters-same, parameters-self}

abbrev offers_in : List Standing → List Offer
offers_in = map (λ (s : Standing). s.offer)

-- the offers that stand at or below p, without their rows
standing-offers : (p row : ℕ) (offers : List Offer) → offers_in (standing p row offers) ≡ at_or_below p offers
unfolding standing at_or_below
standing-offers p row [] = sym (those-none (λ (o : Offer). to_price p o.price))
standing-offers p row (o ∷ offers) =
    by-test (to_price p o.price)
    (λ e.
    ap offers_in (cond-true (to_price p o.price) _ _ e)
    ∙ ap (λ (r : List Offer). o ∷ r) (standing-offers p (suc row) offers)
    ∙ sym (those-passed (λ (q : Offer). to_price p q.price) o offers e))
    (λ e.
    ap offers_in (cond-false (to_price p o.price) _ _ e)
    ∙ standing-offers p (suc row) offers
    ∙ sym (those-left (λ (q : Offer). to_price p q.price) o offers e))

-- ---- two lists compared

-- a list with an offer in it is not one without
nonempty : (o : Offer) (xs : List Offer) → o ∷ xs ≡ [] → ⊥
nonempty o xs e = let z = ap length e in omega (arith, z)

-- what a comparison that says so shows: the offers agree, and the price and the number are those told
record Agree (p shared : ℕ) (xs ys : List Offer) (q s : ℕ) : Type 0 where
  offers : xs ≡ ys
  price : q ≡ p
  count : s ≡ shared + length xs

agree-more : (p shared q s : ℕ) (o o' : Offer) (xs ys : List Offer) → o ≡ o' → Agree p (suc shared) xs ys q s
    → Agree p shared (o ∷ xs) (o' ∷ ys) q s
agree-more p shared q s o o' xs ys e a =
    record { offers = ap₂ (λ (x : Offer) (r : List Offer). x ∷ r) e a.offers; price = a.price; count = omega (arith, a.count) }

-- an answer that says that something differs, or that something comes first, is not the one that the theorem applies
apart : (r : Comparison) (q s : ℕ) → r ≡ Applies q s → (◌≡◌ {A = Comparison} r (Applies q s) → ◌≡◌ {A = ℕ} 0 1) → ⊥
apart r q s e one = let z = one e in omega arith

differ-apart : (i j q s : ℕ) → OffersDiffer i j ≡ Applies q s → ⊥
differ-apart i j q s e = apart _ q s e (λ f. cc)

first-apart : (i q s : ℕ) → OnlyFirst i ≡ Applies q s → ⊥
first-apart i q s e = apart _ q s e (λ f. cc)

second-apart : (j q s : ℕ) → OnlySecond j ≡ Applies q s → ⊥
second-apart j q s e = apart _ q s e (λ f. cc)

field_apart_lem : (field q s : ℕ) → ParametersDiffer field ≡ Applies q s → ⊥
field_apart_lem field q s e = apart _ q s e (λ f. cc)

-- where the comparison says so, they agree
compared-agree : (p shared : ℕ) (xs ys : List Standing) (q s : ℕ) → standing_compared p shared xs ys ≡ Applies q s
    → Agree p shared (offers_in xs) (offers_in ys) q s
unfolding standing_compared
compared-agree p shared [] [] q s e =
    let same-price : p ≡ q = cc in
    let same_count : shared ≡ s = cc in
    record { offers = refl; price = sym same-price; count = omega arith }
compared-agree p shared (x ∷ xs) [] q s e = absurd (first-apart _ q s e)
compared-agree p shared [] (y ∷ ys) q s e = absurd (second-apart _ q s e)
compared-agree p shared (x ∷ xs) (y ∷ ys) q s e =
    by-test (same_offer x.offer y.offer)
    (λ t.
    agree-more p shared q s x.offer y.offer _ _ (offer-same x.offer y.offer t)
    (compared-agree p (suc shared) xs ys q s (sym (cond-true _ _ _ t) ∙ e)))
    (λ t. absurd (differ-apart _ _ q s (sym (cond-false _ _ _ t) ∙ e)))

-- and where they agree, it says so
agree-compared : (p shared : ℕ) (xs ys : List Standing) → offers_in xs ≡ offers_in ys
    → standing_compared p shared xs ys ≡ Applies p (shared + length xs)
unfolding standing_compared
agree-compared p shared [] [] e = ap (Applies p) (omega arith)
agree-compared p shared (x ∷ xs) [] e = absurd (nonempty x.offer (offers_in xs) e)
agree-compared p shared [] (y ∷ ys) e = absurd (nonempty y.offer (offers_in ys) (sym e))
agree-compared p shared (x ∷ xs) (y ∷ ys) e =
    let first : x.offer ≡ y.offer = cc in
    let rest : offers_in xs ≡ offers_in ys = cc in
    cond-true _ _ _ (subst (λ (o : Offer). same_offer x.offer o ≡ true) first (offer-self x.offer))
    ∙ agree-compared p (suc shared) xs ys rest
    ∙ ap (Applies p) (omega arith)

-- ---- contents

module _ (p : ℕ) (c c' : Contents) where
  -- where contents are said to agree, they do
  pub compared_same : (q s : ℕ) → compared_to p c c' ≡ Applies q s
      → SameToPrice p c c' × ((q ≡ p) × (s ≡ length (at_or_below p c.offers)))
  unfolding compared_to offers_compared
  compared_same q s e = go (field_apart c.parameters c'.parameters) refl e
    where
      go : (told : Option ℕ) → field_apart c.parameters c'.parameters ≡ told
          → parameters_compared told (offers_compared p c.offers c'.offers) ≡ Applies q s
          → SameToPrice p c c' × ((q ≡ p) × (s ≡ length (at_or_below p c.offers)))
      go (Some field) z f = absurd (field_apart_lem field q s f)
      go None z f =
          let a = compared-agree p 0 (standing p 0 c.offers) (standing p 0 c'.offers) q s f in (
            record {
              parameters = parameters-same c.parameters c'.parameters z;
              offers = sym (standing-offers p 0 c.offers) ∙ a.offers ∙ standing-offers p 0 c'.offers;
            },
            (a.price, omega (arith, a.count, ap length (standing-offers p 0 c.offers))),
          )

  -- and where they do, it is said so
  pub same-compared : SameToPrice p c c' → compared_to p c c' ≡ Applies p (length (at_or_below p c.offers))
  unfolding compared_to offers_compared
  same-compared s =
      let z : field_apart c.parameters c'.parameters ≡ None = subst (λ (r : Parameters). field_apart c.parameters r ≡ None) s.parameters (parameters-self c.parameters) in
      ap (λ (told : Option ℕ). parameters_compared told (offers_compared p c.offers c'.offers)) z
      ∙ agree-compared p 0 (standing p 0 c.offers) (standing p 0 c'.offers)
      (standing-offers p 0 c.offers ∙ s.offers ∙ sym (standing-offers p 0 c'.offers))
      ∙ ap (Applies p) (omega (arith, ap length (standing-offers p 0 c.offers), length-map (standing p 0 c.offers) (λ (x : Standing). x.offer)))
