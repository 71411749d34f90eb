-- The first row of a row's resource.
--
-- In order: a row that isn't there; a row before it that has its resource, where none before that has; none that has it.
-- Assumes nothing.
use mathlib.Core.Path.{◌≡◌, refl, sym, ap, ◌∙◌}
use mathlib.Core.Bool.{Bool, false, true≢false}
use mathlib.Core.List.{List}
use mathlib.Core.Option.{Option, none, some}
use Prim.Native.Nat.{ℕ, ◌+◌, ◌≤◌, ◌<◌}
use native.Mathlib.Nat.{le_of_lt, min-eq_right}
use native.Mathlib.Numerals.{add-one}
use native.Mathlib.Omega.{arith}
use lib.Dec.{eqb}
use lib.ListN.{length}
use borrow.Author.Tests.{lt-ltb, le-ltb, eq-eqb, ne_eqb}
use Rattle.laws.specs.Largest.{least_where, lesser}
use Rattle.laws.proofs.Cases.{by_order, cond-true, cond-false}
use Rattle.laws.proofs.Compare.{up-to-last}
use Rattle.laws.proofs.Leasts.{IsLeast, Least, least-alone, least_where-is}
use Rattle.values.specs.Contents.{offer_at}
use Rattle.values.specs.declared.place.Offer.{Offer}
use Rattle.readout.specs.Read.{earlier_row}

-- row i has the row's resource
abbrev same : List Offer → ℕ → ℕ → Bool
same offers row i = eqb (offer_at offers i).resource (offer_at offers row).resource

-- none of the first k rows has it
pub record NoneBefore (offers : List Offer) (row k : ℕ) : Type 0 where
  pub other : (i : ℕ) → i < k → same offers row i ≡ false

pub none_before : (offers : List Offer) (row : ℕ) → NoneBefore offers row 0
none_before offers row = record { other = λ i l. absurd (omega arith) }

module _ (offers : List Offer) (row : ℕ) where
  pub none_more : (k : ℕ) → NoneBefore offers row k → ((offer_at offers k).resource ≡ (offer_at offers row).resource → ⊥)
      → NoneBefore offers row (k + 1)
  none_more k before n =
      rw add-one (record { other = up-to-last (λ i. same offers row i ≡ false) k before.other (ne_eqb _ _ n) })

  pub earlier-absent : length offers ≤ row → row ≡ earlier_row offers row
  unfolding earlier_row
  earlier-absent l = sym (cond-false _ _ _ (le-ltb row (length offers) l))

  module _ (there : row < length offers) where
    earlier-is : (a : Option ℕ) → Least (same offers row) (λ i. i) row a → earlier_row offers row ≡ lesser row a
    unfolding earlier_row
    earlier-is a r =
        cond-true _ _ _ (lt-ltb row (length offers) there)
        ∙ ap (lesser row) (least-alone (same offers row) (λ i. i) row (least_where (same offers row) (λ i. i) row) a (least_where-is (same offers row) (λ i. i) row) r)

    pub earlier-found : (k : ℕ) → k < row → NoneBefore offers row k → (offer_at offers k).resource ≡ (offer_at offers row).resource
        → k ≡ earlier_row offers row
    earlier-found k l before e = sym (earlier-is (some k) least ∙ min-eq_right (le_of_lt l))
      where
        least : IsLeast (same offers row) (λ i. i) row k
        least =
            record {
              place = k;
              within = l;
              passes = eq-eqb _ _ e;
              value = refl;
              lowest = λ i m t. by_order k i (λ h. h) (λ h. absurd (true≢false (sym t ∙ before.other i h)));
            }

    pub earlier-none : (k : ℕ) → row ≤ k → NoneBefore offers row k → row ≡ earlier_row offers row
    earlier-none k l before = sym (earlier-is none (λ i m. before.other i (omega arith)))
