-- The rows of one resource, where clearing's tests find no fault in the rows: they stand together, counted up from 1.
--
-- In order: one row; one row more; two rows of one resource; the row of step 1.
-- Assumes nothing.
use mathlib.Core.Path.{◌≡◌, refl, sym, ap, ◌∙◌}
use mathlib.Core.Bool.{true}
use Prim.Native.Nat.{ℕ, zero, suc, ◌-◌, ◌≤◌, ◌<◌}
use native.Mathlib.Omega.{arith}
use Rattle.laws.proofs.Cases.{by_order, by-equality}
use Rattle.values.specs.Values.{held}
use Rattle.values.specs.declared.Value.TheVariants.{Given}
use Rattle.values.specs.declared.place.Offer.{Offer}
use Rattle.repeats.proofs.Fresh.{fresh-differs}
use Rattle.steps.proofs.Following.{Follows}
use Rattle.limits.specs.Offers.{rows_fault}
use Rattle.limits.proofs.PassingRows.{rows-fresh, rows_behind, rows-follow, rows-priced}
use Rattle.call.specs.Steps.{Together, StepOne}
use Rattle.values.specs.Refusals.{no_fault}

module _ (edition : ℕ) (offers : ℕ → Offer) (n : ℕ)
    (e : rows_fault true edition offers n ≡ no_fault) where
  priced : (row : ℕ) → row < n → (offers row).price ≡ Given (held (offers row).price)
  priced row l = (rows-priced edition offers n e row l).price-given

  -- a row past step 1 follows the row before it
  follows : (row : ℕ) → suc row < n → ((offers (suc row)).step ≡ 1 → ⊥) → Follows (offers row) (offers (suc row))
  follows row l past = let back : suc row - 1 ≡ row = omega arith in rw back at (rows-follow true edition offers n e (suc row) l past)

  alone : (i : ℕ) → Together offers i i
  alone i =
      record {
        resource = λ row l m. let same : row ≡ i = omega arith in ap (λ (r : ℕ). (offers r).resource) same;
        step = omega arith;
        price = omega arith;
      }

  more : (i j : ℕ) → i ≤ j → suc j < n → Together offers i j → Follows (offers j) (offers (suc j)) → Together offers i (suc j)
  more i j l m t f =
      record {
        resource = λ row h k.
            by_order (suc j) row
            (λ past.
            let same : row ≡ suc j = omega arith in
            ap (λ (r : ℕ). (offers r).resource) same ∙ f.resource ∙ t.resource j l (omega arith))
            (λ before. t.resource row h (omega arith));
        step = omega (arith, f.step, t.step);
        price = omega (arith, t.price, f.price _ _ (priced j (omega arith)) (priced (suc j) m));
      }

  pub together : (i j : ℕ) → i ≤ j → j < n → (offers i).resource ≡ (offers j).resource → Together offers i j
  together i zero l m same = let first : i ≡ 0 = omega arith in rw first (alone 0)
  together i (suc j) l m same =
      by_order (suc j) i
      (λ past. let last : i ≡ suc j = omega arith in rw last (alone (suc j)))
      (λ before.
      let f = follows j m (λ one. fresh-differs (λ r. (offers r).resource) (suc j) i (rows-fresh true edition offers n e (suc j) m one) before same) in
      more i j (omega arith) m (together i j (omega arith) (omega arith) (same ∙ f.resource)) f)

  pub step-one : (row : ℕ) → row < n → StepOne offers row
  step-one zero l =
      by-equality (offers 0).step 1
      (λ one. record { first = 0; there = omega arith; resource = refl; step = one })
      (λ past. absurd (omega (arith, rows_behind true edition offers n e 0 l past)))
  step-one (suc row) l =
      by-equality (offers (suc row)).step 1
      (λ one. record { first = suc row; there = omega arith; resource = refl; step = one })
      (λ past.
      let r = step-one row (omega arith) in
      record {
        first = r.first;
        there = omega (arith, r.there);
        resource = r.resource ∙ sym (follows row l past).resource;
        step = r.step;
      })
