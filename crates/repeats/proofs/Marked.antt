-- Both flags of each number, in a table of 8,192.
--
-- In order: no row; one row more, with both its flags; one row more, with the number of the row before it; which rows need no flag.
-- Assumes nothing.
use mathlib.Core.Path.{◌≡◌, refl, ◌∙◌}
use mathlib.Core.Bool.{Bool, true, false, not, ◌&&◌, ◌||◌, true≢false}
use mathlib.Core.List.{List}
use Prim.Native.Nat.{ℕ, ◌+◌, ◌-◌, ◌<◌}
use native.Mathlib.Omega.{arith}
use lib.ListN.{length, set, length-set}
use lib.Dec.{eqb, ltb}
use borrow.Author.Tests.{eqb-true, ltb-true}
use Rattle.laws.proofs.Cases.{and_left, and_right}
use Rattle.repeats.specs.inner.Flags.{flag_of_sum, flag_of_product}
use Rattle.repeats.proofs.Flagged.{Flagged, flagged-none, flagged-kept, flagged-more, flagged-same}

-- For each of the first n rows both flags of its resource number are set.
pub record Marked (resources : ℕ → ℕ) (met : List Bool) (n : ℕ) : Type 0 where
  pub long : length met ≡ 8192
  pub sum : Flagged flag_of_sum resources met n
  pub product : Flagged flag_of_product resources met n

module _ (resources : ℕ → ℕ) (met : List Bool) where
  -- no row passed, no flag to set
  pub marked-none : length met ≡ 8192 → Marked resources met 0
  marked-none e =
      record { long = e; sum = flagged-none flag_of_sum resources met; product = flagged-none flag_of_product resources met }

  -- one row more, with both its flags set
  pub marked_more : (n p q : ℕ) → (p ≡ flag_of_sum (resources n)) × (p < 8192) → (q ≡ flag_of_product (resources n)) × (q < 8192)
      → Marked resources met n → Marked resources (set (set met p true) q true) (n + 1)
  marked_more n p q first second m =
      let within : p < length met = omega (arith, m.long) in
      let kept : length (set met p true) ≡ length met = length-set met p true in
      let behind : q < length (set met p true) = omega (arith, m.long) in
      record {
        long = length-set (set met p true) q true ∙ kept ∙ m.long;
        sum =
            flagged-kept flag_of_sum resources (set met p true) (n + 1) q behind
            (flagged-more flag_of_sum resources met n p within first.0 m.sum);
        product =
            flagged-more flag_of_product resources (set met p true) n q behind second.0
            (flagged-kept flag_of_product resources met n p within m.product);
      }

  -- one row more, whose resource number the row before it has
  pub marked-same : (n : ℕ) → 0 < n → resources n ≡ resources (n - 1) → Marked resources met n → Marked resources met (n + 1)
  marked-same n later same m =
      record {
        long = m.long;
        sum = flagged-same flag_of_sum resources met n later same m.sum;
        product = flagged-same flag_of_product resources met n later same m.product;
      }

-- of a row's step and of whether it is as the row before it, where they do not ask for its flags
pub by-passed : (first same : Bool) → first || not same ≡ false → (first ≡ false) × (same ≡ true)
by-passed false true e = (refl, refl)
by-passed false false e = absurd (true≢false e)
by-passed true same e = absurd (true≢false e)

-- a row as the one before it: there is one, with the same number
pub as_before : (resources : ℕ → ℕ) (row : ℕ) → ltb 0 row && eqb (resources row) (resources (row - 1)) ≡ true
    → (0 < row) × (resources row ≡ resources (row - 1))
as_before resources row e = (ltb-true 0 row (and_left (ltb 0 row) _ e), eqb-true _ _ (and_right (ltb 0 row) _ e))
