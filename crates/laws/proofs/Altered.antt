-- Sums of which one summand is altered.
--
-- In order: two sums that differ at one place; the sum over a list's elements, each weighed by its place, after a store among
-- them, after a store past them, and after two of them are exchanged.
-- Assumes nothing.
use mathlib.Core.Path.{◌≡◌, ap, ◌∙◌}
use mathlib.Core.List.{List}
use Prim.Native.Nat.{ℕ, zero, suc, ◌+◌, ◌≤◌, ◌<◌}
use native.Mathlib.Nat.{not-suc-le-zero}
use native.Mathlib.Omega.{arith}
use lib.ListN.{length, get_or, set, length-set}
use lib.Seq.{get_or-set_same, get_or-set_other}
use Rattle.laws.specs.Sum.{sum_to}
use Rattle.laws.proofs.Cases.{by_order}
use Rattle.laws.proofs.Sums.{sum_to-suc, sum_to-ext}

-- two sums whose summands agree but at one place differ by what stands there
pub sum_to-altered :
    (f g : ℕ → ℕ) (n i : ℕ) → i < n → ((j : ℕ) → (j ≡ i → ⊥) → f j ≡ g j) → sum_to f n + g i ≡ sum_to g n + f i
sum_to-altered f g zero i l h = absurd (not-suc-le-zero l)
sum_to-altered f g (suc n) i l h =
    by_order n i
    (λ p.
    let same : i ≡ n = omega arith in
    let front = sum_to-ext f g n (λ j k. h j (λ e. omega arith)) in
    omega (arith, sum_to-suc f n, sum_to-suc g n, ap f same, ap g same))
    (λ p. omega (arith, sum_to-suc f n, sum_to-suc g n, sum_to-altered f g n i p h, h n (λ e. omega arith)))

-- the sum of the first n elements, each weighed by its place
abbrev pub weighed_sum : (ℕ → ℕ → ℕ) → List ℕ → ℕ → ℕ
weighed_sum weigh s n = sum_to (λ i. weigh i (get_or s i 0)) n

module _ (weigh : ℕ → ℕ → ℕ) (s : List ℕ) (n i : ℕ) where
  -- an element that is replaced moves the sum by what it weighed and weighs now
  pub sum_to-set :
      (v : ℕ) → i < n → n ≤ length s →
      weighed_sum weigh (set s i v) n + weigh i (get_or s i 0) ≡ weighed_sum weigh s n + weigh i v
  sum_to-set v l fits =
      sum_to-altered _ _ n i l (λ j k. ap (weigh j) (get_or-set_other s i j v 0 k))
      ∙ ap (λ (x : ℕ). weighed_sum weigh s n + weigh i x) (get_or-set_same s i v 0 (omega arith))

  -- a store past the elements that are summed leaves the sum
  pub sum_to-set-past : (v : ℕ) → n ≤ i → weighed_sum weigh (set s i v) n ≡ weighed_sum weigh s n
  sum_to-set-past v l =
      sum_to-ext _ _ n (λ j k. ap (weigh j) (get_or-set_other s i j v 0 (λ e. omega arith)))

-- two elements that are exchanged move the sum by what both weighed and weigh now
pub sum_to-exchange :
    (weigh : ℕ → ℕ → ℕ) (s : List ℕ) (n i j : ℕ) → i < n → j < n → n ≤ length s → (j ≡ i → ⊥) →
    weighed_sum weigh (set (set s i (get_or s j 0)) j (get_or s i 0)) n + (weigh i (get_or s i 0) + weigh j (get_or s j 0))
    ≡ weighed_sum weigh s n + (weigh i (get_or s j 0) + weigh j (get_or s i 0))
sum_to-exchange weigh s n i j l k fits apart =
    let once : List ℕ = set s i (get_or s j 0) in
    let fits-once : n ≤ length once = rw length-set fits in
    omega (
      arith,
      sum_to-set weigh s n i (get_or s j 0) l fits,
      sum_to-set weigh once n j (get_or s i 0) k fits-once,
      ap (weigh j) (get_or-set_other s i j (get_or s j 0) 0 apart),
    )
