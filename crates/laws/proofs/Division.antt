-- An amount divided among some places in proportion to their weights: the parts rounded down, and what rounding leaves.
--
-- In order: the definitions; one place's part; all parts rounded down and all remainders; what is spare.
-- Assumes nothing.
use mathlib.Core.Path.{◌≡◌, ap, ◌∙◌}
use mathlib.Core.Bool.{Bool, cond, ◌&&◌}
use Prim.Native.Nat.{ℕ, ◌+◌, ◌-◌, ◌*◌, ◌/◌, ◌%◌, ◌≤◌, ◌<◌}
use native.Mathlib.Nat.{div-add-mod', mod-lt, add-mul, mul_comm, mul-le-mul_left}
use native.Mathlib.Nat.{le_of_mul-le-mul_right, lt_of_mul-lt-mul_right}
use native.Mathlib.Omega.{arith}
use lib.Dec.{ltb}
use borrow.Author.Tests.{lt-ltb}
use Rattle.laws.specs.Sum.{sum_where, count_where}
use Rattle.laws.proofs.Cases.{by_order}
use Rattle.laws.proofs.Summands.{sum_where-ext, sum_where-mono, sum_where-add, sum_where-mul, sum_where-ones}

-- an amount to be divided among some of the first places
pub record Division : Type 0 where
  -- the places among which it is divided
  pub within : ℕ → Bool
  -- what each part is in proportion to
  pub weight : ℕ → ℕ
  -- how many places are looked at
  pub places : ℕ
  -- what is divided
  pub amount : ℕ

-- a sum over the places within
abbrev pub sum_over : Division → (ℕ → ℕ) → ℕ
sum_over d f = sum_where d.within f d.places

-- all weights together
unfoldable pub whole : Division → ℕ
whole d = sum_over d d.weight

-- a place's part of the amount, rounded down
unfoldable pub part_down : Division → ℕ → ℕ
part_down d i = d.weight i * d.amount / whole d

-- the remainder of that division
unfoldable pub part_left : Division → ℕ → ℕ
part_left d i = d.weight i * d.amount % whole d

-- what the parts rounded down leave of the amount
unfoldable pub spare : Division → ℕ
spare d = d.amount - sum_over d (part_down d)

module _ (d : Division) where
  -- a part rounded down, times all weights, and its remainder are the weight times the amount
  pub part-exact : (i : ℕ) → part_down d i * whole d + part_left d i ≡ d.weight i * d.amount
  unfolding part_down part_left
  part-exact i = div-add-mod' (d.weight i * d.amount) (whole d)

  -- a remainder is less than all weights
  pub part_left-less : 0 < whole d → (i : ℕ) → part_left d i < whole d
  unfolding part_left
  part_left-less pos i = mod-lt (d.weight i * d.amount) pos

  part-bound : d.amount ≤ whole d → (i : ℕ) → part_down d i * whole d + part_left d i ≤ d.weight i * whole d
  part-bound most i = omega (arith, part-exact i, mul-le-mul_left (d.weight i) most)

  -- a part rounded down is at most the weight
  pub part_down-most : 0 < whole d → d.amount ≤ whole d → (i : ℕ) → part_down d i ≤ d.weight i
  part_down-most pos most i = le_of_mul-le-mul_right {k = whole d} (omega (arith, part-bound most i)) pos

  -- and less where a remainder is left
  pub part_down-room : d.amount ≤ whole d → (i : ℕ) → 0 < part_left d i → part_down d i < d.weight i
  part_down-room most i l = lt_of_mul-lt-mul_right (whole d) (omega (arith, part-bound most i))

  weighted-sum : sum_over d (λ i. d.weight i * d.amount) ≡ d.amount * whole d
  unfolding whole
  weighted-sum = sum_where-mul d.within d.weight d.amount d.places ∙ mul_comm _ d.amount

  -- the parts rounded down and the remainders make up the amount
  pub parts-exact : sum_over d (part_down d) * whole d + sum_over d (part_left d) ≡ d.amount * whole d
  parts-exact =
      omega (
        arith,
        sum_where-mul d.within (part_down d) (whole d) d.places,
        sum_where-add d.within (λ i. part_down d i * whole d) (part_left d) d.places,
        sum_where-ext d.within (λ i. part_down d i * whole d + part_left d i) _ d.places (λ i l t. part-exact i),
        weighted-sum,
      )

  parts-most : 0 < whole d → sum_over d (part_down d) ≤ d.amount
  parts-most pos = le_of_mul-le-mul_right {k = whole d} (omega (arith, parts-exact)) pos

  -- what is spare is exactly what the parts rounded down leave
  pub spare-rest : 0 < whole d → sum_over d (part_down d) + spare d ≡ d.amount
  unfolding spare
  spare-rest pos = omega (arith, parts-most pos)

  -- and it is what the remainders come to
  pub spare-exact : 0 < whole d → spare d * whole d ≡ sum_over d (part_left d)
  spare-exact pos =
      omega (
        arith,
        parts-exact,
        add-mul (sum_over d (part_down d)) (spare d) (whole d),
        ap (λ (a : ℕ). a * whole d) (spare-rest pos),
      )

  -- one where a remainder is left
  abbrev one : ℕ → ℕ
  one i = cond (ltb 0 (part_left d i)) 1 0

  left-most : 0 < whole d → (i : ℕ) → part_left d i ≤ one i * whole d
  left-most pos i =
      by_order (part_left d i) 0
      (λ l. omega arith)
      (λ l. rw (lt-ltb 0 (part_left d i) l) (omega (arith, part_left-less pos i)))

  -- no more is spare than places have a remainder
  pub spare-most : 0 < whole d → spare d ≤ count_where (λ i. d.within i && ltb 0 (part_left d i)) d.places
  spare-most pos =
      let bound = sum_where-mono d.within (part_left d) (λ i. one i * whole d) d.places (λ i l t. left-most pos i) in
      let counted = sum_where-ones d.within (λ i. ltb 0 (part_left d i)) d.places in
      le_of_mul-le-mul_right {k = whole d}
      (omega (
        arith,
        spare-exact pos,
        sum_where-mul d.within one (whole d) d.places,
        ap (λ (c : ℕ). c * whole d) counted,
      ))
      pos
