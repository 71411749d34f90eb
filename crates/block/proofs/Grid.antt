-- The sums of a block from its columns: bytes 28 to 507 stand in rows of sixteen, bytes 12 to 27 before them, and bytes 0 to 11
-- before those.
--
-- In order: a sum over places in rows, a column at a time; a column's values times their positions; both sums of the block.
-- Assumes nothing.
use mathlib.Core.Path.{◌≡◌, sym, ap, ◌∙◌}
use Prim.Native.Nat.{ℕ, zero, suc, ◌+◌, ◌*◌}
use native.Mathlib.Nat.{mul-add, add-mul, mul_assoc, add_comm}
use native.Mathlib.Omega.{arith}
use Rattle.laws.specs.Sum.{sum_to}
use Rattle.laws.proofs.Sums.{sum_to-zero, sum_to-suc, sum_to-ext, sum_to-add, sum_to-append, sum_to-mul, sum_to-none}
use Rattle.block.proofs.Steps.{placed}

-- the sum over one column, over n rows of sixteen
abbrev down : (ℕ → ℕ) → ℕ → ℕ → ℕ
down f n column = sum_to (λ row. f (row * 16 + column)) n

-- all places of n rows, a column at a time
by-columns : (f : ℕ → ℕ) (n : ℕ) → sum_to (down f n) 16 ≡ sum_to f (n * 16)
by-columns f zero = sum_to-none (down f zero) 16 (λ c l. sum_to-zero (λ row. f (row * 16 + c))) ∙ sym (sum_to-zero f)
by-columns f (suc n) =
    let last : ℕ → ℕ = λ c. f (n * 16 + c) in
    let place : suc n * 16 ≡ n * 16 + 16 = omega arith in
    omega (
      arith,
      sum_to-ext (down f (suc n)) (λ c. down f n c + last c) 16 (λ c l. sum_to-suc (λ row. f (row * 16 + c)) n),
      sum_to-ext last (λ c. f (c + n * 16)) 16 (λ c l. ap f (add_comm (n * 16) c)),
      sum_to-add (down f n) last 16,
      by-columns f n,
      sum_to-append f (n * 16) 16,
      ap (sum_to f) place,
    )

module _ (f : ℕ → ℕ) where
  -- a column of bytes 28 to 507
  abbrev pub column : ℕ → ℕ → ℕ
  column c row = f (row * 16 + c + 28)

  -- a value's position is that of the byte before the rows, and sixteen for each row
  place-column : (c row : ℕ) → placed f (row * 16 + c + 28) ≡ column c row * (c + 13) + 16 * (column c row * (row + 1))
  place-column c row =
      let x : ℕ = column c row in
      let place : row * 16 + c + 28 + 1 ≡ c + 13 + (row + 1) * 16 = omega arith in
      omega (
        arith,
        ap (λ (k : ℕ). x * k) place,
        mul-add x (c + 13) ((row + 1) * 16),
        mul_assoc x (row + 1) 16,
      )

  -- a column's bytes times their positions
  placed-column : (c n : ℕ) → sum_to (λ row. placed f (row * 16 + c + 28)) n
      ≡ sum_to (column c) n * (c + 13) + 16 * sum_to (λ row. column c row * (row + 1)) n
  placed-column c zero =
      omega (
        arith,
        sum_to-zero (λ row. placed f (row * 16 + c + 28)),
        ap (λ (k : ℕ). k * (c + 13)) (sum_to-zero (column c)),
        sum_to-zero (λ row. column c row * (row + 1)),
      )
  placed-column c (suc n) =
      omega (
        arith,
        placed-column c n,
        place-column c n,
        sum_to-suc (λ row. placed f (row * 16 + c + 28)) n,
        sum_to-suc (λ row. column c row * (row + 1)) n,
        ap (λ (k : ℕ). k * (c + 13)) (sum_to-suc (column c) n),
        add-mul (sum_to (column c) n) (column c n) (c + 13),
      )

  -- a column's sum, with the byte before its rows
  abbrev pub summed : ℕ → ℕ
  summed c = sum_to (column c) 30 + f (c + 12)

  -- a column's total: each byte times how many rows it is from the byte before them
  abbrev pub totalled : ℕ → ℕ
  totalled c = sum_to (λ row. column c row * (row + 1)) 30

  -- the steps over the columns, those over bytes 11 to 0 and the doubled totals count each byte of a column by its position
  counted-column : (c : ℕ) →
      summed c * (c + 1) + 12 * summed c + 16 * totalled c ≡ sum_to (λ row. placed f (row * 16 + c + 28)) 30 + placed f (c + 12)
  counted-column c =
      let x : ℕ = summed c in
      let place : c + 13 ≡ c + 1 + 12 = omega arith in
      let place' : c + 12 + 1 ≡ c + 13 = omega arith in
      omega (
        arith,
        placed-column c 30,
        add-mul (sum_to (column c) 30) (f (c + 12)) (c + 13),
        ap (λ (k : ℕ). x * k) place,
        mul-add x (c + 1) 12,
        ap (λ (k : ℕ). f (c + 12) * k) place',
      )

-- the places of a block that are summed, by the columns
in-columns : (g : ℕ → ℕ) → sum_to g 508
    ≡ sum_to g 12 + sum_to (λ c. g (c + 12)) 16 + sum_to (λ c. sum_to (λ row. g (row * 16 + c + 28)) 30) 16
in-columns g = omega (arith, sum_to-append g 12 16, sum_to-append g 28 480, by-columns (λ i. g (i + 28)) 30)

module _ (f : ℕ → ℕ) where
  -- the first sum
  pub first-columns : sum_to (summed f) 16 + sum_to f 12 ≡ sum_to f 508
  first-columns = omega (arith, in-columns f, sum_to-add (λ c. sum_to (column f c) 30) (λ c. f (c + 12)) 16)

  -- the second sum
  pub second-columns :
      sum_to (λ c. summed f c * (c + 1)) 16 + 12 * sum_to (summed f) 16 + sum_to (placed f) 12 + 16 * sum_to (totalled f) 16
      ≡ sum_to (placed f) 508
  second-columns =
      let w : ℕ → ℕ = λ c. summed f c * (c + 1) in
      omega (
        arith,
        in-columns (placed f),
        sum_to-ext _ _ 16 (λ c l. counted-column f c),
        sum_to-add (λ c. w c + 12 * summed f c) (λ c. 16 * totalled f c) 16,
        sum_to-add w (λ c. 12 * summed f c) 16,
        sum_to-mul 12 (summed f) 16,
        sum_to-mul 16 (totalled f) 16,
        sum_to-add (λ c. sum_to (λ row. placed f (row * 16 + c + 28)) 30) (λ c. placed f (c + 12)) 16,
      )
