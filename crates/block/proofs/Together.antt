-- The columns of a block put together: what the steps over them and over bytes 11 to 0 leave, and sixteen times the totals.
--
-- In order: sixteen times a number that is kept; the sums of the columns as the code keeps them; the running sum and the total of the
-- block.
-- Assumes nothing.
use mathlib.Core.Path.{◌≡◌, sym, ap, ◌∙◌}
use mathlib.Core.List.{List}
use Prim.Native.Nat.{ℕ, ◌+◌, ◌*◌, ◌/◌, ◌%◌, ◌≤◌, ◌<◌}
use native.Mathlib.Nat.{le_refl, mod-add-div', add-mul-mod_self_right}
use native.Mathlib.Omega.{arith}
use lib.ListN.{length, get_or}
use Rattle.laws.specs.Sum.{sum_to}
use Rattle.laws.specs.Filled.{filled}
use Rattle.laws.proofs.Sums.{sum_to-ext}
use Rattle.laws.proofs.Fills.{get_d-filled}
use Rattle.block.specs.Bytes.{byte}
use Rattle.block.specs.Running.{running_sum, running_total, block_sum, block_total}
use Rattle.block.specs.inner.Columns.{in_column, column_sum, column_total}
use Rattle.block.proofs.Steps.{running_sum-all, running_total-all}
use Rattle.block.proofs.Boards.{kept, kept-added, added-kept, running_sum-kept, running_total-kept}
use Rattle.block.proofs.Grid.{summed, totalled, first-columns, second-columns}

-- sixteen times a number that is kept
times-kept : (a : ℕ) {x : ℕ} → x ≡ a % 65536 → x * 16 % 65536 ≡ 16 * a % 65536
times-kept a e = omega arith

-- a total that went on over twelve places
went_on : (a b w : ℕ) {x y z : ℕ} → x ≡ a % 65536 → y ≡ b % 65536 → z ≡ (y + x * 12 + w) % 65536
    → z ≡ (b + 12 * a + w) % 65536
went_on a b w {x} {y} e f h =
    h
    ∙ sym (add-mul-mod_self_right (y + x * 12 + w) (b / 65536 + 12 * (a / 65536)) 65536)
    ∙ kept (omega (arith, mod-add-div' a 65536, mod-add-div' b 65536))

module _ (s sums before : List ℕ) (e : sums ≡ filled (column_sum s) 16 before) (l : 16 ≤ length before) where
  -- what is stored of a column
  abbrev stored : ℕ → ℕ
  stored c = get_or sums c 0

  -- a column's sum is stored modulo 65,536
  stored-kept : (c : ℕ) → c < 16 → stored c ≡ summed (byte s) c % 65536
  stored-kept c h =
      ap (λ (xs : List ℕ). get_or xs c 0) e
      ∙ get_d-filled (column_sum s) 16 before c 0 l h
      ∙ kept (ap (λ (x : ℕ). x + byte s (c + 12)) (running_sum-all (in_column s c) 30))

  -- the running sum after the columns
  sum-columns : running_sum stored 16 16 % 65536 ≡ sum_to (summed (byte s)) 16 % 65536
  sum-columns =
      running_sum-kept stored (summed (byte s)) 16 stored-kept 16 (le_refl 16) ∙ kept (running_sum-all (summed (byte s)) 16)

  -- and the total
  total-columns : running_total stored 16 16 % 65536 ≡ sum_to (λ c. summed (byte s) c * (c + 1)) 16 % 65536
  total-columns =
      running_total-kept stored (summed (byte s)) 16 stored-kept 16 (le_refl 16) ∙ kept (running_total-all (summed (byte s)) 16)

  module _ {x y : ℕ} (sum : x ≡ running_sum stored 16 16 % 65536) (total : y ≡ running_total stored 16 16 % 65536) where
    -- the running sum, after bytes 11 to 0
    pub sum-together : {r : ℕ} → r ≡ (x + running_sum (byte s) 12 12) % 65536 → r ≡ block_sum s % 65536
    sum-together h =
        added-kept _ _ (sum ∙ sum-columns) h
        ∙ kept (omega (arith, first-columns (byte s), running_sum-all (byte s) 12, running_sum-all (byte s) 508))

    -- the total, after bytes 11 to 0 and with sixteen times the totals of the columns
    pub total-together : {z t r : ℕ} → z ≡ (y + x * 12 + running_total (byte s) 12 12) % 65536
        → t ≡ sum_to (column_total s) 16 % 65536 → r ≡ (z + t * 16 % 65536) % 65536 → r ≡ block_total s % 65536
    total-together h k g =
        kept-added _ _ (went_on _ _ _ (sum ∙ sum-columns) (total ∙ total-columns) h) (times-kept _ k) g
        ∙ kept (omega (
          arith,
          second-columns (byte s),
          running_total-all (byte s) 12,
          running_total-all (byte s) 508,
          sum_to-ext (column_total s) (totalled (byte s)) 16 (λ c i. running_total-all (in_column s c) 30),
        ))
