-- A running sum and a total that are kept modulo 65,536, as the code keeps them.
--
-- In order: sums of numbers that are kept so; what both are after some steps, where they began, and after one step more; all
-- steps, from nothing; values that are themselves kept so.
-- Assumes nothing.
use mathlib.Core.Path.{◌≡◌, sym, ap, ◌∙◌}
use Prim.Native.Nat.{ℕ, zero, suc, ◌+◌, ◌*◌, ◌-◌, ◌%◌, ◌≤◌, ◌<◌}
use native.Mathlib.Nat.{mul-suc, mul-zero}
use native.Mathlib.Numerals.{add-one}
use native.Mathlib.Omega.{arith}
use Rattle.block.specs.Running.{running_sum, running_total}
use Rattle.block.proofs.Steps.{running_sum-none, running_sum-more, running_total-none, running_total-more}

-- sums that agree modulo 65,536
added-alike : (a b c d : ℕ) → a % 65536 ≡ b % 65536 → c % 65536 ≡ d % 65536 → (a + c) % 65536 ≡ (b + d) % 65536
added-alike a b c d e h = omega arith

-- equal numbers are kept alike
pub kept : {a b : ℕ} → a ≡ b → a % 65536 ≡ b % 65536
kept e = ap (λ (x : ℕ). x % 65536) e

-- what is kept already stays
kept-twice : (a : ℕ) {x : ℕ} → x ≡ a % 65536 → x % 65536 ≡ a % 65536
kept-twice a e = omega arith

-- a sum of two that are kept modulo 65,536
pub kept-added : (a b : ℕ) {x y z : ℕ} → x ≡ a % 65536 → y ≡ b % 65536 → z ≡ (x + y) % 65536 → z ≡ (a + b) % 65536
kept-added a b e f h = omega arith

-- a sum of one that is kept and one that is not
pub added-kept : (a v : ℕ) {x y : ℕ} → x ≡ a % 65536 → y ≡ (x + v) % 65536 → y ≡ (a + v) % 65536
added-kept a v e h = omega arith

-- the running sum and the total after some steps, where they were `first` and `before`
pub record Board (f : ℕ → ℕ) (n first before steps x y : ℕ) : Type 0 where
  -- each value is in the running sum
  pub sum : x ≡ (first + running_sum f n steps) % 65536
  -- and what the running sum was at first came into the total at each step
  pub total : y ≡ (before + first * steps + running_total f n steps) % 65536

module _ (f : ℕ → ℕ) (n first before : ℕ) where
  -- where they begin
  pub board-none : first < 65536 → before < 65536 → Board f n first before 0 first before
  board-none l m =
      record { sum = omega (arith, running_sum-none f n); total = omega (arith, running_total-none f n, mul-zero first) }

  -- a step adds the next value into the running sum, and the running sum into the total
  board-more : (k : ℕ) {x y v x' y' : ℕ} → Board f n first before k x y → v ≡ f (n - suc k)
      → x' ≡ (x + v) % 65536 → y' ≡ (y + x') % 65536 → Board f n first before (k + 1) x' y'
  board-more k {x} {y} {v} {x'} {y'} b next e h =
      let r : ℕ = first + running_sum f n (suc k) in
      let t : ℕ = before + first * k + running_total f n k in
      let grown : first + running_sum f n k + v ≡ r = omega (arith, running_sum-more f n k) in
      let sum : x' ≡ r % 65536 = added-kept (first + running_sum f n k) v b.sum e ∙ kept grown in
      let total : y' ≡ (t + r) % 65536 = kept-added t r b.total sum h in
      rw (add-one k)
      (record {
        sum = sum;
        total = total ∙ kept (omega (arith, running_total-more f n k, mul-suc first k));
      })

  -- a step as the code makes it, which counts the places that are left
  pub board-next : (i : ℕ) {x y v x' y' : ℕ} → 0 < i → i ≤ n → Board f n first before (n - i) x y → v ≡ f (i - 1)
      → x' ≡ (x + v) % 65536 → y' ≡ (y + x') % 65536 → Board f n first before (n - (i - 1)) x' y'
  board-next i {x} {y} {v} {x'} {y'} some l b next e h =
      let place : i - 1 ≡ n - suc (n - i) = omega arith in
      let more : n - i + 1 ≡ n - (i - 1) = omega arith in
      rw more at (board-more (n - i) b (next ∙ ap f place) e h)

-- after all steps from nothing
module _ (f : ℕ → ℕ) (n : ℕ) {i x y : ℕ} (b : Board f n 0 0 (n - i) x y) (e : i ≡ 0) where
  pub board-sum : x ≡ running_sum f n n % 65536
  board-sum = let all : n - i ≡ n = omega arith in omega (arith, b.sum, ap (running_sum f n) all)

  pub board-total : y ≡ running_total f n n % 65536
  board-total = let all : n - i ≡ n = omega arith in omega (arith, b.total, ap (running_total f n) all)

-- values that are kept modulo 65,536 leave both as they are, modulo 65,536
module _ (f g : ℕ → ℕ) (n : ℕ) (same : (i : ℕ) → i < n → f i ≡ g i % 65536) where
  pub running_sum-kept : (k : ℕ) → k ≤ n → running_sum f n k % 65536 ≡ running_sum g n k % 65536
  running_sum-kept zero l = kept (running_sum-none f n ∙ sym (running_sum-none g n))
  running_sum-kept (suc k) l =
      let i : ℕ = n - suc k in
      kept (running_sum-more f n k)
      ∙ added-alike _ _ (f i) (g i) (running_sum-kept k (omega arith)) (kept-twice (g i) (same i (omega arith)))
      ∙ kept (sym (running_sum-more g n k))

  pub running_total-kept : (k : ℕ) → k ≤ n → running_total f n k % 65536 ≡ running_total g n k % 65536
  running_total-kept zero l = kept (running_total-none f n ∙ sym (running_total-none g n))
  running_total-kept (suc k) l =
      kept (running_total-more f n k)
      ∙ added-alike _ _ _ _ (running_total-kept k (omega arith)) (running_sum-kept (suc k) l)
      ∙ kept (sym (running_total-more g n k))
