-- What a loop that adds one summand a turn shows of its sum: where it begins, and after one more turn.
-- Assumes nothing.
use mathlib.Core.Path.{◌≡◌, sym, ap, ap₂, ◌∙◌}
use Prim.Native.Nat.{ℕ, suc, ◌+◌, ◌%◌}
use native.Mathlib.Nat.{mod-add-mod, mod-eq_of_lt, zero-lt-suc}
use native.Mathlib.Numerals.{add-one}
use Rattle.laws.specs.Sum.{sum_to}
use Rattle.laws.proofs.Sums.{sum_to-zero, sum_to-suc}

pub added_none : (f : ℕ → ℕ) → 0 ≡ sum_to f 0
added_none f = sym (sum_to-zero f)

pub added_more : (f : ℕ → ℕ) (n : ℕ) {sum v : ℕ} → sum ≡ sum_to f n → v ≡ f n → sum + v ≡ sum_to f (n + 1)
added_more f n e h = rw (add-one, sum_to-suc) (ap₂ ◌+◌ e h)

-- the same of a sum that is kept modulo m
pub kept-none : (f : ℕ → ℕ) (m : ℕ) → 0 ≡ sum_to f 0 % suc m
kept-none f m = sym (ap (λ (s : ℕ). s % suc m) (sum_to-zero f) ∙ mod-eq_of_lt (zero-lt-suc m))

pub kept_more : (f : ℕ → ℕ) (m n : ℕ) {sum v r : ℕ} → sum ≡ sum_to f n % m → v ≡ f n → r ≡ (sum + v) % m
    → r ≡ sum_to f (n + 1) % m
kept_more f m n {sum} {v} {r} e h g =
    g ∙ ap₂ (λ (s w : ℕ). (s + w) % m) e h ∙ mod-add-mod (sum_to f n) m (f n) ∙ ap (λ (s : ℕ). s % m) (sym (rw (add-one, sum_to-suc)))

-- where the loop ends, after n turns
pub kept-all : (f : ℕ → ℕ) (m : ℕ) {i n r : ℕ} → r ≡ sum_to f i % m → i ≡ n → r ≡ sum_to f n % m
kept-all f m e h = rw h at e
