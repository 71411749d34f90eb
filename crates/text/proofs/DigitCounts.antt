-- How many decimal digits a number has: the fewest that hold it, so that `io::decimal` spells its text; and a bound.
-- Assumes nothing.
use mathlib.Core.Path.{◌≡◌, refl, ap}
use mathlib.Core.List.{List}
use Prim.Native.Nat.{ℕ, zero, suc, ◌/◌, ◌^◌, ◌≤◌, ◌<◌, suc-le-suc}
use native.Mathlib.Nat.{pow-suc, one-le-pow, le_refl}
use native.Mathlib.Numerals.{sub-one}
use native.Mathlib.Omega.{arith}
use borrow.Author.Tests.{lt-ltb, le-ltb}
use Rattle.laws.proofs.Cases.{by_order}
use Rattle.io.specs.Digits.{last_digits, IsDigitCount}
use Rattle.text.specs.Number.{digit_count, number_text}

-- what several digits hold has a place for each
fewest-low : (n k : ℕ) → IsDigitCount 10 1 n (suc (suc k)) → 10 ^ suc k ≤ n
fewest-low n k f = rw sub-one at (f.2 (omega arith))

-- a number of several digits is no less than 10
fewest-ten : (n k : ℕ) → IsDigitCount 10 1 n (suc (suc k)) → 10 ≤ n
fewest-ten n k f = omega (arith, fewest-low n k f, pow-suc 10 k, one-le-pow k 10 (omega arith))

-- a tenth of it has one digit less
fewest-tenth : (n k : ℕ) → IsDigitCount 10 1 n (suc (suc k)) → IsDigitCount 10 1 (n / 10) (suc k)
fewest-tenth n zero f = (omega arith, omega (arith, f.1, pow-suc 10 1), λ l. absurd (omega arith))
fewest-tenth n (suc k) f = (
  omega arith,
  omega (arith, f.1, pow-suc 10 (suc (suc k))),
  λ l. rw sub-one (omega (arith, fewest-low n (suc k) f, pow-suc 10 (suc k))),
)

-- the fewest digits that hold a number are as many as `digit_count` says
fewest-is : (k n r : ℕ) → n < 10 ^ suc k → IsDigitCount 10 1 n r → r ≡ digit_count k n
unfolding digit_count
fewest-is k n zero h f = absurd (omega arith)
fewest-is zero n (suc zero) h f = refl
fewest-is zero n (suc (suc r)) h f = absurd (omega (arith, fewest-ten n r f))
fewest-is (suc k) n (suc zero) h f = rw (lt-ltb n 10 f.1)
fewest-is (suc k) n (suc (suc r)) h f =
    rw (le-ltb n 10 (fewest-ten n r f))
    (ap suc (fewest-is k (n / 10) (suc r) (omega (arith, pow-suc 10 (suc k))) (fewest-tenth n r f)))

-- the digits that `io::decimal` spells are the number's text
pub decimal-text :
    (n r : ℕ) {spelled : List ℕ} → n < 2 ^ 64 → IsDigitCount 10 1 n r → spelled ≡ last_digits 10 r n → spelled ≡ number_text n
unfolding number_text
decimal-text n r h f e = rw (← fewest-is 19 n r (omega arith) f) e

-- a number below 10 ^ (p + 1) has p + 1 digits at most
pub digit_count-most : (k p n : ℕ) → n < 10 ^ suc p → digit_count k n ≤ suc p
unfolding digit_count
digit_count-most zero p n h = omega arith
digit_count-most (suc k) zero n h = rw (lt-ltb n 10 h) (le_refl 1)
digit_count-most (suc k) (suc p) n h =
    by_order 10 n
    (λ l. rw (le-ltb n 10 l) (suc-le-suc (digit_count-most k p (n / 10) (omega (arith, pow-suc 10 (suc p))))))
    (λ l. rw (lt-ltb n 10 l) (omega arith))
