-- Numbers as text: how long each is, and a number with a point that is put part by part.
-- Assumes nothing.
use mathlib.Core.Path.{◌≡◌, refl, ◌∙◌}
use mathlib.Core.List.{List, [], ◌∷◌, ◌++◌}
use Prim.Native.Nat.{ℕ, zero, suc, ◌/◌, ◌%◌, ◌^◌, ◌≤◌, ◌<◌}
use native.Mathlib.Nat.{mod-lt, one-le-pow, div-le_self, mod-le}
use native.Mathlib.Omega.{arith}
use lib.ListN.{length, take, length-append}
use lib.Seq.{append_snoc}
use Rattle.io.specs.Digits.{last_digits}
use Rattle.text.specs.Put.{Written, right_text}
use Rattle.text.specs.Number.{digit_count, number_text, rest_text}
use Rattle.text.specs.inner.Number.{decimal_text}
use Rattle.text.proofs.DigitCounts.{digit_count-most}
use Rattle.text.proofs.Puts.{written-append, written-taken}
use Rattle.text.proofs.Fills.{length-right}

length_digits : (b k n : ℕ) → length (last_digits b k n) ≡ k
length_digits b zero n = refl
length_digits b (suc k) n = length-append (last_digits b k (n / b)) _ ∙ omega (arith, length_digits b k (n / b))

-- a number below 10 ^ (p + 1) has p + 1 digits at most
pub length-number : (p n : ℕ) → n < 10 ^ suc p → length (number_text n) ≤ suc p
unfolding number_text
length-number p n h = rw (length_digits 10 (digit_count 19 n) n) (digit_count-most 19 p n h)

-- behind the point stand as many digits as there are places, where there are any
pub length_rest : (places n : ℕ) → 0 < places → length (rest_text places n) ≡ places
length_rest zero n h = absurd (omega arith)
length_rest (suc p) n h =
    let less : n % 10 ^ suc p < 10 ^ suc p = mod-lt n (one-le-pow (suc p) 10 (omega arith)) in
    omega (arith, length-right (suc p) 48 (number_text (n % 10 ^ suc p)), length-number p (n % 10 ^ suc p) less)

length-rest-most : (places n : ℕ) → places ≤ 19 → n < 2 ^ 64 → length (right_text places 48 (number_text n)) ≤ 20
length-rest-most places n few small =
    omega (arith, length-right places 48 (number_text n), length-number 19 n (omega arith))

-- the text comes of its parts, put one behind the other at the start of 41 bytes
pub decimal-parts : (places n unit : ℕ) (out : List ℕ) {a b c : List ℕ} {i j k : ℕ} → places ≤ 19 → n < 2 ^ 64
    → unit ≡ 10 ^ places → 41 ≤ length out → Written out 0 (number_text (n / unit)) a i → Written a i (46 ∷ []) b j
    → Written b j (right_text places 48 (number_text (n % unit))) c k → take k c ≡ decimal_text places n
unfolding decimal_text
decimal-parts places n unit out few small e long u v w =
    let whole : List ℕ = number_text (n / unit) in
    let rest : List ℕ = right_text places 48 (number_text (n % unit)) in
    let wholes : length whole ≤ 20 = length-number 19 (n / unit) (omega (arith, div-le_self n unit)) in
    let rests : length rest ≤ 20 = length-rest-most places (n % unit) few (omega (arith, mod-le n unit)) in
    let pointed = length-append whole (46 ∷ []) in
    let front = written-append out 0 whole (46 ∷ []) (omega arith) u v in
    let all = written-append out 0 (whole ++ (46 ∷ [])) rest (omega arith) front w in
    let fits : length (whole ++ (46 ∷ []) ++ rest) ≤ length out = omega (arith, length-append (whole ++ (46 ∷ [])) rest) in
    rw (← e) (written-taken out (whole ++ (46 ∷ []) ++ rest) fits all ∙ append_snoc whole 46 rest)
