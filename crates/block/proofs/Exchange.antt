-- Two unequal bytes exchanged move the sum of bytes times positions, and not by a multiple of 65,536.
--
-- In order: how far the sum moves; it is never 65,536; so the two sums differ modulo 65,536, where the smaller byte stands
-- first, where the bytes are ordered, and in any case.
-- Assumes nothing.
use mathlib.Core.Path.{◌≡◌, refl, sym, ap, ◌∙◌}
use mathlib.Core.Bool.{Bool, true, false, not, ◌&&◌, true≢false}
use Prim.Native.Nat.{ℕ, zero, suc, ◌+◌, ◌*◌, ◌-◌, ◌/◌, ◌%◌, ◌≤◌, ◌<◌}
use native.Mathlib.Nat.{mul-add, add-mul, add-sub_of_le, mul-pos, mul-le-mul, mul-div_cancel_left}
use native.Mathlib.Omega.{arith}
use lib.Dec.{eqb, leb}
use borrow.Author.Tests.{le-leb}
use Rattle.laws.specs.Sum.{every}
use Rattle.laws.proofs.Cases.{by_order}
use Rattle.laws.proofs.Everys.{every-at}

-- the larger byte at the larger position, over the other way round: the product of both differences
gap : (a e p d : ℕ) → a * p + (a + e) * (p + d) ≡ (a + e) * p + a * (p + d) + e * d
gap a e p d = omega (arith, mul-add (a + e) p d, mul-add a p d, add-mul a e d)

gap_of : (a b p q : ℕ) → a ≤ b → p ≤ q → a * p + b * q ≡ b * p + a * q + (b - a) * (q - p)
gap_of a b p q l k = rw (add-sub_of_le l, add-sub_of_le k) at (gap a (b - a) p (q - p))

-- e does not divide 65,536, or leaves more than 507
far : ℕ → Bool
far e = not (eqb (e * (65536 / e)) 65536 && leb (65536 / e) 507)

-- one computed test over all differences of two bytes
far-all : every far 256 ≡ true
unfolding every far
far-all = refl

-- so no difference of two bytes times a distance is 65,536
product-never : (e d : ℕ) → e < 256 → d < 508 → e * d ≡ 65536 → ⊥
unfolding far
product-never zero d l k q = omega arith
product-never (suc e) d l k q =
    let quotient : 65536 / suc e ≡ d = ap (λ (n : ℕ). n / suc e) (sym q) ∙ mul-div_cancel_left d (omega arith) in
    let near : leb d 507 ≡ true = le-leb d 507 (omega arith) in
    let fails : far (suc e) ≡ false = rw (quotient, q, near) in
    true≢false (sym (every-at far 256 (suc e) far-all l) ∙ fails)

-- numbers that differ by less than 131,072 agree modulo 65,536 only where they differ by 65,536
apart : (x y m : ℕ) → 0 < m → m < 131072 → (m ≡ 65536 → ⊥) → x + m ≡ y → x % 65536 ≡ y % 65536 → ⊥
apart x y m l k never e same = never (omega arith)

-- the sum y, where a stands at place i and b at place j, and the sum x once they are exchanged
abbrev pub Exchanged : ℕ → ℕ → ℕ → ℕ → ℕ → ℕ → Type 0
Exchanged x y a b i j = x + (a * (i + 1) + b * (j + 1)) ≡ y + (b * (i + 1) + a * (j + 1))

-- the smaller byte stands first
ordered-apart :
    (x y a b i j : ℕ) → a < b → b < 256 → i < j → j < 508 → Exchanged x y a b i j → x % 65536 ≡ y % 65536 → ⊥
ordered-apart x y a b i j l m k n e =
    let d : ℕ = j + 1 - (i + 1) in
    let most : (b - a) * d ≤ 129285 = mul-le-mul {n₂ = 255} {m₂ = 507} (omega arith) (omega arith) in
    apart x y ((b - a) * d)
    (mul-pos (omega arith) (omega arith))
    (omega arith)
    (product-never (b - a) d (omega arith) (omega arith))
    (omega (arith, gap_of a b (i + 1) (j + 1) (omega arith) (omega arith)))

-- the smaller byte stands first or second
smaller-apart :
    (x y a b i j : ℕ) → a < b → b < 256 → i < 508 → j < 508 → (i ≡ j → ⊥) →
    Exchanged x y a b i j → x % 65536 ≡ y % 65536 → ⊥
smaller-apart x y a b i j l m li lj other e same =
    by_order j i
    (λ k. ordered-apart y x a b j i l m (omega arith) li (omega arith) (sym same))
    (λ k. ordered-apart x y a b i j l m k lj e same)

-- Sums that differ by an exchange of two unequal bytes differ modulo 65,536.
pub exchange-apart :
    (x y a b i j : ℕ) → a < 256 → b < 256 → i < 508 → j < 508 → (a ≡ b → ⊥) → (i ≡ j → ⊥) →
    Exchanged x y a b i j → x % 65536 ≡ y % 65536 → ⊥
exchange-apart x y a b i j la lb li lj new other e same =
    by_order b a
    (λ h. smaller-apart y x b a i j (omega arith) la li lj other (omega arith) (sym same))
    (λ h. smaller-apart x y a b i j h lb li lj other e same)
