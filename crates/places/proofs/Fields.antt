-- What a run of puts makes, field by field.
--
-- In order: a run; numbers by their bytes, and marks; a place; a row.
-- Assumes nothing.
use mathlib.Core.Path.{◌≡◌, refl, sym, ap, ap₂, ◌∙◌}
use mathlib.Core.Bool.{Bool, true, false, cond}
use mathlib.Core.List.{List, ◌∷◌, ◌++◌, append_assoc}
use Prim.Native.Nat.{ℕ, ◌+◌, ◌*◌, ◌/◌, ◌%◌, ◌^◌, ◌≤◌, ◌<◌}
use native.Mathlib.Nat.{div-div-eq-div-mul}
use native.Mathlib.Omega.{arith}
use lib.Dec.{eqb, leb}
use lib.ListN.{length, length-append}
use borrow.Author.Tests.{leb-true}
use Rattle.laws.proofs.Cases.{cond-true, cond-false, and_right}
use Rattle.values.specs.declared.Value.{Value}
use Rattle.values.specs.declared.Value.TheVariants.{Given, Missing}
use Rattle.values.specs.declared.place.Offer.{Offer}
use Rattle.limits.specs.Parameters.{within}
use Rattle.limits.specs.Offers.{step_within}
use Rattle.std.specs.Int.{w16, w32, w64, to_le_bytes}
use Rattle.encoding.specs.Numbers.{u16_bytes, u32_bytes, u64_bytes, value_bytes, zeros, mark_of}
use Rattle.encoding.specs.Encode.{place_marks, step_byte, place_bytes}
use Rattle.encoding.proofs.Halves.{u16_bytes-kept}
use Rattle.encoding.proofs.Values.{written, value_bytes-written}
use Rattle.places.specs.inner.Put.{put, weighed}
use Rattle.places.specs.inner.Rows.{put_row}
use Rattle.places.proofs.Puts.{put_next}

-- ---- a run

-- what stands from a place on, and how long it is
pub record Run (b : List ℕ) (at : ℕ) (s : List ℕ) (k : ℕ) (c : List ℕ) : Type 0 where
  pub made : c ≡ put b at s
  pub long : length s ≡ k

-- one put more, right behind it
pub run_on : (b : List ℕ) (at : ℕ) (t : List ℕ) (m : ℕ) {s c d : List ℕ} {k : ℕ} → Run b at s k c → at + k ≤ length b → length t ≡ m
    → d ≡ put c (at + k) t → Run b at (s ++ t) (k + m) d
run_on b at t m {s} {c} {d} {k} r h e next =
    record { made = put_next b at s t k r.long h r.made next; long = length-append s t ∙ ap₂ ◌+◌ r.long e }

pub length-u16 : (n : ℕ) → length (u16_bytes n) ≡ 2
unfolding u16_bytes
length-u16 n = refl

pub length-u32 : (n : ℕ) → length (u32_bytes n) ≡ 4
unfolding u32_bytes u16_bytes
length-u32 n = refl

pub length-u64 : (n : ℕ) → length (u64_bytes n) ≡ 8
unfolding u64_bytes u32_bytes u16_bytes
length-u64 n = refl

pub length-value : (v : Value) → length (value_bytes v) ≡ 4
length-value v = ap length (value_bytes-written v) ∙ length-u32 (written v)

-- ---- numbers

-- the bytes of a number, as `to_le_bytes` gives them
pub bytes-u16 : (n : ℕ) → to_le_bytes w16 (n % 65536) ≡ u16_bytes n
unfolding u16_bytes
bytes-u16 n = u16_bytes-kept n

pub bytes-u32 : (n : ℕ) → to_le_bytes w32 n ≡ u32_bytes n
unfolding u32_bytes u16_bytes
bytes-u32 n = simp div-div-eq-div-mul

pub bytes-u64 : (n : ℕ) → to_le_bytes w64 n ≡ u64_bytes n
unfolding u64_bytes u32_bytes u16_bytes
bytes-u64 n = simp div-div-eq-div-mul

-- the marks of a place
pub weighed-bit : (bit : ℕ) (v : Value) → weighed (2 ^ bit) v ≡ mark_of bit v
weighed-bit bit (Given number) = refl
weighed-bit bit Missing = refl

pub place-marks : (o : Offer) {x y : ℕ} → x ≡ weighed 1 o.price → y ≡ weighed 2 o.block → x + y ≡ place_marks o
place-marks o e f = ap₂ ◌+◌ (e ∙ weighed-bit 0 o.price) (f ∙ weighed-bit 1 o.block)

-- two bytes as a number of 32 bits
two-bytes : (m n : ℕ) → m < 256 → n < 256 → u32_bytes (m + n * 256) ≡ m ∷ n ∷ zeros 2
unfolding u32_bytes u16_bytes zeros
two-bytes m n l k =
    let a : (m + n * 256) % 256 ≡ m = omega arith in
    let up : (m + n * 256) / 256 ≡ n = omega arith in
    let b : (m + n * 256) / 256 % 256 ≡ n = rw up (omega arith) in
    let c : (m + n * 256) / 65536 % 256 ≡ 0 = omega arith in
    let d : (m + n * 256) / 65536 / 256 % 256 ≡ 0 = omega arith in
    rw (a, b, c, d)

-- ---- a place

seven : (a b c d e f g : List ℕ)
    → a ++ (b ++ (c ++ (d ++ (e ++ (f ++ g))))) ≡ (((((a ++ b) ++ c) ++ d) ++ e) ++ f) ++ g
seven a b c d e f g = simp append_assoc

pub put-place : (b : List ℕ) (at edition : ℕ) (o : Offer) (marks step : ℕ) {c₁ c₂ c₃ c₄ c₅ c₆ c₇ : List ℕ} → at + 32 ≤ length b
    → marks ≡ place_marks o → marks ≤ 3 → step ≡ step_byte edition o.step → step < 256
    → c₁ ≡ put b at (u32_bytes o.resource)
    → c₂ ≡ put c₁ (at + 4) (u32_bytes o.seller)
    → c₃ ≡ put c₂ (at + 8) (value_bytes o.price)
    → c₄ ≡ put c₃ (at + 12) (u32_bytes o.quantity)
    → c₅ ≡ put c₄ (at + 16) (value_bytes o.block)
    → c₆ ≡ put c₅ (at + 20) (u64_bytes o.stamp)
    → c₇ ≡ put c₆ (at + 28) (u32_bytes (marks + step * 256))
    → c₇ ≡ put b at (place_bytes edition o)
unfolding place_bytes
put-place b at edition o marks step h e most f small e₁ e₂ e₃ e₄ e₅ e₆ e₇ =
    let r₁ : Run b at _ 4 _ = record { made = e₁; long = length-u32 o.resource } in
    let r₂ : Run b at _ 8 _ = run_on b at (u32_bytes o.seller) 4 r₁ (omega arith) (length-u32 o.seller) e₂ in
    let r₃ : Run b at _ 12 _ = run_on b at (value_bytes o.price) 4 r₂ (omega arith) (length-value o.price) e₃ in
    let r₄ : Run b at _ 16 _ = run_on b at (u32_bytes o.quantity) 4 r₃ (omega arith) (length-u32 o.quantity) e₄ in
    let r₅ : Run b at _ 20 _ = run_on b at (value_bytes o.block) 4 r₄ (omega arith) (length-value o.block) e₅ in
    let r₆ : Run b at _ 28 _ = run_on b at (u64_bytes o.stamp) 8 r₅ (omega arith) (length-u64 o.stamp) e₆ in
    let last : u32_bytes (marks + step * 256) ≡ place_marks o ∷ step_byte edition o.step ∷ zeros 2 =
    two-bytes marks step (omega arith) small ∙ ap₂ (λ (m n : ℕ). m ∷ n ∷ zeros 2) e f in
    (run_on b at (u32_bytes (marks + step * 256)) 4 r₆ (omega arith) (length-u32 (marks + step * 256)) e₇).made
    ∙ ap (put b at)
    (sym (seven (u32_bytes o.resource) (u32_bytes o.seller) (value_bytes o.price) (u32_bytes o.quantity) (value_bytes o.block)
    (u64_bytes o.stamp) (u32_bytes (marks + step * 256)))
    ∙ ap (λ (s : List ℕ). u32_bytes o.resource ++ (u32_bytes o.seller ++ (value_bytes o.price ++ (u32_bytes o.quantity
    ++ (value_bytes o.block ++ (u64_bytes o.stamp ++ s)))))) last)

-- ---- a row

-- a step that the edition has is a byte
pub step_small : (edition step : ℕ) → step_within edition step ≡ true → step_byte edition step < 256
step_small edition step = own (eqb edition 1)
  where
    own : (t : Bool) → cond t (eqb step 1) (within 1 10 step) ≡ true → cond t 0 step < 256
    own true e = omega arith
    own false e = omega (arith, leb-true step 10 (and_right (leb 1 step) _ e))

module _ (b : List ℕ) (edition i : ℕ) (o : Offer) where
  pub row-left : step_within edition o.step ≡ false → b ≡ put_row b edition i o
  unfolding put_row
  row-left e = sym (cond-false _ _ b e)

  -- a block is 16 places long, of which the first 28 bytes and the last 4 hold no row
  pub row_put : {c : List ℕ} → step_within edition o.step ≡ true
      → c ≡ put b (540 + (i + i / 15) * 32) (place_bytes edition o) → c ≡ put_row b edition i o
  unfolding put_row
  row_put e f =
      let at : 540 + (i + i / 15) * 32 ≡ (1 + i / 15) * 512 + (28 + i % 15 * 32) = omega arith in
      f ∙ ap (λ (at : ℕ). put b at (place_bytes edition o)) at ∙ sym (cond-true _ _ b e)
