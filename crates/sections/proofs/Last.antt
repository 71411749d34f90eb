-- The last four bytes of a used place, where the rule admits marks alone, or marks and any step: the bytes that it bounds are,
-- as one number, at most the highest marks.
--
-- In order: tests that imply each other; what the rule says of each byte, and a number that says it; that number in both cases.
-- Assumes nothing.
use mathlib.Core.Path.{◌≡◌, refl, sym}
use mathlib.Core.Bool.{Bool, true, false, ◌&&◌}
use mathlib.Core.List.{List}
use Prim.Native.Nat.{ℕ, ◌+◌, ◌*◌, ◌/◌, ◌%◌, ◌≤◌, ◌<◌}
use native.Mathlib.Omega.{arith}
use lib.Dec.{eqb, leb}
use borrow.Author.Tests.{le-leb, leb-true, eq-eqb, eqb-true}
use Rattle.laws.proofs.Cases.{and-true, and_left, and_right}
use Rattle.block.specs.Bytes.{byte, u16_at, u32_at}
use Rattle.sections.specs.Section.{last_holds}
use Rattle.sections.specs.declared.section.LastBytes.{LastBytes}

pub same_test : (s t : Bool) → (s ≡ true → t ≡ true) → (t ≡ true → s ≡ true) → s ≡ t
same_test true t f g = sym (f refl)
same_test false true f g = g refl
same_test false false f g = refl

-- the last four bytes of a place follow the rule, each by itself
record LastHeld (last : LastBytes) (p : List ℕ) : Type 0 where
  pub marks : byte p 28 ≤ last.marks
  pub step : byte p 29 ≤ last.step
  pub lowest : last.lowest ≤ byte p 30
  pub highest : byte p 30 ≤ last.highest
  pub zero : byte p 31 ≡ 0

module _ (last : LastBytes) (p : List ℕ) where
  last-held : last_holds last p ≡ true → LastHeld last p
  unfolding last_holds
  last-held e =
      let marks : Bool = leb (byte p 28) last.marks in
      let step : Bool = leb (byte p 29) last.step in
      let lowest : Bool = leb last.lowest (byte p 30) in
      let highest : Bool = leb (byte p 30) last.highest in
      let from_step : step && (lowest && (highest && eqb (byte p 31) 0)) ≡ true = and_right marks _ e in
      let from_Lowest = and_right step _ from_step in
      let from-highest = and_right lowest _ from_Lowest in
      record {
        marks = leb-true _ _ (and_left marks _ e);
        step = leb-true _ _ (and_left step _ from_step);
        lowest = leb-true _ _ (and_left lowest _ from_Lowest);
        highest = leb-true _ _ (and_left highest _ from-highest);
        zero = eqb-true _ _ (and_right highest _ from-highest);
      }

  held-last : LastHeld last p → last_holds last p ≡ true
  unfolding last_holds
  held-last h =
      and-true _ _ (le-leb _ _ h.marks)
      (and-true _ _ (le-leb _ _ h.step)
      (and-true _ _ (le-leb _ _ h.lowest) (and-true _ _ (le-leb _ _ h.highest) (eq-eqb _ _ h.zero))))

  -- a number that is at most the highest marks where the bytes follow the rule, and only there
  by_number : (n : ℕ) → (LastHeld last p → n ≤ last.marks) → (n ≤ last.marks → LastHeld last p)
      → last_holds last p ≡ leb n last.marks
  by_number n f g =
      same_test (last_holds last p) (leb n last.marks)
      (λ e. le-leb n last.marks (f (last-held e)))
      (λ e. held-last (g (leb-true n last.marks e)))

  -- where the rule admits marks alone, the four bytes as one number
  pub last-holds-alone : last.marks < 256 → last.step + last.lowest + last.highest ≡ 0
      → last_holds last p ≡ leb (u32_at p 28) last.marks
  unfolding u32_at u16_at
  last-holds-alone small alone =
      by_number (byte p 28 + byte p 29 * 256 + (byte p 30 + byte p 31 * 256) * 65536)
      (λ h. omega arith)
      (λ l. record {
        marks = omega arith;
        step = omega arith;
        lowest = omega arith;
        highest = omega arith;
        zero = omega arith;
      })

  -- where it admits marks and any step alone, the same number without the step's byte
  pub last-holds-stepped : last.marks < 256 → last.step ≡ 255 + last.lowest + last.highest → last.step < 256
      → byte p 28 < 256 → byte p 29 < 256
      → last_holds last p ≡ leb (u32_at p 28 % 256 + u32_at p 28 / 65536 * 65536) last.marks
  unfolding u32_at u16_at
  last-holds-stepped small any width at-28 at-29 =
      let number : ℕ = byte p 28 + byte p 29 * 256 + (byte p 30 + byte p 31 * 256) * 65536 in
      by_number (number % 256 + number / 65536 * 65536)
      (λ h. omega arith)
      (λ l. record {
        marks = omega arith;
        step = omega arith;
        lowest = omega arith;
        highest = omega arith;
        zero = omega arith;
      })
