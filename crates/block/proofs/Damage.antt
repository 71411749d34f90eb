-- The check of a block catches one altered byte, at any of its 512 places, and two unequal bytes exchanged among those summed.
--
-- In order: an altered byte; two bytes exchanged. Each is shown of a check that would hold all the same.
-- Assumes nothing.
use mathlib.Core.Path.{◌≡◌, sym, ap, ◌∙◌}
use mathlib.Core.Bool.{true, false}
use mathlib.Core.List.{List}
use Prim.Native.Nat.{ℕ, ◌+◌, ◌*◌, ◌≤◌, ◌<◌}
use native.Mathlib.Omega.{arith}
use lib.ListN.{set}
use Rattle.laws.proofs.Cases.{by_order}
use Rattle.laws.proofs.Altered.{sum_to-set, sum_to-set-past, sum_to-exchange}
use Rattle.block.specs.Bytes.{byte, u16_at}
use Rattle.block.specs.Check.{first_sum, second_sum, check_holds, SoundBlock}
use Rattle.block.proofs.Stored.{check-first, check-second, check-fails, u16_at-set-other, u16_at-set-inj}
use Rattle.block.proofs.Exchange.{Exchanged, exchange-apart}

-- an altered byte that the check misses
module _ (s : List ℕ) (sound : SoundBlock s) (i v : ℕ) (missed : check_holds (set s i v) ≡ true) where
  -- the first sum moves by less than 256, and what is stored stays
  missed-summed : i < 508 → v < 256 → v ≡ byte s i
  unfolding first_sum
  missed-summed l k =
      omega (
        arith,
        sum_to-set (λ j x. x) s 508 i v l (omega (arith, sound.whole)),
        u16_at-set-other s 508 i v (λ e. omega arith) (λ e. omega arith),
        check-first s sound.holds,
        check-first (set s i v) missed,
        sound.bytes i (omega arith),
      )

  -- the first sum stays, and what is stored moves
  missed_first : 508 ≤ i → i < 510 → v ≡ byte s i
  unfolding first_sum
  missed_first l k =
      u16_at-set-inj s 508 i v l k (omega (arith, sound.whole))
      (omega (
        arith,
        sum_to-set-past (λ j x. x) s 508 i v l,
        check-first s sound.holds,
        check-first (set s i v) missed,
      ))

  -- the second sum stays, and what is stored moves
  missed_second : 510 ≤ i → i < 512 → v ≡ byte s i
  unfolding second_sum
  missed_second l k =
      u16_at-set-inj s 510 i v l k (omega (arith, sound.whole))
      (omega (
        arith,
        sum_to-set-past (λ j x. x * (j + 1)) s 508 i v (omega arith),
        check-second s sound.holds,
        check-second (set s i v) missed,
      ))

  -- so it is not altered
  missed-same : i < 512 → v < 256 → v ≡ byte s i
  missed-same l k =
      by_order 508 i
      (λ p. by_order 510 i (λ q. missed_second q l) (λ q. missed_first p q))
      (λ p. missed-summed p k)

-- One altered byte of a sound block is caught, at whichever of the 512 places it stands.
pub altered-byte-caught :
    (s : List ℕ) → SoundBlock s → (i v : ℕ) → i < 512 → v < 256 → (v ≡ byte s i → ⊥) →
    check_holds (set s i v) ≡ false
altered-byte-caught s sound i v l k new =
    check-fails (set s i v) (λ missed. new (missed-same s sound i v missed l k))

-- the block with the bytes at two places exchanged
abbrev pub exchange : List ℕ → ℕ → ℕ → List ℕ
exchange s i j = set (set s i (byte s j)) j (byte s i)

-- an exchange among the bytes that are summed
module _ (s : List ℕ) (sound : SoundBlock s) (i j : ℕ) (li : i < 508) (lj : j < 508) where
  -- the second sum moves
  second-exchanged :
      (j ≡ i → ⊥) → Exchanged (second_sum (exchange s i j)) (second_sum s) (byte s i) (byte s j) i j
  unfolding second_sum
  second-exchanged = sum_to-exchange (λ k x. x * (k + 1)) s 508 i j li lj (omega (arith, sound.whole))

  -- and what is stored stays
  stored-kept : u16_at (exchange s i j) 510 ≡ u16_at s 510
  stored-kept =
      u16_at-set-other (set s i (byte s j)) 510 j (byte s i) (λ e. omega arith) (λ e. omega arith)
      ∙ u16_at-set-other s 510 i (byte s j) (λ e. omega arith) (λ e. omega arith)

  missed-exchange : (byte s i ≡ byte s j → ⊥) → check_holds (exchange s i j) ≡ true → ⊥
  missed-exchange new missed =
      exchange-apart (second_sum (exchange s i j)) (second_sum s) (byte s i) (byte s j) i j
      (sound.bytes i (omega arith))
      (sound.bytes j (omega arith))
      li
      lj
      new
      (λ e. new (ap (byte s) e))
      (second-exchanged (λ e. new (ap (byte s) (sym e))))
      (check-second (exchange s i j) missed ∙ stored-kept ∙ sym (check-second s sound.holds))

-- Two unequal bytes of a sound block that are exchanged among the first 508 are caught.
pub exchange-caught :
    (s : List ℕ) → SoundBlock s → (i j : ℕ) → i < 508 → j < 508 → (byte s i ≡ byte s j → ⊥) →
    check_holds (exchange s i j) ≡ false
exchange-caught s sound i j li lj new =
    check-fails (exchange s i j) (missed-exchange s sound i j li lj new)
