-- Block 0 as it is written: its numbers and its marks.
--
-- In order: the block as numbers, up to its zeros; its length; the sealed block; each bit of its marks.
-- Assumes nothing.
use mathlib.Core.Path.{◌≡◌, ap, ◌∙◌}
use mathlib.Core.List.{List, [], ◌∷◌, ◌++◌, append_assoc}
use Prim.Native.Nat.{ℕ, ◌+◌, ◌*◌, ◌/◌, ◌%◌, ◌^◌, ◌≤◌, ◌<◌}
use native.Mathlib.Omega.{arith}
use lib.ListN.{length, length-append}
use Rattle.block.specs.Bytes.{byte}
use Rattle.values.specs.declared.head.Parameters.{Parameters}
use Rattle.layout.specs.Layout.{rpmb}
use Rattle.encoding.specs.Numbers.{u16_bytes, u32_bytes, zeros}
use Rattle.encoding.specs.Encode.{head_marks, head_bytes, sealed}
use Rattle.encoding.proofs.Digits.{length-zeros}
use Rattle.encoding.proofs.Values.{written, mark, value_bytes-written, mark-most, mark_of-mark}
use Rattle.encoding.proofs.Sealed.{seal}

module _ (edition : ℕ) (p : Parameters) (offers : ℕ) where
  -- the block as far as its zeros, a value as its number
  abbrev pub head_numbers : List ℕ
  head_numbers =
      rpmb
      ++ (u16_bytes edition
      ++ (u16_bytes p.year
      ++ (u32_bytes (written p.cost)
      ++ (u32_bytes (written p.offset)
      ++ (u32_bytes (written p.outage)
      ++ (u32_bytes (written p.requirement)
      ++ (u16_bytes offers
      ++ ((head_marks p ∷ 0 ∷ [])
      ++ u32_bytes (written p.margin)))))))))

  head-numbers : head_bytes edition p offers ≡ head_numbers ++ zeros 476
  unfolding head_bytes u32_bytes u16_bytes
  head-numbers =
      rw (
        value_bytes-written p.cost,
        value_bytes-written p.offset,
        value_bytes-written p.outage,
        value_bytes-written p.requirement,
        value_bytes-written p.margin,
      )

  pub length-head : length (head_bytes edition p offers) ≡ 508
  unfolding u32_bytes u16_bytes
  length-head = ap length head-numbers ∙ length-append head_numbers (zeros 476) ∙ ap (λ (n : ℕ). 32 + n) (length-zeros 476)

  -- the sealed block: its numbers, and behind them zeros and the sums
  abbrev pub head_block : List ℕ
  head_block = sealed (head_bytes edition p offers)

  abbrev pub head_rest : List ℕ
  head_rest = zeros 476 ++ seal (head_bytes edition p offers)

  pub head_opened : head_block ≡ head_numbers ++ head_rest
  unfolding sealed
  head_opened =
      ap (λ (s : List ℕ). s ++ seal (head_bytes edition p offers)) head-numbers
      ∙ append_assoc head_numbers (zeros 476) (seal (head_bytes edition p offers))

  marks-at : byte head_block 26
      ≡ mark p.cost + mark p.offset * 2 + mark p.outage * 4 + mark p.requirement * 8 + mark p.margin * 16
  unfolding u32_bytes u16_bytes
  marks-at =
      ap (λ (s : List ℕ). byte s 26) head_opened
      ∙ omega (
        arith,
        mark_of-mark 0 p.cost,
        mark_of-mark 1 p.offset,
        mark_of-mark 2 p.outage,
        mark_of-mark 3 p.requirement,
        mark_of-mark 4 p.margin,
      )

  marks-most : (mark p.cost ≤ 1) × (mark p.offset ≤ 1) × (mark p.outage ≤ 1) × (mark p.requirement ≤ 1)
      × (mark p.margin ≤ 1)
  marks-most =
      (mark-most p.cost, mark-most p.offset, mark-most p.outage, mark-most p.requirement, mark-most p.margin)

  abbrev pub head_mark : ℕ → ℕ
  head_mark bit = byte head_block 26 / 2 ^ bit % 2

  -- each bit of the marks is its value's own
  pub cost-marked : head_mark 0 ≡ mark p.cost
  cost-marked = omega (arith, marks-at, marks-most)

  pub offset-marked : head_mark 1 ≡ mark p.offset
  offset-marked = omega (arith, marks-at, marks-most)

  pub outage-marked : head_mark 2 ≡ mark p.outage
  outage-marked = omega (arith, marks-at, marks-most)

  pub requirement-marked : head_mark 3 ≡ mark p.requirement
  requirement-marked = omega (arith, marks-at, marks-most)

  pub margin-marked : head_mark 4 ≡ mark p.margin
  margin-marked = omega (arith, marks-at, marks-most)

  pub marks-under : byte head_block 26 < 32
  marks-under = omega (arith, marks-at, marks-most)
