-- What a run of puts makes of a block, field by field.
--
-- In order: the marks of block 0; what opens block 0, and a block of rows; the sums of a block.
-- Assumes nothing.
use mathlib.Core.Path.{◌≡◌, refl, sym, ap, ap₂, ◌∙◌}
use mathlib.Core.List.{List, ◌++◌, append_assoc}
use Prim.Native.Nat.{ℕ, ◌+◌, ◌*◌, ◌%◌, ◌≤◌}
use native.Mathlib.Numerals.{add-one}
use native.Mathlib.Omega.{arith}
use lib.ListN.{length, take, drop, length-append}
use Rattle.block.specs.Check.{first_sum, second_sum}
use Rattle.block.specs.Running.{block_sum, block_total}
use Rattle.block.proofs.Steps.{block_sum-first, block_total-second}
use Rattle.values.specs.declared.head.Parameters.{Parameters}
use Rattle.sections.specs.Section.{rows_here}
use Rattle.layout.specs.Layout.{rpmb}
use Rattle.layout.specs.Form.{ofrs}
use Rattle.encoding.specs.Numbers.{u16_bytes, value_bytes, zeros}
use Rattle.encoding.specs.Encode.{head_marks}
use Rattle.encoding.proofs.Digits.{length-zeros}
use Rattle.encoding.proofs.Halves.{u16_bytes-kept}
use Rattle.places.specs.inner.Put.{put, weighed}
use Rattle.places.proofs.Puts.{put_next}
use Rattle.places.proofs.Fields.{Run, run_on, length-u16, length-value, weighed-bit}
use Rattle.making.specs.inner.Made.{four_values, opening, sealed_at, unused_at, block_made, blocks_made}

-- ---- the marks of block 0

pub head-marks : (p : Parameters) {x y z v w : ℕ} → x ≡ weighed 1 p.cost → y ≡ weighed 2 p.offset → z ≡ weighed 4 p.outage
    → v ≡ weighed 8 p.requirement → w ≡ weighed 16 p.margin → x + y + z + v + w ≡ head_marks p
head-marks p e f g h i =
    ap₂ ◌+◌ (ap₂ ◌+◌ (ap₂ ◌+◌ (ap₂ ◌+◌ (e ∙ weighed-bit 0 p.cost) (f ∙ weighed-bit 1 p.offset)) (g ∙ weighed-bit 2 p.outage))
    (h ∙ weighed-bit 3 p.requirement)) (i ∙ weighed-bit 4 p.margin)

-- ---- what opens a block

four : (a b c d : List ℕ) → a ++ (b ++ (c ++ d)) ≡ ((a ++ b) ++ c) ++ d
four a b c d = simp append_assoc

pub put-values : (b : List ℕ) (p : Parameters) {c₁ c₂ c₃ c₄ : List ℕ} → 512 ≤ length b
    → c₁ ≡ put b 8 (value_bytes p.cost)
    → c₂ ≡ put c₁ 12 (value_bytes p.offset)
    → c₃ ≡ put c₂ 16 (value_bytes p.outage)
    → c₄ ≡ put c₃ 20 (value_bytes p.requirement)
    → c₄ ≡ put b 8 (four_values p)
unfolding four_values
put-values b p h e₁ e₂ e₃ e₄ =
    let r₁ : Run b 8 _ 4 _ = record { made = e₁; long = length-value p.cost } in
    let r₂ : Run b 8 _ 8 _ = run_on b 8 (value_bytes p.offset) 4 r₁ (omega arith) (length-value p.offset) e₂ in
    let r₃ : Run b 8 _ 12 _ = run_on b 8 (value_bytes p.outage) 4 r₂ (omega arith) (length-value p.outage) e₃ in
    (run_on b 8 (value_bytes p.requirement) 4 r₃ (omega arith) (length-value p.requirement) e₄).made
    ∙ ap (put b 8) (sym (four (value_bytes p.cost) (value_bytes p.offset) (value_bytes p.outage) (value_bytes p.requirement)))

length-four : (p : Parameters) → length (four_values p) ≡ 16
unfolding four_values
length-four p =
    simp (length-append, length-value)

opened : (a b c d e f g h i j : List ℕ)
    → a ++ (b ++ (c ++ (d ++ (e ++ (f ++ (g ++ (h ++ (i ++ j)))))))) ≡ (((((a ++ b) ++ c) ++ (d ++ (e ++ (f ++ g)))) ++ h) ++ i) ++ j
opened a b c d e f g h i j = simp append_assoc

pub put-opening : (b : List ℕ) (edition : ℕ) (p : Parameters) (rows marks : ℕ) {c₁ c₂ c₃ c₄ c₅ c₆ c₇ : List ℕ} → 512 ≤ length b
    → marks ≡ head_marks p
    → c₁ ≡ put b 0 rpmb
    → c₂ ≡ put c₁ 4 (u16_bytes edition)
    → c₃ ≡ put c₂ 6 (u16_bytes p.year)
    → c₄ ≡ put c₃ 8 (four_values p)
    → c₅ ≡ put c₄ 24 (u16_bytes rows)
    → c₆ ≡ put c₅ 26 (u16_bytes marks)
    → c₇ ≡ put c₆ 28 (value_bytes p.margin)
    → c₇ ≡ put b 0 (opening edition p rows)
unfolding opening four_values
put-opening b edition p rows marks h e e₁ e₂ e₃ e₄ e₅ e₆ e₇ =
    let r₁ : Run b 0 _ 4 _ = record { made = e₁; long = refl } in
    let r₂ : Run b 0 _ 6 _ = run_on b 0 (u16_bytes edition) 2 r₁ (omega arith) (length-u16 edition) e₂ in
    let r₃ : Run b 0 _ 8 _ = run_on b 0 (u16_bytes p.year) 2 r₂ (omega arith) (length-u16 p.year) e₃ in
    let r₄ : Run b 0 _ 24 _ = run_on b 0 (four_values p) 16 r₃ (omega arith) (length-four p) e₄ in
    let r₅ : Run b 0 _ 26 _ = run_on b 0 (u16_bytes rows) 2 r₄ (omega arith) (length-u16 rows) e₅ in
    let r₆ : Run b 0 _ 28 _ = run_on b 0 (u16_bytes marks) 2 r₅ (omega arith) (length-u16 marks) e₆ in
    (run_on b 0 (value_bytes p.margin) 4 r₆ (omega arith) (length-value p.margin) e₇).made
    ∙ ap (put b 0)
    (sym (opened rpmb (u16_bytes edition) (u16_bytes p.year) (value_bytes p.cost) (value_bytes p.offset) (value_bytes p.outage)
    (value_bytes p.requirement) (u16_bytes rows) (u16_bytes marks) (value_bytes p.margin))
    ∙ ap (λ (m : ℕ). rpmb ++ (u16_bytes edition ++ (u16_bytes p.year ++ (value_bytes p.cost ++ (value_bytes p.offset
    ++ (value_bytes p.outage ++ (value_bytes p.requirement ++ (u16_bytes rows ++ (u16_bytes m ++ value_bytes p.margin))))))))) e)

pub put-block : (b : List ℕ) (k here : ℕ) {c₁ c₂ c₃ c₄ c₅ c₆ : List ℕ} → k * 512 + 512 ≤ length b
    → c₁ ≡ put b (k * 512) ofrs
    → c₂ ≡ put c₁ (k * 512 + 4) (u16_bytes k)
    → c₃ ≡ put c₂ (k * 512 + 6) (u16_bytes here)
    → c₄ ≡ put c₃ (k * 512 + 8) (zeros 20)
    → c₅ ≡ unused_at c₄ (k * 512) here
    → c₆ ≡ sealed_at c₅ (k * 512)
    → c₆ ≡ block_made b k here
unfolding block_made
put-block b k here h e₁ e₂ e₃ e₄ e₅ e₆ =
    let r₁ : Run b (k * 512) _ 4 _ = record { made = e₁; long = refl } in
    let r₂ : Run b (k * 512) _ 6 _ = run_on b (k * 512) (u16_bytes k) 2 r₁ (omega arith) (length-u16 k) e₂ in
    let r₃ : Run b (k * 512) _ 8 _ = run_on b (k * 512) (u16_bytes here) 2 r₂ (omega arith) (length-u16 here) e₃ in
    e₆
    ∙ ap (λ (l : List ℕ). sealed_at l (k * 512))
    (e₅
    ∙ ap (λ (l : List ℕ). unused_at l (k * 512) here)
    ((run_on b (k * 512) (zeros 20) 20 r₃ (omega arith) (length-zeros 20) e₄).made
    ∙ ap (put b (k * 512)) (sym (four ofrs (u16_bytes k) (u16_bytes here) (zeros 20)))))

-- one block more
pub blocks-none : (b : List ℕ) (rows : ℕ) → b ≡ blocks_made b rows 0
unfolding blocks_made
blocks-none b rows = refl

pub blocks_more : (b : List ℕ) (rows j : ℕ) {c d : List ℕ} {here : ℕ} → c ≡ blocks_made b rows j → here ≡ rows_here rows j
    → d ≡ block_made c (j + 1) here → d ≡ blocks_made b rows (j + 1)
unfolding blocks_made
blocks_more b rows j e f g = rw (add-one j) (g ∙ ap₂ (λ (l : List ℕ) (n : ℕ). block_made l (j + 1) n) e f)

-- ---- the sums of a block

pub put-sums : (b : List ℕ) (at : ℕ) (s : List ℕ) {c d : List ℕ} {sum total : ℕ} → at + 512 ≤ length b → s ≡ take 512 (drop at b)
    → sum ≡ block_sum s % 65536 → total ≡ block_total s % 65536
    → c ≡ put b (at + 508) (u16_bytes sum)
    → d ≡ put c (at + 510) (u16_bytes total)
    → d ≡ sealed_at b at
unfolding sealed_at
put-sums b at s {c} {d} {sum} {total} h e f g first next =
    let there : at + 510 ≡ at + 508 + 2 = omega arith in
    let low : u16_bytes sum ≡ u16_bytes (first_sum (take 512 (drop at b))) =
    ap u16_bytes f ∙ u16_bytes-kept (block_sum s) ∙ ap u16_bytes (block_sum-first s ∙ ap first_sum e) in
    let high : u16_bytes total ≡ u16_bytes (second_sum (take 512 (drop at b))) =
    ap u16_bytes g ∙ u16_bytes-kept (block_total s) ∙ ap u16_bytes (block_total-second s ∙ ap second_sum e) in
    put_next b (at + 508) (u16_bytes sum) (u16_bytes total) 2 (length-u16 sum) (omega arith) first
    (next ∙ ap (λ (k : ℕ). put c k (u16_bytes total)) there)
    ∙ ap₂ (λ (x y : List ℕ). put b (at + 508) (x ++ y)) low high
