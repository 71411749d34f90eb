-- The blocks that are made around rows in their places.
--
-- In order: a block of rows; the blocks of rows, one more at a time.
-- Assumes nothing.
use mathlib.Core.Path.{◌≡◌, sym, ap, ap₂, ◌∙◌}
use mathlib.Core.List.{List, [], ◌++◌, append_assoc, append-nil}
use Prim.Native.Nat.{ℕ, zero, suc, ◌+◌, ◌-◌, ◌*◌, ◌≤◌, ◌<◌}
use native.Mathlib.Nat.{add-zero, add_comm, sub-zero}
use native.Mathlib.Omega.{arith}
use lib.ListN.{length, take, drop, length-append, length-drop, get_or-append}
use lib.Seq.{drop-drop, take_at, drop_at, length-take-le}
use Rattle.values.specs.declared.place.Offer.{Offer}
use Rattle.sections.specs.Section.{rows_here}
use Rattle.encoding.specs.Numbers.{u16_bytes, zeros}
use Rattle.encoding.specs.Encode.{sealed, places_bytes, rows_bytes, row_blocks}
use Rattle.encoding.proofs.Digits.{length-zeros}
use Rattle.encoding.proofs.Sealed.{seal, seal-same}
use Rattle.encoding.proofs.Rows.{length-places, length-rows}
use Rattle.encoding.proofs.Book.{offers_here, length-offers_here, offers_here-most, length-row_blocks}
use Rattle.places.specs.inner.Put.{put}
use Rattle.places.proofs.Puts.{put-after, put_front, put-over}
use Rattle.making.specs.inner.Made.{sealed_at, rows_opening, unused_at, block_made, blocks_made}
use Rattle.writer.proofs.Raw.{raw_block, raw}

-- ---- a block of rows

-- a block that stands behind others, sealed: its first 508 bytes stay as they are
pub sealed-there : (f s z q : List ℕ) (at : ℕ) → length f ≡ at → length s ≡ 508 → length z ≡ 4
    → sealed_at (f ++ (s ++ (z ++ q))) at ≡ f ++ (sealed s ++ q)
unfolding sealed_at sealed u16_bytes
sealed-there f s z q at e whole four =
    let block : take 512 (drop at (f ++ (s ++ (z ++ q)))) ≡ s ++ z =
    ap (take 512) (drop_at f (s ++ (z ++ q)) at e)
    ∙ ap (take 512) (sym (append_assoc s z q))
    ∙ take_at (s ++ z) q 512 (length-append s z ∙ ap₂ ◌+◌ whole four) in
    let sums : seal (take 512 (drop at (f ++ (s ++ (z ++ q))))) ≡ seal s =
    ap seal block ∙ seal-same (s ++ z) s (λ i l. get_or-append s z 0 i (omega arith)) in
    ap (put (f ++ (s ++ (z ++ q))) (at + 508)) sums
    ∙ put-after f (s ++ (z ++ q)) at 508 (seal s) e
    ∙ ap (λ (x : List ℕ). f ++ x)
    (put-after s (z ++ q) 508 0 (seal s) whole
    ∙ ap (λ (x : List ℕ). s ++ x) (put_front z q (seal s) four)
    ∙ sym (append_assoc s (seal s) q))

-- the block behind others, made around its places
module _ (edition : ℕ) (f : List ℕ) (k : ℕ) (offers : List Offer) (g q : List ℕ) (e : length f ≡ k * 512) (few : length offers ≤ 15)
    (whole : length g ≡ 512) where
  abbrev n : ℕ
  n = length offers

  abbrev places : List ℕ
  places = places_bytes edition offers

  abbrev behind : List ℕ
  behind = drop (28 + n * 32) g

  abbrev unused : List ℕ
  unused = zeros (480 - n * 32)

  -- what is left of the block behind its places: room for the sums
  abbrev last : List ℕ
  last = drop (length unused) behind

  length-opening : length (rows_opening k n) ≡ 28
  unfolding u16_bytes
  length-opening = simp (length-append, length-zeros)

  length-behind : length behind ≡ 484 - n * 32
  length-behind = length-drop (28 + n * 32) g ∙ omega (arith, whole)

  opened : put (f ++ (raw_block edition offers g ++ q)) (k * 512) (rows_opening k n) ≡ f ++ (rows_opening k n ++ ((places ++ behind) ++ q))
  unfolding raw_block
  opened =
      let there : k * 512 ≡ k * 512 + 0 = omega arith in
      let first : length (take 28 g) ≡ length (rows_opening k n) = length-take-le 28 g (omega (arith, whole)) ∙ sym length-opening in
      ap₂ (λ (s : List ℕ) (at : ℕ). put (f ++ s) at (rows_opening k n)) (append_assoc (take 28 g) (places ++ behind) q) there
      ∙ put-after f (take 28 g ++ ((places ++ behind) ++ q)) (k * 512) 0 (rows_opening k n) e
      ∙ ap (λ (s : List ℕ). f ++ s) (put_front (take 28 g) ((places ++ behind) ++ q) (rows_opening k n) first)

  cleared : unused_at (f ++ (rows_opening k n ++ ((places ++ behind) ++ q))) (k * 512) n
      ≡ f ++ ((rows_opening k n ++ places) ++ (unused ++ (last ++ q)))
  cleared =
      let there : 28 + n * 32 ≡ 28 + n * 32 + 0 = omega arith in
      let front : length (rows_opening k n ++ places) ≡ 28 + n * 32 =
      length-append (rows_opening k n) places ∙ ap₂ ◌+◌ length-opening (length-places edition offers) in
      let fits : length unused ≤ length behind = omega (arith, length-zeros (480 - n * 32), length-behind) in
      put-after f (rows_opening k n ++ ((places ++ behind) ++ q)) (k * 512) (28 + n * 32) unused e
      ∙ ap (λ (s : List ℕ). f ++ s)
      (ap₂ (λ (s : List ℕ) (at : ℕ). put s at unused) (join (rows_opening k n) places behind q) there
      ∙ put-after (rows_opening k n ++ places) (behind ++ q) (28 + n * 32) 0 unused front
      ∙ ap (λ (s : List ℕ). (rows_opening k n ++ places) ++ s) (put-over behind q unused fits))
    where
      join : (a b c d : List ℕ) → a ++ ((b ++ c) ++ d) ≡ (a ++ b) ++ (c ++ d)
      join a b c d = simp append_assoc

  block_made_lem : block_made (f ++ (raw_block edition offers g ++ q)) k n ≡ f ++ (sealed (rows_bytes edition k offers) ++ q)
  unfolding block_made rows_bytes
  block_made_lem =
      let four : length last ≡ 4 = length-drop (length unused) behind ∙ omega (arith, length-zeros (480 - n * 32), length-behind) in
      let all : (rows_opening k n ++ places) ++ (unused ++ (last ++ q)) ≡ rows_bytes edition k offers ++ (last ++ q) = simp append_assoc in
      ap (λ (b : List ℕ). sealed_at b (k * 512))
      (ap (λ (b : List ℕ). unused_at b (k * 512) n) opened ∙ cleared ∙ ap (λ (s : List ℕ). f ++ s) all)
      ∙ sealed-there f (rows_bytes edition k offers) last q (k * 512) e (length-rows edition k offers few) four

-- ---- the blocks of rows

-- one block more, at the end
blocks-one : (edition j k : ℕ) (offers : List Offer)
    → row_blocks edition (suc j) k offers ≡ row_blocks edition j k offers ++ sealed (rows_bytes edition (k + j) (offers_here offers j))
unfolding row_blocks
blocks-one edition zero k offers =
    append-nil (sealed (rows_bytes edition k (take 15 offers))) ∙ ap (λ (n : ℕ). sealed (rows_bytes edition n (take 15 offers))) (sym (add-zero k))
blocks-one edition (suc j) k offers =
    let number : suc k + j ≡ k + suc j = omega arith in
    let later : 15 + j * 15 ≡ suc j * 15 = omega arith in
    let here : offers_here (drop 15 offers) j ≡ offers_here offers (suc j) =
    ap (take 15) (drop-drop (j * 15) 15 offers ∙ ap (λ (at : ℕ). drop at offers) later) in
    ap (λ (s : List ℕ). sealed (rows_bytes edition k (take 15 offers)) ++ s)
    (blocks-one edition j (suc k) (drop 15 offers)
    ∙ ap₂ (λ (n : ℕ) (os : List Offer). row_blocks edition j (suc k) (drop 15 offers) ++ sealed (rows_bytes edition n os)) number here)
    ∙ sym (append_assoc (sealed (rows_bytes edition k (take 15 offers))) (row_blocks edition j (suc k) (drop 15 offers)) _)

-- what is left of so many blocks that are not made yet
abbrev left : ℕ → ℕ → List Offer → List ℕ → ℕ → List ℕ
left edition blocks offers g j = raw edition (blocks - j) (drop (j * 15) offers) (drop (j * 512) g)

left_one : (edition blocks : ℕ) (offers : List Offer) (g : List ℕ) (j : ℕ) → j < blocks
    → left edition blocks offers g j ≡ raw_block edition (offers_here offers j) (take 512 (drop (j * 512) g)) ++ left edition blocks offers g (suc j)
unfolding raw
left_one edition blocks offers g j l =
    let more : blocks - j ≡ suc (blocks - suc j) = omega arith in
    let later : j * 15 + 15 ≡ suc j * 15 = omega arith in
    let further : j * 512 + 512 ≡ suc j * 512 = omega arith in
    ap (λ (k : ℕ). raw edition k (drop (j * 15) offers) (drop (j * 512) g)) more
    ∙ ap₂ (λ (os : List Offer) (s : List ℕ). raw_block edition (offers_here offers j) (take 512 (drop (j * 512) g)) ++ raw edition (blocks - suc j) os s)
    (drop-drop 15 (j * 15) offers ∙ ap (λ (at : ℕ). drop at offers) later)
    (drop-drop 512 (j * 512) g ∙ ap (λ (at : ℕ). drop at g) further)

left-none : (edition blocks : ℕ) (offers : List Offer) (g : List ℕ) → left edition blocks offers g blocks ≡ []
unfolding raw
left-none edition blocks offers g =
    let none : blocks - blocks ≡ 0 = omega arith in
    ap (λ (k : ℕ). raw edition k (drop (blocks * 15) offers) (drop (blocks * 512) g)) none

module _ (edition : ℕ) (h : List ℕ) (first : length h ≡ 512) (blocks : ℕ) (offers : List Offer) (g : List ℕ) (held : length g ≡ blocks * 512)
    (q : List ℕ) where
  abbrev rows : ℕ
  rows = length offers

  blocks-made : (j : ℕ) → j ≤ blocks
      → blocks_made (h ++ (raw edition blocks offers g ++ q)) rows j ≡ h ++ (row_blocks edition j 1 offers ++ (left edition blocks offers g j ++ q))
  unfolding blocks_made row_blocks
  blocks-made zero l = ap (λ (k : ℕ). h ++ (raw edition k offers g ++ q)) (sym (sub-zero blocks))
  blocks-made (suc j) l =
      let os : List Offer = offers_here offers j in
      let here : List ℕ = take 512 (drop (j * 512) g) in
      let whole : length here ≡ 512 = length-take-le 512 (drop (j * 512) g) (omega (arith, l, held, length-drop (j * 512) g)) in
      let rest : List ℕ = left edition blocks offers g (suc j) ++ q in
      let front : List ℕ = h ++ row_blocks edition j 1 offers in
      let long : length front ≡ (j + 1) * 512 =
      length-append h (row_blocks edition j 1 offers) ∙ ap₂ ◌+◌ first (length-row_blocks edition j 1 offers) ∙ omega arith in
      let next : left edition blocks offers g j ++ q ≡ raw_block edition os here ++ rest =
      ap (λ (s : List ℕ). s ++ q) (left_one edition blocks offers g j (omega arith)) ∙ append_assoc (raw_block edition os here) (left edition blocks offers g (suc j)) q in
      ap (λ (b : List ℕ). block_made b (j + 1) (rows_here rows j)) (blocks-made j (omega arith))
      ∙ ap (λ (s : List ℕ). block_made (h ++ (row_blocks edition j 1 offers ++ s)) (j + 1) (rows_here rows j)) next
      ∙ ap₂ (λ (b : List ℕ) (k : ℕ). block_made b (j + 1) k)
      (sym (append_assoc h (row_blocks edition j 1 offers) (raw_block edition os here ++ rest))) (sym (length-offers_here offers j))
      ∙ block_made_lem edition front (j + 1) os here rest long (offers_here-most offers j) whole
      ∙ append_assoc h (row_blocks edition j 1 offers) _
      ∙ ap (λ (s : List ℕ). h ++ s)
      (sym (append_assoc (row_blocks edition j 1 offers) (sealed (rows_bytes edition (j + 1) os)) rest)
      ∙ ap (λ (k : ℕ). (row_blocks edition j 1 offers ++ sealed (rows_bytes edition k os)) ++ rest) (add_comm j 1)
      ∙ ap (λ (s : List ℕ). s ++ rest) (sym (blocks-one edition j 1 offers)))

  -- all blocks, made around their places
  pub blocks-all : blocks_made (h ++ (raw edition blocks offers g ++ q)) rows blocks ≡ (h ++ row_blocks edition blocks 1 offers) ++ q
  blocks-all =
      blocks-made blocks (omega arith)
      ∙ ap (λ (s : List ℕ). h ++ (row_blocks edition blocks 1 offers ++ (s ++ q))) (left-none edition blocks offers g)
      ∙ sym (append_assoc h (row_blocks edition blocks 1 offers) q)
