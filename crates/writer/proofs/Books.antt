-- The book that is made in room whose first block is cleared is the one that says the contents.
--
-- In order: block 0; the book.
-- Assumes nothing.
use mathlib.Core.Path.{◌≡◌, refl, sym, ap, ap₂, ◌∙◌}
use mathlib.Core.List.{List, [], ◌∷◌, ◌++◌, append_assoc}
use Prim.Native.Nat.{ℕ, ◌+◌, ◌*◌, ◌/◌, ◌%◌, ◌≤◌}
use native.Mathlib.Omega.{arith}
use lib.ListN.{length, take, drop, length-append, length-drop}
use lib.Seq.{drop-drop, length-take-le}
use Rattle.values.specs.Contents.{Contents}
use Rattle.values.specs.declared.head.Parameters.{Parameters}
use Rattle.values.specs.declared.place.Offer.{Offer}
use Rattle.sections.specs.Section.{blocks_for}
use Rattle.layout.specs.Layout.{rpmb}
use Rattle.encoding.specs.Numbers.{u16_bytes, value_bytes, zeros}
use Rattle.encoding.specs.Encode.{sealed, head_marks, head_bytes, encode}
use Rattle.encoding.proofs.Digits.{length-zeros}
use Rattle.encoding.proofs.Values.{mark-most, mark_of-mark}
use Rattle.encoding.proofs.Sealed.{length-sealed}
use Rattle.encoding.proofs.Head.{length-head}
use Rattle.encoding.proofs.Book.{encode-length}
use Rattle.places.specs.inner.Put.{put}
use Rattle.places.specs.inner.Rows.{put_rows}
use Rattle.places.proofs.Puts.{put_front}
use Rattle.making.specs.inner.Made.{bytes_for, opening, sealed_at, blocks_made, book_made}
use Rattle.making.proofs.Zeros.{zeros-add}
use Rattle.writer.proofs.Raw.{raw, raw_room}
use Rattle.writer.proofs.Placed.{StepsWithin, rows-put}
use Rattle.writer.proofs.Blocks.{sealed-there, blocks-all}

-- ---- block 0

-- the marks are one byte
marks-most : (p : Parameters) → head_marks p ≤ 31
marks-most p =
    omega (
      arith,
      mark_of-mark 0 p.cost,
      mark_of-mark 1 p.offset,
      mark_of-mark 2 p.outage,
      mark_of-mark 3 p.requirement,
      mark_of-mark 4 p.margin,
      mark-most p.cost,
      mark-most p.offset,
      mark-most p.outage,
      mark-most p.requirement,
      mark-most p.margin,
    )

marks-bytes : (p : Parameters) → u16_bytes (head_marks p) ≡ head_marks p ∷ 0 ∷ []
unfolding u16_bytes
marks-bytes p =
    let low : head_marks p % 256 ≡ head_marks p = omega (arith, marks-most p) in
    let high : head_marks p / 256 % 256 ≡ 0 = omega (arith, marks-most p) in
    ap₂ (λ (a b : ℕ). a ∷ b ∷ []) low high

-- ten lists put together, and one behind them
ten : (a b c d e f g h i j z : List ℕ)
    → a ++ (b ++ (c ++ (d ++ (e ++ (f ++ (g ++ (h ++ (i ++ (j ++ z)))))))))
    ≡ (a ++ (b ++ (c ++ (d ++ (e ++ (f ++ (g ++ (h ++ (i ++ j))))))))) ++ z
ten a b c d e f g h i j z = simp append_assoc

-- the first 32 bytes, and zeros behind them
head-opening : (edition : ℕ) (p : Parameters) (rows : ℕ) → head_bytes edition p rows ≡ opening edition p rows ++ zeros 476
unfolding head_bytes opening
head-opening edition p rows =
    ten rpmb (u16_bytes edition) (u16_bytes p.year) (value_bytes p.cost) (value_bytes p.offset) (value_bytes p.outage)
    (value_bytes p.requirement) (u16_bytes rows) (head_marks p ∷ 0 ∷ []) (value_bytes p.margin) (zeros 476)
    ∙ ap (λ (marks : List ℕ). opened marks ++ zeros 476) (sym (marks-bytes p))
  where
    opened : List ℕ → List ℕ
    opened marks =
        rpmb
        ++ (u16_bytes edition
        ++ (u16_bytes p.year
        ++ (value_bytes p.cost
        ++ (value_bytes p.offset
        ++ (value_bytes p.outage
        ++ (value_bytes p.requirement
        ++ (u16_bytes rows
        ++ (marks ++ value_bytes p.margin))))))))

length-opening : (edition : ℕ) (p : Parameters) (rows : ℕ) → length (opening edition p rows) ≡ 32
length-opening edition p rows =
    omega (arith, length-head edition p rows, ap length (head-opening edition p rows), length-append (opening edition p rows) (zeros 476), length-zeros 476)

head-made : (edition : ℕ) (p : Parameters) (rows : ℕ) (q : List ℕ)
    → sealed_at (put (zeros 512 ++ q) 0 (opening edition p rows)) 0 ≡ sealed (head_bytes edition p rows) ++ q
head-made edition p rows q =
    let rest : List ℕ = zeros 476 ++ (zeros 4 ++ q) in
    let cut : zeros 512 ++ q ≡ zeros 32 ++ rest = rw (zeros-add 32 480, zeros-add 476 4) (simp append_assoc) in
    ap (λ (b : List ℕ). sealed_at (put b 0 (opening edition p rows)) 0) cut
    ∙ ap (λ (b : List ℕ). sealed_at b 0)
    (put_front (zeros 32) rest (opening edition p rows) (length-zeros 32 ∙ sym (length-opening edition p rows))
    ∙ sym (append_assoc (opening edition p rows) (zeros 476) (zeros 4 ++ q))
    ∙ ap (λ (s : List ℕ). s ++ (zeros 4 ++ q)) (sym (head-opening edition p rows)))
    ∙ sealed-there [] (head_bytes edition p rows) (zeros 4) q 0 refl (length-head edition p rows) (length-zeros 4)

-- ---- the book

module _ (c : Contents) where
  abbrev edition : ℕ
  edition = c.edition

  abbrev offers : List Offer
  offers = c.offers

  abbrev n : ℕ
  n = length offers

  abbrev blocks : ℕ
  blocks = blocks_for n

  module _ (room : List ℕ) (fits : bytes_for n ≤ length room) where
    abbrev held : List ℕ
    held = take (blocks * 512) (drop 512 room)

    abbrev behind : List ℕ
    behind = drop (blocks * 512) (drop 512 room)

    book-made : book_made edition c.parameters n (raw_room edition blocks offers room) ≡ encode c ++ behind
    unfolding book_made encode
    book-made =
        let h : List ℕ = sealed (head_bytes edition c.parameters n) in
        let whole : length held ≡ blocks * 512 = length-take-le (blocks * 512) (drop 512 room) (omega (arith, fits, length-drop 512 room)) in
        ap (λ (b : List ℕ). blocks_made b n blocks) (head-made edition c.parameters n (raw edition blocks offers held ++ behind))
        ∙ blocks-all edition h (length-sealed _ (length-head edition c.parameters n)) blocks offers held whole behind

    -- The book that is made in room whose first block is cleared, of rows that have steps of its edition, is the one that says the
    -- contents, and behind it stands what stood there.
    pub room-made : StepsWithin edition offers
        → book_made edition c.parameters n (put_rows (put room 0 (zeros 512)) edition 0 offers) ≡ encode c ++ drop (length (encode c)) room
    room-made within =
        let bytes : 512 + blocks * 512 ≡ length (encode c) = omega (arith, encode-length c) in
        ap (book_made edition c.parameters n) (rows-put edition blocks room (omega (arith, fits)) offers (omega arith) within)
        ∙ book-made
        ∙ ap (λ (s : List ℕ). encode c ++ s) (drop-drop (blocks * 512) 512 room ∙ ap (λ (k : ℕ). drop k room) bytes)
