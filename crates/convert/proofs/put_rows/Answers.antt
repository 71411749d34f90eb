-- `put_rows` puts the rows of a book into their places of another. The loop's invariant: the rows passed stand there.
-- Assumes nothing.
use mathlib.Core.Path.{◌≡◌, refl, ap, ◌∙◌}
use Prim.Native.Nat.{ℕ}
use native.Mathlib.Omega.{arith}
use borrow.Author.Rules.{rules}
use Rattle.layout.specs.Read.{row_offers}
use Rattle.places.specs.inner.Rows.{put_rows}
use Rattle.convert.proofs.Putting.{put-none, put-more, row-own}
use Rattle.convert.proofs.put_rows.Goals as goal

pub loop-row-init : goal.loop-row-init
loop-row-init c = (search rules, refl, put-none _ _ _ _)

pub row_bytes-requires : goal.row_bytes-requires
row_bytes-requires c = c.requires.0.within c.loop-row.row c.loop-row-test.true

pub put_row-requires : goal.put_row-requires
put_row-requires c =
    let taken = c.loop-row-test.true in
    (omega (arith, c.loop-row.invariant.1, c.requires.1, c.requires.0.within c.loop-row.row taken), omega (arith, taken, c.requires.0.few))

pub loop-row-preserved : goal.loop-row-preserved
loop-row-preserved c =
    let s = c.args in (
      search rules,
      search rules,
      put-more s.book.now s.room.now s.edition s.other c.loop-row.row c.loop-row.invariant.2
          (row-own s.book.now s.edition c.loop-row.row c.row_bytes.ensures.0 c.offer_in.ensures)
          c.put_row.ensures,
    )

pub returns : goal.returns
returns c =
    let s = c.args in
    let all : c.loop-row.row ≡ s.n = omega (arith, c.loop-row-test.false, c.loop-row.invariant.0) in
    c.loop-row.invariant.2 ∙ ap (λ (k : ℕ). put_rows s.room.now s.other 0 (row_offers s.book.now s.edition 1 k)) all
