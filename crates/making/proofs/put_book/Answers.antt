-- `put_book` puts what block 0 says and seals it; then the blocks of rows.
-- Assumes nothing.
use Rattle.making.specs.inner.Made.{sealed_at, blocks_made, book_made}
use Rattle.sections.specs.Section.{blocks_for}
use Prim.Native.Nat.{ℕ}
use mathlib.Core.List.{List}
use mathlib.Core.Path.{ap, ◌∙◌}
use Rattle.making.proofs.put_book.Goals as goal

pub returns : goal.returns
unfolding book_made
returns c =
    let a = c.args in
    c.put_blocks.ensures
    ∙ ap (λ (l : List ℕ). blocks_made l a.rows (blocks_for a.rows)) (c.seal.ensures ∙ ap (λ (l : List ℕ). sealed_at l 0) c.put_opening.ensures)
