-- `put_blocks` makes a block a turn. The loop's invariant: so many blocks are made.
-- Assumes nothing.
use mathlib.Core.Path.{refl, ap, ◌∙◌}
use Rattle.making.proofs.Fields.{blocks-none, blocks_more}
use mathlib.Core.Path.{◌≡◌}
use Rattle.making.specs.inner.Made.{blocks_made}
use Rattle.sections.specs.Section.{blocks_for}
use native.Mathlib.Omega.{arith}
use borrow.Author.Rules.{rules}
use Rattle.making.proofs.put_blocks.Goals as goal

pub loop-j-init : goal.loop-j-init
loop-j-init c = (c.blocks_for-j-end.ensures, omega arith, refl, blocks-none _ _)

pub put_block-requires : goal.put_block-requires
put_block-requires c =
    let l = c.loop-j.invariant in
    let room = c.requires.0 in
    (omega (arith, l.2, room), omega arith, omega (arith, c.rows_here.ensures))

pub loop-j-preserved : goal.loop-j-preserved
loop-j-preserved c =
    let s = c.args in
    let l = c.loop-j in
    (search rules, omega arith, search rules, blocks_more s.b.now s.rows l.j l.invariant.3 c.rows_here.ensures c.put_block.ensures)

pub returns : goal.returns
returns c =
    let s = c.args in
    let l = c.loop-j in
    let all : l.j ≡ blocks_for s.rows = omega arith in
    l.invariant.3 ∙ ap (blocks_made s.b.now s.rows) all
