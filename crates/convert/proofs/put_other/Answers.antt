-- `put_other` puts the rows of a sound book, and makes the other around them.
-- Assumes nothing.
use native.Mathlib.Omega.{arith}
use Rattle.sections.specs.Blocks.{block_of}
use Rattle.layout.specs.Read.{contents_of}
use Rattle.layout.proofs.Passing.{form-passed-length, form-passed-count, form-passed-blocks}
use Rattle.book.proofs.Accepted.{sound-form}
use Rattle.book.proofs.Stages.{form-inside}
use Rattle.convert.proofs.Told.{made-own}
use Rattle.convert.proofs.put_other.Goals as goal

pub edition-own-requires : goal.edition-own-requires
edition-own-requires c = form-passed-length _ (sound-form _ c.requires.0)

pub offer_count-n-requires : goal.offer_count-n-requires
offer_count-n-requires c = form-passed-length _ (sound-form _ c.requires.0)

pub put_rows-requires : goal.put_rows-requires
put_rows-requires c = (rw c.offer_count-n.ensures.0 (form-inside _ (sound-form _ c.requires.0)), c.requires.1)

pub slice_bounds-parameters_in-end : goal.slice_bounds-parameters_in-end
slice_bounds-parameters_in-end c = omega (arith, form-passed-length _ (sound-form _ c.requires.0))

pub put_book-requires : goal.put_book-requires
put_book-requires c =
    let form = sound-form _ c.requires.0 in
    let whole = form-passed-blocks _ form in
    (omega (arith, c.offer_count-n.ensures.0, whole, c.requires.1), omega (arith, c.offer_count-n.ensures.0, form-passed-count _ form))

pub returns : goal.returns
unfolding contents_of block_of
returns c =
    made-own _ _ _ _ _ _ c.edition-own.ensures.0 c.offer_count-n.ensures.0 c.other_edition-other.ensures
    c.parameters_in.ensures c.put_rows.ensures c.put_book.ensures
