-- `told` tells as much of a page as its bytes hold.
-- Assumes nothing.
use mathlib.Core.Path.{sym}
use lib.Seq.{length-take-le}
use borrow.Author.Rules.{rules}
use Rattle.page.proofs.texts.told.Goals as goal

pub slice_bounds-put_text-end : goal.slice_bounds-put_text-end
slice_bounds-put_text-end c = sym (length-take-le _ _ (search rules))

pub returns : goal.returns
returns c = rw (← c.min.ensures) c.put_text.ensures
