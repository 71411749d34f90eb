-- `place_marks` adds the bits of a place's two values.
-- Assumes nothing.
use Rattle.places.proofs.Fields.{place-marks}
use borrow.Author.Rules.{rules}
use Rattle.places.proofs.place.place_marks.Goals as goal

pub returns : goal.returns
returns c = (place-marks c.args.o c.mark_of.ensures.0 c.mark_of-2.ensures.0, search rules)
