-- `put_place` puts an offer field by field: together they are the bytes of its place.
-- Assumes nothing.
use native.Mathlib.Omega.{arith}
use Rattle.places.proofs.Fields.{put-place}
use Rattle.places.proofs.place.put_place.Goals as goal

pub returns : goal.returns
returns c =
    let marks = c.place_marks.ensures in
    let step = c.step_byte.ensures in
    put-place c.args.b.now c.args.at c.args.edition c.args.o _ _ c.requires.0 marks.0 marks.1 step (omega (arith, step, c.requires.1))
    c.put_u32.ensures c.put_u32-2.ensures c.put_value.ensures c.put_u32-3.ensures c.put_value-2.ensures
    c.put_u64.ensures c.put_u32-4.ensures
