-- `open_room` clears the room's first block where nothing is refused.
-- Assumes nothing.
use mathlib.Core.Path.{sym, ◌∙◌}
use Rattle.lent.proofs.Rooms.{not-refused, opened-refused, opened-short, opened-cleared}
use native.Mathlib.Omega.{arith}
use Rattle.lent.proofs.open_room.Goals as goal

pub returns-then-is_err : goal.returns-then-is_err
returns-then-is_err c = opened-refused _ _ (sym c.is_err.ensures.value ∙ c.if-is_err.true) c.drafted.ensures

pub returns-then-room-bytes : goal.returns-then-room-bytes
returns-then-room-bytes c =
    let bytes = c.bytes_for-bytes.ensures.0 in
    let passed = not-refused _ (sym c.is_err.ensures.value ∙ c.if-is_err.false) in
    opened-short _ _ passed (omega (arith, bytes, c.if-room-bytes.true)) c.drafted-then-room-bytes.ensures

pub returns : goal.returns
returns c =
    let bytes = c.bytes_for-bytes.ensures.0 in
    let passed = not-refused _ (sym c.is_err.ensures.value ∙ c.if-is_err.false) in
    opened-cleared _ _ passed (omega (arith, bytes, c.if-room-bytes.false)) c.put_zeros.ensures
