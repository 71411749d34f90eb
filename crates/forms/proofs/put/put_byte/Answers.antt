-- `put_byte` stores the byte where its place lies in the room.
-- Assumes nothing.
use Rattle.forms.proofs.Puts.{put-past, put-stored}
use Rattle.forms.proofs.put.put_byte.Goals as goal
use Rattle.forms.proofs.put.put_byte.Goals.{then-at-room, else-at-room}

pub returns : goal.returns
returns c =
    let a = c.args in
    elim c.if-at-room.branch [
      | then-at-room w ↦ rw w.room-is (put-stored a.room.now a.at a.byte c.saturating_add.ensures)
      | else-at-room w ↦ rw w.room-is (put-past a.room.now a.at a.byte w.if-at-room.false c.saturating_add.ensures)
    ]
