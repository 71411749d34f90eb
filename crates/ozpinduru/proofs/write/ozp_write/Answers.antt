-- The rows are tested with one array or the other, put into the room and closed there.
use Rattle.std.proofs.Common.{length, map}
use Rattle.plain.specs.Given.{parameters_in, offer_in}
use Rattle.lent.specs.inner.Drafts.{draft_of, Searched}
use Rattle.ozpinduru.proofs.Writing.{few-ask, many-ask, open-asks, put-asks, close-asks, wrote}
use Rattle.ozpinduru.proofs.write.ozp_write.Goals as goal
use Rattle.ozpinduru.proofs.write.ozp_write.Goals.{then-rows-lt16, else-rows-lt16, Joined-rows-lt16}

pub tested_in-tested-requires : goal.tested_in-tested-requires
tested_in-tested-requires c =
    rw c.begin-begun.ensures (few-ask c.args.edition c.args.parameters c.args.rows.now c.if-rows-lt16.true)

pub tested_in-tested-requires-else-rows-lt16 : goal.tested_in-tested-requires-else-rows-lt16
tested_in-tested-requires-else-rows-lt16 c =
    rw c.begin-begun.ensures (many-ask c.args.edition c.args.parameters c.args.rows.now)

-- what was found of the rows, whichever array kept them
searched : (c : Joined-rows-lt16) →
    let a = c.args in
    Searched a.edition (map offer_in a.rows.now) (draft_of a.edition (parameters_in a.parameters) (length a.rows.now)) c.if-rows-lt16.tested
searched c =
    elim c.if-rows-lt16.branch [
      | then-rows-lt16 w ↦ rw w.tested-is (rw c.begin-begun.ensures at w.tested_in-tested.ensures)
      | else-rows-lt16 w ↦ rw w.tested-is (rw c.begin-begun.ensures at w.tested_in-tested-else-rows-lt16.ensures)
    ]

pub open_room-opened-requires : goal.open_room-opened-requires
open_room-opened-requires c =
    open-asks c.args.edition c.args.parameters c.args.rows.now c.args.room.now _
    (searched (goal.at.open_room-opened-requires c).Joined-rows-lt16)

pub put_rows-requires : goal.put_rows-requires
put_rows-requires c =
    put-asks c.args.edition c.args.parameters c.args.rows.now c.args.room.now _
    (searched (goal.at.put_rows-requires c).Joined-rows-lt16)
    _ _ c.open_room-opened.ensures c.open_room-opened.auto.room

pub close_room-requires : goal.close_room-requires
close_room-requires c =
    close-asks c.args.edition c.args.parameters c.args.rows.now c.args.room.now _
    (searched (goal.at.close_room-requires c).Joined-rows-lt16)
    _ _ c.open_room-opened.ensures c.open_room-opened.auto.room _ c.put_rows.auto.room

pub returns : goal.returns
returns c =
    wrote c.args.edition c.args.parameters c.args.rows.now c.args.room.now _
    (searched (goal.at.returns c).Joined-rows-lt16)
    _ _ c.open_room-opened.ensures c.open_room-opened.auto.room _ c.put_rows.ensures c.close_room.ensures
