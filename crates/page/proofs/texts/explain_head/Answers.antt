-- `explain_head` makes the head of a page in 98,304 bytes, and tells what it comes to.
-- Assumes nothing.
use Rattle.page.proofs.texts.explain_head.Goals as goal

pub returns : goal.returns
returns c =
    let made = c.put_head-end in
    record { after = made.new.room; end = made.result; shows = made.ensures; told = c.told.ensures }
