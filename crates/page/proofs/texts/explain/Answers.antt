-- `explain` makes the page in 98,304 bytes, and tells what it comes to.
-- Assumes nothing.
use Rattle.page.proofs.texts.explain.Goals as goal

pub returns : goal.returns
returns c =
    let made = c.put_page-end in
    record { after = made.new.room; end = made.result; shows = made.ensures; told = c.told.ensures }
