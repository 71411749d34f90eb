-- `put_text` puts a text that fits.
-- Assumes nothing.
use Rattle.words.proofs.Telling.{told_none, told-short, told-put}
use Rattle.words.proofs.put_text.Goals as goal

pub returns-then-text-eq0 : goal.returns-then-text-eq0
returns-then-text-eq0 c = told_none _ _ c.if-text-eq0.true

pub returns-then-room-text : goal.returns-then-room-text
returns-then-room-text c = rw c.refused.ensures (told-short _ _ c.if-room-text.true)

pub returns : goal.returns
returns c = rw c.given.ensures (told-put _ _ c.if-text-eq0.false c.if-room-text.false c.put_bytes-end.ensures)
