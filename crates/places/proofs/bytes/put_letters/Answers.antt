-- `put_letters` puts four letters.
-- Assumes nothing.
use native.Mathlib.Omega.{arith}
use Rattle.places.proofs.Puts.{put-copied}
use Rattle.places.proofs.bytes.put_letters.Goals as goal

pub returns : goal.returns
returns c = put-copied _ _ _ c.copy_from_slice.ensures.after (omega arith)
