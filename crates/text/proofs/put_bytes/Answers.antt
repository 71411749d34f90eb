-- `put_bytes` copies the bytes to their place, where they fit.
-- Assumes nothing.
use mathlib.Core.Path.{refl}
use native.Mathlib.Omega.{arith}
use Rattle.std.proofs.lemmas.Slice.{put_mid-paste}
use Rattle.text.proofs.Puts.{written-fits, written-past}
use Rattle.text.proofs.put_bytes.Goals as goal

pub returns-then-at-out : goal.returns-then-at-out
returns-then-at-out c = written-past _ _ _ (omega arith) (omega arith)

pub returns-then-bytes-out : goal.returns-then-bytes-out
returns-then-bytes-out c = written-past _ _ _ (omega arith) (omega arith)

pub returns : goal.returns
returns c =
    written-fits _ _ _ (omega arith) (put_mid-paste _ _ _ _ _ _ c.copy_from_slice.ensures.after (omega arith) refl) refl
