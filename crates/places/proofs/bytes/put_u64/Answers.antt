-- `put_u64` puts eight bytes.
-- Assumes nothing.
use mathlib.Core.Path.{◌∙◌}
use native.Mathlib.Omega.{arith}
use Rattle.places.proofs.Puts.{put-copied}
use Rattle.places.proofs.Fields.{bytes-u64, length-u64}
use Rattle.places.proofs.bytes.put_u64.Goals as goal

pub returns : goal.returns
returns c =
    let n = c.args.n in
    put-copied _ _ _ (c.copy_from_slice.ensures.after ∙ c.to_le_bytes.ensures ∙ bytes-u64 n) (omega (arith, length-u64 n))
