-- `put_value` puts the number that a value is written as.
-- Assumes nothing.
use Rattle.places.specs.inner.Put.{put}
use mathlib.Core.Path.{ap, ◌∙◌}
use Rattle.places.proofs.bytes.put_value.Goals as goal

pub returns : goal.returns
returns c =
    let a = c.args in
    c.put_u32.ensures ∙ ap (put a.b.now a.at) c.written.ensures
