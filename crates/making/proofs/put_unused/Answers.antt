-- `put_unused` puts zeros where no row stands, if there is such a place.
-- Assumes nothing.
use mathlib.Core.Path.{◌≡◌, ap, ◌∙◌}
use Prim.Native.Nat.{ℕ, ◌+◌, ◌-◌, ◌*◌}
use Rattle.encoding.specs.Numbers.{zeros}
use Rattle.places.specs.inner.Put.{put}
use Rattle.making.proofs.Zeros.{unused-none}
use native.Mathlib.Omega.{arith}
use Rattle.making.proofs.put_unused.Goals as goal

pub returns-then-here-eq-PLACES : goal.returns-then-here-eq-PLACES
returns-then-here-eq-PLACES c = unused-none _ _ _ c.if-here-eq-PLACES.true

pub returns : goal.returns
returns c =
    let a = c.args in
    let there : a.at + 28 + a.here * 32 ≡ a.at + (28 + a.here * 32) = omega arith in
    c.put_zeros.ensures ∙ ap (λ (k : ℕ). put a.b.now k (zeros (480 - a.here * 32))) there
