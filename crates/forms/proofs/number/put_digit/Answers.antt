-- `put_digit` puts the digit, and the comma where its test asks for one.
-- Assumes nothing.
use mathlib.Core.Path.{◌≡◌}
use mathlib.Core.List.{[], ◌∷◌}
use native.Mathlib.Omega.{arith}
use Rattle.std.proofs.lemmas.Grind.{common_steps}
use Rattle.forms.specs.Number.{comma}
use Rattle.forms.proofs.Puts.{put-put}
use Rattle.forms.proofs.number.put_digit.Goals as goal

pub returns-then-left-eq0 : goal.returns-then-left-eq0
unfolding comma
returns-then-left-eq0 c =
    let a = c.args in
    let first = c.put_byte-place.ensures in
    let e : comma a.left ≡ 44 ∷ [] = grind (arith, common_steps) in
    rw e (put-put a.room.now a.at (a.digit ∷ []) (44 ∷ []) (omega arith) first c.put_byte.ensures)

pub returns-else-left-gt0 : goal.returns-else-left-gt0
unfolding comma
returns-else-left-gt0 c =
    let e : comma c.args.left ≡ [] = grind (arith, common_steps) in rw e c.put_byte-place.ensures
