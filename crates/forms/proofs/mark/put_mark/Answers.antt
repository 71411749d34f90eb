-- `put_mark` puts nothing, a number or the byte, as its tests say.
-- Assumes nothing.
use mathlib.Core.Path.{◌≡◌}
use mathlib.Core.Bool.{cond}
use mathlib.Core.List.{[], ◌∷◌}
use Prim.Native.Nat.{◌+◌}
use native.Mathlib.Omega.{arith}
use Rattle.std.proofs.lemmas.Grind.{common_steps}
use Rattle.text.specs.Put.{right_text}
use Rattle.forms.specs.Mark.{byte_text, next_text}
use Rattle.forms.proofs.Puts.{put-none}
use Rattle.forms.proofs.mark.put_mark.Goals as goal

pub returns-then-is_silent : goal.returns-then-is_silent
unfolding byte_text
returns-then-is_silent c =
    let a = c.args in
    let e : cond a.shown (byte_text a.width a.mark a.numbers.now) [] ≡ [] = grind (arith, common_steps) in
    rw e (put-none _ _ (omega arith))

pub returns-then-is_number : goal.returns-then-is_number
unfolding byte_text
returns-then-is_number c =
    let a = c.args in
    let e : cond a.shown (byte_text a.width a.mark a.numbers.now) [] ≡ right_text (a.width + 1) 32 (next_text a.mark a.numbers.now) =
    grind (arith, common_steps) in
    rw e c.put_next.ensures

pub returns-else-is_number : goal.returns-else-is_number
unfolding byte_text
returns-else-is_number c =
    let a = c.args in
    let e : cond a.shown (byte_text a.width a.mark a.numbers.now) [] ≡ a.mark ∷ [] = grind (arith, common_steps) in
    rw e c.put_byte.ensures
