-- `put_form` puts what one byte shows a turn; what is left of the form, with what is left of the numbers, is the rest of its text.
-- Assumes nothing.
use native.Mathlib.Omega.{arith}
use Rattle.forms.proofs.Fillings.{passing-none, passing-more, passing-all}
use Rattle.forms.proofs.form.put_form.Goals as goal

pub loop-mark-init : goal.loop-mark-init
loop-mark-init c = let a = c.args in passing-none a.room.now a.at a.form.now a.numbers.now (omega arith)

pub loop-mark-preserved : goal.loop-mark-preserved
loop-mark-preserved c =
    passing-more (omega arith) (omega arith) c.loop-mark.invariant c.put_mark-place.ensures c.turn_after-turn.ensures
    c.width_after-width.ensures c.numbers_after-left.ensures

pub returns : goal.returns
returns c = passing-all (omega arith) c.loop-mark.invariant
