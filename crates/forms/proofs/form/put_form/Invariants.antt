-- `put_form` puts what one byte shows a turn; what is left of the form, with what is left of the numbers, is the rest of its text.
-- Assumes nothing.
use Rattle.forms.proofs.Fillings.{Passing}
use Rattle.forms.proofs.form.put_form.Given as goal

abbrev pub invariant-loop-mark : goal.invariant-loop-mark
invariant-loop-mark l = Passing l.initial.room l.at l.form l.numbers l.room l.place l.left l.width l.turn l.mark-index
