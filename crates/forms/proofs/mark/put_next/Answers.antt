-- `put_next` puts the text of the next number, made in a room that holds any.
-- Assumes nothing.
use mathlib.Core.Path.{refl}
use native.Mathlib.Omega.{arith}
use lib.ListN.{get_or, replicate}
use Rattle.forms.specs.Mark.{mark_text}
use Rattle.forms.proofs.Numbers.{Made, mark_made}
use Rattle.forms.proofs.Fillings.{next-none, next-some}
use Rattle.forms.proofs.mark.put_next.Goals as goal
use Rattle.forms.proofs.mark.put_next.Goals.{After-put_text-end}

pub returns-in_default : goal.returns-in_default
returns-in_default c =
    let a = c.args in rw (next-none a.mark a.numbers.now c.in_default.len_below) c.put_right.ensures

-- the local room, once the text was put there
made : (c : After-put_text-end) →
    let a = c.args in
    Made (mark_text a.mark (get_or a.numbers.now 0 0)) c.put_text-end.new.room c.put_text-end.result
made c =
    let a = c.args in
    mark_made (replicate 64 0) _ _ refl (omega arith) c.put_text-end.ensures

pub slice_bounds-text-end : goal.slice_bounds-text-end
slice_bounds-text-end c = (made (goal.at.slice_bounds-text-end c).After-put_text-end).within

pub slice_bounds-put_right-end-2 : goal.slice_bounds-put_right-end-2
slice_bounds-put_right-end-2 c = (made (goal.at.slice_bounds-put_right-end-2 c).After-put_text-end).counted

pub returns : goal.returns
returns c =
    let a = c.args in
    rw (next-some a.mark a.numbers.now c.in-len1-up.len_at_least)
    (rw (made (goal.at.returns c).After-put_text-end).front at c.put_right-2.ensures)
