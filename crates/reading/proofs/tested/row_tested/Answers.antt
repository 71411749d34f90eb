-- `row_tested` asks for the row before where the row is past step 1.
-- Assumes nothing.
use mathlib.Core.Path.{◌≡◌, sym, ap, ◌∙◌}
use mathlib.Core.Bool.{Bool}
use Prim.Native.Nat.{◌-◌}
use native.Mathlib.Omega.{arith}
use Rattle.values.specs.Place.{offer_of}
use Rattle.values.specs.declared.place.Offer.{Offer}
use Rattle.steps.specs.Steps.{step_follows}
use Rattle.limits.specs.inner.Rows.{past_fault}
use Rattle.limits.proofs.Tested.{row_fault-first, row_fault-past}
use Rattle.sections.specs.Blocks.{row_bytes}
use Rattle.layout.specs.Read.{row_offer}
use Rattle.reading.proofs.tested.row_tested.Goals as goal
use Rattle.reading.proofs.tested.row_tested.Goals.{After-offer_in}

pub returns-then-o-eq1 : goal.returns-then-o-eq1
returns-then-o-eq1 c = c.offer_fault.ensures ∙ sym (row_fault-first _ _ _ _ _ c.if-o-eq1.true)

-- the offer that was read is that of the row before
as_before : (c : After-offer_in) → let a = c.args in
    c.offer_in.result ≡ row_offer a.book.now a.edition a.first (a.row - 1)
unfolding row_offer
as_before c =
    c.offer_in.ensures
    ∙ ap (offer_of c.args.edition)
    (c.row_bytes-before.ensures.0 ∙ ap (row_bytes c.args.book.now c.args.first) c.saturating_sub.ensures)

pub returns : goal.returns
returns c =
    let a = c.args in
    c.past_fault.ensures
    ∙ ap (λ (follows : Bool). past_fault a.needed a.edition a.o follows a.row)
    (c.step_follows-follows.ensures ∙ ap (λ (before : Offer). step_follows before a.o) (as_before (goal.at.returns c).After-offer_in))
    ∙ sym (row_fault-past _ _ _ _ _ c.if-o-eq1.false
    (λ z. ap (row_offer a.book.now a.edition a.first) (omega arith) ∙ sym c.requires.own))
