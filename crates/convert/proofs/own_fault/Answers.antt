-- `own_fault` tests the book, and then its steps.
-- Assumes nothing.
use mathlib.Core.Path.{◌≡◌, sym, ◌∙◌}
use Rattle.std.proofs.lemmas.Result.{err_from_is_err_and}
use Rattle.layout.proofs.Passing.{form-passed-length}
use Rattle.book.specs.Faults.{sound_fault}
use Rattle.book.proofs.Accepted.{sound-form}
use Rattle.book.proofs.Stages.{form-inside}
use Rattle.convert.proofs.Told.{down-own, own-unsound, own-down}
use Rattle.convert.proofs.own_fault.Goals as goal
use Rattle.convert.proofs.own_fault.Goals.{In_ok-soundness}
use Rattle.values.specs.Refusals.{no_fault}

pub returns-in_err-soundness : goal.returns-in_err-soundness
returns-in_err-soundness c =
    let failed = err_from_is_err_and c.from_residual.result c.from_residual.ensures.1 in
    rw (failed.1, failed.2) (own-unsound _ _ (sym c.soundness.ensures ∙ c.in_err-soundness.was))

-- past the first test the book is sound
sounded : (c : In_ok-soundness) → sound_fault c.args.book.now ≡ no_fault
sounded c = sym c.soundness.ensures ∙ c.in_ok-soundness.was

pub edition-requires : goal.edition-requires
edition-requires c = form-passed-length _ (sound-form _ (sounded (goal.at.edition-requires c).In_ok-soundness))

pub offer_count-requires : goal.offer_count-requires
offer_count-requires c = form-passed-length _ (sound-form _ (sounded (goal.at.offer_count-requires c).In_ok-soundness))

pub down_fault-requires : goal.down_fault-requires
down_fault-requires c =
    rw c.offer_count.ensures.0 (form-inside _ (sound-form _ (sounded (goal.at.down_fault-requires c).In_ok-soundness)))

pub returns : goal.returns
returns c =
    own-down _ (sounded (goal.at.returns c).In_ok-soundness)
    (c.down_fault.ensures ∙ down-own _ _ _ c.edition.ensures.0 c.offer_count.ensures.0)
