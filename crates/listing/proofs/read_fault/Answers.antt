-- `read_fault` tests the form, and then the number of entries.
-- Assumes nothing.
use mathlib.Core.Path.{◌≡◌, sym, ◌∙◌}
use native.Mathlib.Omega.{arith}
use Rattle.std.proofs.lemmas.Result.{err_from_is_err_and}
use Rattle.layout.proofs.Passing.{form-passed-length}
use Rattle.layout.proofs.Contained.{contents-count}
use Rattle.listing.proofs.Listings.{read-formless, read_short, read-passed}
use Rattle.listing.proofs.read_fault.Goals as goal

pub returns-in_err-form : goal.returns-in_err-form
returns-in_err-form c =
    let p = err_from_is_err_and c.from_residual.result c.from_residual.ensures.1 in
    rw (p.1, p.2) (read-formless _ _ _ (sym c.in_err-form.ensures))

pub offer_count-requires : goal.offer_count-requires
offer_count-requires c = form-passed-length _ (sym c.in_ok-form.ensures)

pub returns-then-entries-offer_count : goal.returns-then-entries-offer_count
returns-then-entries-offer_count c =
    read_short _ _ (sym c.in_ok-form.ensures) (omega (arith, c.if-entries-offer_count.true, c.offer_count.ensures.0 ∙ contents-count _))

pub returns : goal.returns
returns c =
    read-passed _ _ (sym c.in_ok-form.ensures) (omega (arith, c.if-entries-offer_count.false, c.offer_count.ensures.0 ∙ contents-count _))
