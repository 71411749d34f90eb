-- `steps_fault` finds the first row with a step of 2 or more. The loop's invariant: the rows passed had none.
-- Assumes nothing.
use mathlib.Core.Path.{◌≡◌, sym, ap, ◌∙◌}
use mathlib.Core.List.{List}
use Prim.Native.Nat.{◌≤◌}
use lib.ListN.{length}
use native.Mathlib.Omega.{arith}
use borrow.Author.Rules.{rules}
use Rattle.values.specs.Contents.{offer_at}
use Rattle.values.specs.declared.refusal.Refusal.TheVariants.{SeveralSteps}
use Rattle.values.specs.Refusals.{first}
use Rattle.values.specs.declared.place.Offer.{Offer}
use Rattle.values.proofs.Firsts.{first-zero, first_on, first-refused}
use Rattle.layout.specs.Read.{row_offers}
use Rattle.layout.proofs.Contained.{length-row_offers, offer-of-row}
use Rattle.convert.specs.Convert.{steps_fault}
use Rattle.convert.proofs.Converted.{one_step, row-passed, row-refused}
use Rattle.convert.proofs.steps_fault.Goals as goal
use Rattle.convert.proofs.steps_fault.Goals.{After-offer_in-o, Start}

pub loop-row-init : goal.loop-row-init
loop-row-init c = (search rules, first-zero _)

pub row_bytes-requires : goal.row_bytes-requires
row_bytes-requires c = c.requires.within c.loop-row.row (omega arith)

-- the offers of the book, from the function's entry
abbrev offers : Start → List Offer
offers c = row_offers c.args.book.now c.args.edition 1 c.args.n

-- the offer that was read is the row's own
as-offer : (c : After-offer_in-o) →
    c.offer_in-o.result ≡ offer_at (row_offers c.args.book.now c.args.edition 1 c.args.n) c.loop-row.row
as-offer c = offer-of-row _ _ _ _ _ (omega arith) c.row_bytes.ensures.0 c.offer_in-o.ensures

-- as many as there are rows
all-offers : (c : Start) → length (offers c) ≡ c.args.n
all-offers c = length-row_offers c.args.book.now c.args.edition 1 c.args.n

pub returns-then-o-gt1 : goal.returns-then-o-gt1
unfolding steps_fault
returns-then-o-gt1 c =
    let at = goal.at.returns-then-o-gt1 c in
    let os = offers at.Start in
    let own = as-offer at.After-offer_in-o in
    let over : 2 ≤ (offer_at os c.loop-row.row).step = omega (arith, c.if-o-gt1.true, ap (λ (o : Offer). o.step) own) in
    sym
    (ap (first (one_step os)) (all-offers at.Start)
    ∙ first-refused (one_step os) c.args.n c.loop-row.row (SeveralSteps c.loop-row.row) (omega arith)
    c.loop-row.invariant.1 (row-refused os c.loop-row.row over))

pub loop-row-preserved : goal.loop-row-preserved
loop-row-preserved c =
    let at = goal.at.loop-row-preserved c in
    let os = offers at.Start in
    let own = as-offer at.After-offer_in-o in
    let low : (offer_at os c.loop-row.row).step ≤ 1 = omega (arith, c.if-o-gt1.false, ap (λ (o : Offer). o.step) own) in
    (search rules, first_on (one_step os) c.loop-row.row c.loop-row.invariant.1 (row-passed os c.loop-row.row low))

pub returns : goal.returns
unfolding steps_fault
returns c =
    let at = goal.at.returns c in
    let os = offers at.Start in
    let end : c.loop-row.row ≡ length os = omega (arith, c.loop-row.invariant.0, all-offers at.Start) in
    sym (ap (first (one_step os)) (sym end) ∙ c.loop-row.invariant.1)
