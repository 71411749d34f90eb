-- Each turn tests one row more, until no row is left.
use Rattle.std.proofs.Common.{arith, ◌<◌, length, ◌≡◌, ap, ◌∙◌, add-one}
use mathlib.Core.List.{map}
use Rattle.plain.specs.Given.{offer_in}
use Rattle.lent.proofs.Placing.{offer-there}
use Rattle.lent.specs.declared.tested.Draft.{Draft}
use Rattle.lent.proofs.Testing.{draft_at, draft-none, draft-next, kept-none, kept_next, length-kept, tested-none, tested-few, tested-more, tested-end}
use Rattle.ozpinduru.proofs.write.test_rows.Goals as goal

pub loop-i-init : goal.loop-i-init
loop-i-init c = record {
  draft = draft-none c.args.edition (map offer_in c.args.rows.now) c.args.d c.args.kept.now;
  kept = kept-none c.args.edition (map offer_in c.args.rows.now) c.args.d c.args.kept.now;
  tested = tested-none c.args.edition (map offer_in c.args.rows.now) c.args.d c.args.kept.now;
}

pub bounds-rows-i : goal.bounds-rows-i
bounds-rows-i c =
    let few = tested-few _ _ _ _ _ c.loop-i.invariant.tested in
    omega (arith, few, ap (λ (d : Draft). d.rows) c.loop-i.invariant.draft)

pub test_row-t-requires : goal.test_row-t-requires
test_row-t-requires c =
    let few = tested-few _ _ _ _ _ c.loop-i.invariant.tested in
    let left : c.loop-i.i < c.args.d.rows = omega (arith, few, ap (λ (d : Draft). d.rows) c.loop-i.invariant.draft) in
    let long : length c.loop-i.kept ≡ length c.args.kept.now = ap length c.loop-i.invariant.kept ∙ length-kept _ _ _ _ _ in
    (omega (arith, left, long), omega (arith, left))

pub loop-i-smaller : goal.loop-i-smaller
loop-i-smaller c =
    let few = tested-few _ _ _ _ _ c.loop-i.invariant.tested in
    omega (arith, few, ap (λ (d : Draft). d.rows) c.loop-i.invariant.draft)

pub loop-i-preserved : goal.loop-i-preserved
loop-i-preserved c =
    let few = tested-few _ _ _ _ _ c.loop-i.invariant.tested in
    let left : c.loop-i.i < (draft_at c.args.edition (map offer_in c.args.rows.now) c.args.d c.args.kept.now c.loop-i.i).rows = omega (arith, ap (λ (d : Draft). d.rows) c.loop-i.invariant.draft) in
    let there = offer-there c.args.rows.now c.loop-i.i _ (omega (arith, few, left)) in
    rw add-one
    record {
      draft = c.test_row-t.ensures.0 ∙ rw c.loop-i.invariant.draft (draft-next c.args.edition (map offer_in c.args.rows.now) c.args.d c.args.kept.now c.loop-i.i there);
      kept = c.test_row-t.ensures.1 ∙ rw c.loop-i.invariant.kept (kept_next c.args.edition (map offer_in c.args.rows.now) c.args.d c.args.kept.now c.loop-i.i there);
      tested = tested-more c.args.edition (map offer_in c.args.rows.now) c.args.d c.args.kept.now (omega arith) c.requires.3 c.loop-i.i c.loop-i.invariant.tested left;
    }

pub returns : goal.returns
returns c = rw (c.loop-i.invariant.draft, c.loop-i.invariant.kept)
    (tested-end c.args.edition (map offer_in c.args.rows.now) c.args.d c.args.kept.now c.loop-i.i c.loop-i.invariant.tested (omega (arith, ap (λ (d : Draft). d.rows) c.loop-i.invariant.draft)))
