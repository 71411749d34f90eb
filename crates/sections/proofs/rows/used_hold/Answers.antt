-- `used_hold` tells whether the used places are laid out as such. The loop's invariant: those passed are.
-- Assumes nothing.
use mathlib.Core.Path.{◌≡◌, ap, ◌∙◌}
use mathlib.Core.Bool.{not}
use lib.Dec.{ltb}
use borrow.Author.Rules.{rules}
use native.Mathlib.Omega.{arith}
use Rattle.laws.proofs.Everys.{every-zero}
use Rattle.laws.proofs.Ways.{place-held, place-failed, places-held}
use Rattle.sections.proofs.Parts.{place-part}
use Rattle.sections.specs.Blocks.{place_of}
use Rattle.sections.specs.inner.Section.{used_only}
use Rattle.sections.proofs.rows.used_hold.Goals as goal
use Rattle.sections.proofs.rows.used_hold.Goals.{After-used_only}

pub loop-i-init : goal.loop-i-init
loop-i-init c = (search rules, every-zero _)

-- what the call ensures, of the place of the definition
as_place : (c : After-used_only) →
    let args = c.args in
    let i = c.loop-i.i in
    c.used_only.result ≡ used_only args.last (ltb i args.here) (place_of args.s.now i)
as_place c = c.used_only.ensures ∙ ap (used_only _ _) (place-part _ _)

pub returns-then-not-used_only : goal.returns-then-not-used_only
returns-then-not-used_only c =
    place-failed _ _ 15 c.loop-i-test.true (as_place (goal.at.returns-then-not-used_only c).After-used_only) (ap not c.if-not-used_only.true)

pub loop-i-preserved : goal.loop-i-preserved
loop-i-preserved c = (
  search rules,
  place-held _ _ c.loop-i.invariant.1 (as_place (goal.at.loop-i-preserved c).After-used_only) (ap not c.if-not-used_only.false),
)

pub returns : goal.returns
returns c = places-held _ c.loop-i.invariant.1 (omega arith)
