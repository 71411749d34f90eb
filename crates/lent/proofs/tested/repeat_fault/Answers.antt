-- `repeat_fault` searches for a repeat in both halves of what is kept.
-- Assumes nothing.
use mathlib.Core.Path.{◌≡◌, ap}
use Prim.Native.Nat.{ℕ, ◌+◌, ◌-◌, ◌/◌}
use native.Mathlib.Nat.{sub-zero}
use lib.ListN.{length, get_or, take, drop, length-drop}
use lib.Seq.{take_all}
use Rattle.repeats.specs.inner.Repeats.{first_repeat}
use Rattle.lent.proofs.Drafts.{repeat-halves, repeated-here, repeated-none}
use native.Mathlib.Omega.{arith}
use Rattle.lent.proofs.tested.repeat_fault.Goals as goal
use Rattle.lent.proofs.tested.repeat_fault.Goals.{After-first_repeat-repeat}

-- the search in both halves of what is kept
halves : (c : After-first_repeat-repeat) → let a = c.args in
    c.first_repeat-repeat.result
    ≡ first_repeat (λ row. get_or a.kept.now row 0) (λ row. get_or a.kept.now (length a.kept.now / 2 + row) 0) a.d.rows
halves c =
    let kept = c.args.kept.now in
    repeat-halves c.args.d kept _ _ c.requires.0 (ap (λ (k : ℕ). take k kept) (sub-zero (length kept / 2)))
    (take_all (length kept - length kept / 2) (drop (length kept / 2) kept) (omega (arith, length-drop (length kept / 2) kept))) c.first_repeat-repeat.ensures.0

pub returns-then-repeat-d : goal.returns-then-repeat-d
returns-then-repeat-d c =
    repeated-here _ _ (halves (goal.at.returns-then-repeat-d c).After-first_repeat-repeat) c.if-repeat-d.true

pub returns : goal.returns
returns c =
    repeated-none _ _ (halves (goal.at.returns c).After-first_repeat-repeat) (omega (arith, c.if-repeat-d.false))
