-- The contract of each public function of this crate leaves one answer: any two that it allows for the same bytes or offers coincide,
-- wherever the books lie.
-- Assumes nothing.
use mathlib.Core.Path.{◌≡◌, sym, ◌∙◌}
use mathlib.Core.List.{List}
use Prim.Native.Nat.{ℕ}
use contract.Lifetimes.{Lfts}
use denote.Ref.{Bor}
use Rattle.laws.proofs.Answers.{same_answer}
use Rattle.values.specs.declared.place.Offer.{Offer}
use Rattle.causes.specs.Cause.{cause_of}
use Rattle.causes.proofs.layout_cause.Reads as layout-cause
use Rattle.causes.proofs.rules.step_cause.Reads as step-cause
use Rattle.causes.proofs.Test.number.Reads as test-number
use Rattle.causes.proofs.rules.Rule.number.Reads as rule-number
use Rattle.causes.specs.declared.Cause.{Cause}
use Rattle.causes.specs.declared.Test.{Test}
use Rattle.causes.specs.declared.rules.Rule.{Rule}
use Rattle.std.specs.declared.option.Option.{Option}

-- the cause of refusal 3, by the contract of `layout_cause`
pub layout-cause-decided : (κs : Lfts 1) (book other : Bor (List ℕ)) → book.now ≡ other.now → (r s : Option Cause)
    → layout-cause.Post κs (book, tt) r (book, tt) → layout-cause.Post κs (other, tt) s (other, tt) → r ≡ s
layout-cause-decided κs book other same r s = same_answer cause_of same

-- the rule that a row breaks, by the contract of `step_cause`
pub step-cause-decided : (before o : Offer) (row : ℕ) (r s : Option Rule)
    → step-cause.Post tt (before, (o, (row, tt))) r (before, (o, (row, tt)))
    → step-cause.Post tt (before, (o, (row, tt))) s (before, (o, (row, tt)))
    → r ≡ s
step-cause-decided before o row r s e f = e ∙ sym f

-- the number of a test of a layout, by the contract of `Test::number`
pub test-number-decided : (test : Test) (r s : ℕ)
    → test-number.Post tt (test, tt) r (test, tt) → test-number.Post tt (test, tt) s (test, tt) → r ≡ s
test-number-decided test r s e f = e ∙ sym f

-- the number of a rule of steps, by the contract of `Rule::number`
pub rule-number-decided : (rule : Rule) (r s : ℕ)
    → rule-number.Post tt (rule, tt) r (rule, tt) → rule-number.Post tt (rule, tt) s (rule, tt) → r ≡ s
rule-number-decided rule r s e f = e ∙ sym f
