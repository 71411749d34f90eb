-- A rule of steps is named exactly where a row breaks one.
-- Assumes nothing.
use mathlib.Core.Path.{◌≡◌, refl, sym, ap, ◌∙◌}
use mathlib.Core.Bool.{Bool, true, false, not, cond, ◌&&◌, ◌||◌, false≢true}
use Prim.Native.Nat.{ℕ, zero, suc, ◌+◌}
use native.Mathlib.Omega.{arith}
use lib.Dec.{eqb, eqb-suc-zero, ltb}
use borrow.Author.Tests.{lt-ltb}
use Rattle.std.specs.Prelude.{Some, None}
use Rattle.std.specs.declared.option.Option.{Option}
use Rattle.values.specs.declared.place.Offer.{Offer}
use Rattle.steps.specs.Steps.{not_cheaper, flexible, step_follows, step_holds}
use Rattle.causes.specs.Rules.{follow_cause, step_cause}
use Rattle.causes.specs.declared.rules.Rule.{Rule}
use Rattle.causes.specs.declared.rules.Rule.TheVariants.{Before, Resource, Step, Price, Block}

-- no rule is broken
abbrev kept : Option Rule → Bool
kept None = true
kept (Some rule) = false

kept-none : (found : Option Rule) → kept found ≡ true → found ≡ None
kept-none None e = refl
kept-none (Some rule) e = absurd (false≢true e)

-- a choice among the rules finds none where each of them is kept
follow-choice : (r t p f : Bool)
    → kept (cond r (cond t (cond p (cond f None (Some Block)) (Some Price)) (Some Step)) (Some Resource)) ≡ r && (t && (p && f))
follow-choice false t p f = refl
follow-choice true false p f = refl
follow-choice true true false f = refl
follow-choice true true true false = refl
follow-choice true true true true = refl

step-choice : (s z : Bool) (follow : Option Rule) → kept (cond s None (cond z (Some Before) follow)) ≡ s || (not z && kept follow)
step-choice true z follow = refl
step-choice false true follow = refl
step-choice false false follow = refl

-- there is a row before any but row 0
row_before : (row : ℕ) → ltb 0 row ≡ not (eqb row 0)
row_before zero = refl
row_before (suc row) = rw eqb-suc-zero (lt-ltb 0 (suc row) (omega arith))

module _ (before o : Offer) where
  follow-agree : kept (follow_cause before o) ≡ step_follows before o
  unfolding follow_cause step_follows
  follow-agree =
      follow-choice (eqb o.resource before.resource) (eqb o.step (before.step + 1))
      (not_cheaper before.price o.price) (flexible o.block)

  step-agree : (row : ℕ) → kept (step_cause before o row) ≡ step_holds before o row
  unfolding step_cause step_holds
  step-agree row = rw (row_before row, ← follow-agree) (step-choice (eqb o.step 1) (eqb row 0) (follow_cause before o))

  pub step-none : (row : ℕ) → step_holds before o row ≡ true → step_cause before o row ≡ None
  step-none row e = kept-none (step_cause before o row) (step-agree row ∙ e)

  pub step-found : (row : ℕ) → step_cause before o row ≡ None → step_holds before o row ≡ true
  step-found row e = sym (step-agree row) ∙ ap kept e
