-- Whether a test passed, as a Boolean, which goes through tests that follow one another.
--
-- In order: what passed or not; one test, two; tests that pass alike at each place.
-- Assumes nothing.
use mathlib.Core.Path.{◌≡◌, refl, sym, ap, ap₂, ◌∙◌}
use mathlib.Core.Bool.{Bool, true, false, ◌&&◌, true≢false, false≢true}
use Prim.Native.Nat.{ℕ, zero, suc, ◌<◌}
use native.Mathlib.Omega.{arith}
use Rattle.std.specs.Prelude.{Err, Ok}
use Rattle.laws.specs.Sum.{every}
use Rattle.laws.proofs.Everys.{every-zero, every-suc}
use Rattle.values.specs.Refusals.{Tested, no_fault, unless, and_then, first}
use Rattle.values.proofs.Firsts.{first-zero, first-suc}

module _ {E : Type 0} where
  abbrev pub passes : Tested E → Bool
  passes (Ok u) = true
  passes (Err fault) = false

  pub passed-of : (v : Tested E) → passes v ≡ true → v ≡ no_fault
  passed-of (Ok u) e = refl
  passed-of (Err fault) e = absurd (false≢true e)

  pub passes-unless : (t : Bool) (fault : E) → passes (unless t (Err fault)) ≡ t
  passes-unless true fault = refl
  passes-unless false fault = refl

  pub passes-and_then : (v w : Tested E) → passes (and_then v w) ≡ passes v && passes w
  passes-and_then (Ok u) w = refl
  passes-and_then (Err fault) w = refl

  -- what is not passed decides over what follows
  pub and_then-stops : (v w : Tested E) → passes v ≡ false → and_then v w ≡ v
  and_then-stops (Ok u) w e = absurd (true≢false e)
  and_then-stops (Err fault) w e = refl

  pub passes-first : (test : ℕ → Tested E) (holds : ℕ → Bool) (n : ℕ)
      → ((i : ℕ) → i < n → passes (test i) ≡ holds i) → passes (first test n) ≡ every holds n
  passes-first test holds zero h = ap passes (first-zero test) ∙ sym (every-zero holds)
  passes-first test holds (suc n) h =
      ap passes (first-suc test n)
      ∙ passes-and_then (first test n) (test n)
      ∙ ap₂ ◌&&◌ (passes-first test holds n (λ i l. h i (omega arith))) (h n (omega arith))
      ∙ sym (every-suc holds n)
