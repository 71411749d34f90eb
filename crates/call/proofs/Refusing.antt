-- A refusal, read on the call: its number and place, and that nothing else is changed.
-- Assumes nothing.
use mathlib.Core.Path.{◌≡◌}
use mathlib.Core.List.{List}
use Prim.Native.Nat.{ℕ}
use lib.ListN.{length}
use contract.Lifetimes.{Lfts}
use denote.Ref.{Bor, MutBor}
use Rattle.std.specs.Prelude.{Err}
use Rattle.call.specs.Answer.{Outcome, call_fault}
use Rattle.call.proofs.Decided.{Called, call-outcome}
use Rattle.call.proofs.Outcomes.{refused-first, refused-kept}
use Rattle.values.specs.declared.refusal.Refusal.{Refusal}

module _ (κs : Lfts 3) (book : Bor (List ℕ)) (cleared₀ committed₀ cleared₁ committed₁ : MutBor (List ℕ)) (refusal : Refusal)
    (called : Called κs book cleared₀ committed₀ cleared₁ committed₁ (Err refusal)) where
  out : Outcome book.now cleared₀.now committed₀.now (Err refusal) cleared₁.now committed₁.now
  out = call-outcome κs book cleared₀ committed₀ cleared₁ committed₁ (Err refusal) called

  -- DEMAND 1. The number and the place are those of the first fault of the call.
  pub call-refused : call_fault book.now (length cleared₀.now) (length committed₀.now) ≡ Err refusal
  call-refused = refused-first book.now cleared₀.now committed₀.now refusal cleared₁.now committed₁.now out

  -- DEMAND 1. Both buffers hold what they held before.
  pub call_kept : (cleared₁.now ≡ cleared₀.now) × (committed₁.now ≡ committed₀.now)
  call_kept = refused-kept book.now cleared₀.now committed₀.now refusal cleared₁.now committed₁.now out
