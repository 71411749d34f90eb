-- The second pass over the rows, as the code makes it: a repeat was found before the refused row, or none was.
-- Assumes nothing.
use mathlib.Core.Path.{◌≡◌}
use Prim.Native.Nat.{ℕ, ◌≤◌, ◌<◌}
use borrow.Author.Tests.{lt-ltb, le-ltb}
use Rattle.values.specs.Refusals.{repeated_resource, Verdict}
use Rattle.repeats.specs.inner.Repeats.{first_repeat}
use Rattle.limits.specs.inner.Rows.{rows_before, with_repeats}

module _ (found : Verdict) (resources steps : ℕ → ℕ) (n limit repeat : ℕ)
    (before : limit ≡ rows_before found n) (searched : repeat ≡ first_repeat resources steps limit) where
  pub with_repeats-repeat : repeat < limit → repeated_resource repeat ≡ with_repeats found resources steps n
  unfolding with_repeats
  with_repeats-repeat l = rw (← before, ← searched, lt-ltb repeat limit l)

  pub with_repeats-none : limit ≤ repeat → found ≡ with_repeats found resources steps n
  unfolding with_repeats
  with_repeats-none l = rw (← before, ← searched, le-ltb repeat limit l)
