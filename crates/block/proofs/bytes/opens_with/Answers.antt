-- `opens_with` tells whether the four letters are the first four bytes.
-- Assumes nothing.
use mathlib.Core.Path.{◌≡◌, ◌∙◌}
use mathlib.Core.Bool.{◌&&◌}
use mathlib.Core.List.{List, [], ◌∷◌}
use Prim.Native.Nat.{ℕ}
use native.Mathlib.Omega.{arith}
use lib.Dec.{eqb}
use lib.ListN.{length}
use lib.Pointwise.{pointwise}
use Rattle.std.proofs.Math.Bool.{and-true}
use Rattle.block.specs.Bytes.{byte, opens_with}
use Rattle.block.proofs.bytes.opens_with.Goals as goal

-- four numbers against a list of four
four-alike : (a b c d : ℕ) (xs : List ℕ) → length xs ≡ 4 → pointwise eqb (a ∷ b ∷ c ∷ d ∷ []) xs
    ≡ eqb a (byte xs 0) && (eqb b (byte xs 1) && (eqb c (byte xs 2) && eqb d (byte xs 3)))
four-alike a b c d (p ∷ q ∷ r ∷ s ∷ []) e = simp (and-true)
four-alike a b c d (p ∷ q ∷ r ∷ s ∷ t ∷ xs) e = absurd (omega arith)
four-alike a b c d (p ∷ q ∷ r ∷ []) e = absurd (omega arith)
four-alike a b c d (p ∷ q ∷ []) e = absurd (omega arith)
four-alike a b c d (p ∷ []) e = absurd (omega arith)
four-alike a b c d [] e = absurd (omega arith)

pub returns : goal.returns
unfolding opens_with
returns c = c.eq.ensures ∙ four-alike _ _ _ _ _ c.told-letters
