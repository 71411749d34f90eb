-- `is_blank` tells whether the n bytes from a place on are all zero. The loop's invariant: no bit is set exactly where the
-- bytes passed are all zero.
-- Assumes nothing.
use mathlib.Core.Path.{◌≡◌, refl, sym, ap, ◌∙◌}
use mathlib.Core.Bool.{◌&&◌}
use Prim.Native.Nat.{ℕ, zero, suc}
use native.Mathlib.Numerals.{add-one}
use native.Mathlib.Omega.{arith}
use lib.Bits.{bit_or, or_add_and, and_le_r}
use lib.Dec.{eqb, eqb-suc-zero}
use borrow.Author.Tests.{ne_eqb}
use Rattle.laws.proofs.Everys.{every-zero, every-suc}
use Rattle.block.specs.Bytes.{blank}
use Rattle.block.proofs.bytes.is_blank.Goals as goal

-- no bit of either of two numbers is set exactly where both are 0
none-set : (a b : ℕ) → eqb (bit_or a b) 0 ≡ eqb a 0 && eqb b 0
none-set zero b = refl
none-set (suc a) b =
    rw eqb-suc-zero (ne_eqb (bit_or (suc a) b) 0 (λ e. omega (arith, or_add_and (suc a) b, and_le_r (suc a) b)))

pub loop-i-init : goal.loop-i-init
unfolding blank
loop-i-init c = (omega arith, sym (every-zero _))

pub loop-i-preserved : goal.loop-i-preserved
unfolding blank
loop-i-preserved c = (omega arith, rw (add-one, every-suc, none-set, c.loop-i.invariant.1))

pub returns : goal.returns
returns c = c.loop-i.invariant.1 ∙ ap (blank _ _) (omega arith)
