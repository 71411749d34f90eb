-- `put_decimal` puts the parts into a local buffer that has room for them, and then the whole text.
-- Assumes nothing.
use mathlib.Core.Path.{◌≡◌}
use native.Mathlib.Nat.{le_refl, one-le-pow}
use native.Mathlib.Omega.{arith}
use lib.ListN.{take}
use Rattle.text.specs.inner.Number.{decimal_text}
use Rattle.text.proofs.Numbers.{decimal-parts}
use Rattle.text.proofs.number.put_decimal.Goals as goal
use Rattle.text.proofs.number.put_decimal.Goals.{After-put_filled-end}

-- the local buffer, once the parts were put, holds the text
composed : (c : After-put_filled-end) →
    take c.put_filled-end.result c.put_filled-end.new.out ≡ decimal_text c.min-p.result c.args.n
composed c =
    decimal-parts _ _ c.pow-unit.result _
    (omega (arith, c.min-p.ensures))
    (omega arith)
    c.pow-unit.ensures
    (le_refl 41)
    c.put_number-point.ensures
    c.put_byte-rest.ensures
    c.put_filled-end.ensures

pub returns : goal.returns
returns c = rw (← c.min-p.ensures, ← composed (goal.at.returns c).After-put_filled-end) c.put_bytes.ensures

pub nonzero_div-n : goal.nonzero_div-n
nonzero_div-n c = omega (arith, one-le-pow c.min-p.result 10 (omega arith), c.pow-unit.ensures)

pub nonzero_rem-n : goal.nonzero_rem-n
nonzero_rem-n c = omega (arith, one-le-pow c.min-p.result 10 (omega arith), c.pow-unit.ensures)
