-- `stepped_holds` meets its contract: byte by byte, or, where the rule admits marks and any step alone, by one number.
-- Assumes nothing.
use mathlib.Core.Path.{sym, ap₂, ◌∙◌}
use Prim.Native.Nat.{ℕ, ◌+◌, ◌*◌, ◌/◌, ◌%◌, ◌<◌}
use native.Mathlib.Omega.{arith}
use lib.Dec.{leb}
use borrow.Author.Rules.{rules}
use Rattle.sections.proofs.Last.{last-holds-stepped}
use Rattle.sections.proofs.rows.stepped_holds.Goals as goal

pub returns : goal.returns
returns c =
    let last = c.args.last in
    let small : last.marks < 256 = search rules in
    let width : last.step < 256 = search rules in
    ap₂ (λ (n marks : ℕ). leb (n % 256 + n / 65536 * 65536) marks) c.u32_at-number.ensures.0 c.from-4.ensures
    ∙ sym
    (last-holds-stepped last c.args.p.now small (omega arith) width
    (omega (arith, c.type_inv.p 28))
    (omega (arith, c.type_inv.p 29)))
