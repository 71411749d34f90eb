-- `last_holds` meets its contract: byte by byte, or, where the rule admits marks alone, by one number.
-- Assumes nothing.
use mathlib.Core.Path.{sym, ap₂, ◌∙◌}
use Prim.Native.Nat.{◌<◌}
use native.Mathlib.Omega.{arith}
use lib.Dec.{leb}
use borrow.Author.Rules.{rules}
use Rattle.sections.proofs.Last.{last-holds-alone}
use Rattle.sections.proofs.rows.last_holds.Goals as goal

pub returns : goal.returns
returns c =
    let args = c.args in
    let small : args.last.marks < 256 = search rules in
    ap₂ leb c.u32_at.ensures.0 c.from-4.ensures
    ∙ sym (last-holds-alone args.last args.p.now small (omega arith))
