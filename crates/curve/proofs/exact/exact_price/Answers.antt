-- `curve::exact::exact_price` meets its contract: each test picks the part of the curve that it returns from.
-- Assumes nothing.
use mathlib.Core.Path.{sym, ◌∙◌}
use native.Mathlib.Omega.{arith}
use Rattle.curve.proofs.Exacts.{exact-level, exact-first, exact-second}
use Rattle.curve.proofs.exact.exact_price.Goals as goal

pub returns-then-k-c : goal.returns-then-k-c
returns-then-k-c c = sym (exact-level c.args.c c.args.k c.if-k-c.true)

pub returns-then-k-c-2 : goal.returns-then-k-c-2
returns-then-k-c-2 c = c.between.ensures ∙ sym (exact-first c.args.c c.args.k (omega arith) (omega arith))

pub returns-else-k-c-2 : goal.returns-else-k-c-2
returns-else-k-c-2 c = c.between-else-k-c-2.ensures ∙ sym (exact-second c.args.c c.requires.0 c.args.k (omega arith))
