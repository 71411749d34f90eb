-- `curve::exact::price_at` meets its contract: the price up to Q3, and that there is none past it.
-- Assumes nothing.
use mathlib.Core.Path.{sym}
use Rattle.curve.proofs.Exacts.{exact-within, no-exact-past}
use Rattle.curve.proofs.exact.price_at.Goals as goal

pub returns-then-k-c : goal.returns-then-k-c
returns-then-k-c c = exact-within _ _ _ c.if-k-c.true c.exact_price.ensures

pub returns-else-k-c : goal.returns-else-k-c
returns-else-k-c c = sym (no-exact-past _ _ c.if-k-c.false)
