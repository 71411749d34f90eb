-- `highest_under` is the price that the least difference down tells.
-- Assumes nothing.
use mathlib.Core.List.{map}
use mathlib.Core.Path.{◌≡◌, sym, ◌∙◌}
use Prim.Native.Nat.{min}
use borrow.Author.Rules.{rules}
use native.Mathlib.Omega.{arith}
use Rattle.std.proofs.lemmas.Iterator.{YieldsList-from_slice, YieldsList-from_map}
use Rattle.std.proofs.lemmas.Iterator.Adapters.{option_map_id}
use Rattle.std.proofs.lemmas.Iterator.Consumers.{YieldsList-at, min_from_yields_List}
use Rattle.std.specs.List.{reduce}
use Rattle.ladder.proofs.Nearest.{down_to, under-found, under-none, under-zero}
use Rattle.ladder.proofs.price.highest_under.Goals as goal
use Rattle.ladder.proofs.price.highest_under.Goals.{After-min}

least : (c : After-min) → c.min.result ≡ reduce min (map (down_to c.in_ok-last.last) c.args.prices.now)
least c =
    sym (option_map_id _)
    ∙ min_from_yields_List c.map.result _ c.min.ensures.ran
    (YieldsList-from_map _ (down_to c.in_ok-last.last)
    (YieldsList-at c.map.ensures.source (YieldsList-from_slice c.args.prices.now (cc))) c.map.ensures.closure (λ x r q k. (search rules, search rules)))

pub returns-in_err-last : goal.returns-in_err-last
returns-in_err-last c = c.from_residual.ensures ∙ under-zero _ _ (omega (arith, c.in_err-last.ensures)) _

pub returns : goal.returns
returns c =
    under-found c.args.limit c.in_ok-last.last (omega (arith, c.in_ok-last.ensures)) (omega arith) c.args.prices.now
    (λ i. omega (arith, c.type_inv.prices i)) c.in_ok-under.under _
    (sym c.in_ok-under.was ∙ least (goal.at.returns c).After-min)
    c.checked_sub-2.ensures

pub returns-in_err-under : goal.returns-in_err-under
returns-in_err-under c =
    c.from_residual-in_err-under.ensures
    ∙ under-none c.args.limit c.in_ok-last.last (omega (arith, c.in_ok-last.ensures)) (omega arith) c.args.prices.now
    (λ i. omega (arith, c.type_inv.prices i))
    (sym c.in_err-under.was ∙ least (goal.at.returns-in_err-under c).After-min)
