-- `lowest_from` is the price that the least difference up tells.
-- Assumes nothing.
use mathlib.Core.List.{map}
use mathlib.Core.Path.{◌≡◌, sym, ◌∙◌}
use Prim.Native.Nat.{min}
use borrow.Author.Rules.{rules}
use native.Mathlib.Omega.{arith}
use Rattle.std.proofs.lemmas.Iterator.{YieldsList-from_slice, YieldsList-from_map}
use Rattle.std.proofs.lemmas.Iterator.Adapters.{option_map_id}
use Rattle.std.proofs.lemmas.Iterator.Consumers.{YieldsList-at, min_from_yields_List}
use Rattle.std.specs.List.{reduce}
use Rattle.ladder.proofs.Nearest.{up_to, over-found, over-none}
use Rattle.ladder.proofs.price.lowest_from.Goals as goal
use Rattle.ladder.proofs.price.lowest_from.Goals.{After-min}

least : (c : After-min) → c.min.result ≡ reduce min (map (up_to c.args.from) c.args.prices.now)
least c =
    sym (option_map_id _)
    ∙ min_from_yields_List c.map.result _ c.min.ensures.ran
    (YieldsList-from_map _ (up_to c.args.from)
    (YieldsList-at c.map.ensures.source (YieldsList-from_slice c.args.prices.now (cc))) c.map.ensures.closure (λ x r q k. (search rules, search rules)))

pub returns : goal.returns
returns c =
    over-found c.args.from (omega arith) c.args.prices.now (λ i. omega (arith, c.type_inv.prices i)) c.in_ok-over.over _
    (sym c.in_ok-over.was ∙ least (goal.at.returns c).After-min)
    c.checked_add.ensures

pub returns-in_err-over : goal.returns-in_err-over
returns-in_err-over c =
    c.from_residual.ensures
    ∙ over-none c.args.from (omega arith) c.args.prices.now (λ i. omega (arith, c.type_inv.prices i))
    (sym c.in_err-over.was ∙ least (goal.at.returns-in_err-over c).After-min)
