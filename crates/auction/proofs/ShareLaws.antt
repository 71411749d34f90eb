-- How a price level's amount is divided among its offers: theorems of any total x.
--
-- In order: a share is the exact part rounded down or up, and at most the quantity; the shares of a level add up.
-- Assumes nothing.
use mathlib.Core.Path.{◌≡◌, refl, sym, ◌∙◌}
use mathlib.Core.Bool.{Bool, true}
use mathlib.Core.Logic.{◌⊎◌}
use Prim.Native.Nat.{ℕ, suc, ◌+◌, ◌*◌, ◌≤◌, ◌<◌}
use native.Mathlib.Omega.{arith}
use lib.Dec.{eqb}
use borrow.Author.Tests.{eqb-true, eq-eqb}
use Rattle.laws.specs.Sum.{sum_where}
use Rattle.laws.proofs.Cases.{by_order}
use Rattle.laws.proofs.Summands.{sum_where-ext, sum_where-mono}
use Rattle.laws.proofs.Division as division
use Rattle.laws.proofs.Remainders as parts
use Rattle.auction.specs.Offers.{Offers, Proper, level_sum}
use Rattle.auction.specs.Shares.{level_amount, share_down, remainder, ahead, cleared}
use Rattle.auction.proofs.LevelDivision.{level_division, division-whole, division-down, division-left}
use Rattle.auction.proofs.LevelDivision.{division-share, division-first, level_amount-most, level_sum-positive}

-- an offer clears no less than its exact part rounded down
pub share-least : (o : Offers) (x i : ℕ) → share_down o x i ≤ cleared o x i
unfolding cleared
share-least o x i = omega arith

module _ (o : Offers) (x : ℕ) (proper : Proper o) where
  module _ (i : ℕ) (l : i < o.count) where
    abbrev own : division.Division
    own = level_division o x (o.price i)

    some : 0 < division.whole own
    some = rw division-whole (level_sum-positive o i proper l)

    first : parts.LargestFirst own (ahead o x)
    first = division-first o x (o.price i) proper

    here : eqb (o.price i) (o.price i) ≡ true
    here = eq-eqb (o.price i) (o.price i) refl

    same : parts.share own (ahead o x) i ≡ cleared o x i
    same = division-share o x (o.price i) i refl

    -- an offer clears its exact part rounded down, or a tenth more where a remainder is left
    pub share-down-or-up :
        (cleared o x i ≡ share_down o x i) ⊎ ((cleared o x i ≡ suc (share_down o x i)) × (0 < remainder o x i))
    share-down-or-up =
        rw (← same, ← division-down o x _ i refl, ← division-left o x _ i refl)
        (parts.share-cases own (ahead o x) some first i here)

    -- so it clears less than a tenth over its exact part
    pub share-ceiling :
        cleared o x i * level_sum o (o.price i) < o.quantity i * level_amount o x (o.price i) + level_sum o (o.price i)
    share-ceiling = rw (← same, ← division-whole o x _) (parts.share-ceiling own (ahead o x) some first i here)

    -- an offer clears no more than its quantity
    pub share-within : cleared o x i ≤ o.quantity i
    share-within =
        let most = level_amount-most o x (o.price i) in
        rw (← same) (parts.share-most own (ahead o x) some first (rw division-whole most) i here)

  abbrev level_shares : ℕ → ℕ
  level_shares p = sum_where (λ i. eqb (o.price i) p) (cleared o x) o.count

  shares-none : (p : ℕ) → level_sum o p ≤ 0 → level_shares p ≡ level_amount o x p
  unfolding level_sum
  shares-none p none =
      let test : ℕ → Bool = λ i. eqb (o.price i) p in
      let each = sum_where-mono test (cleared o x) o.quantity o.count (λ i l t. share-within i l) in
      omega (arith, level_amount-most o x p)

  shares-some : (p : ℕ) → 0 < level_sum o p → level_shares p ≡ level_amount o x p
  shares-some p any =
      sum_where-ext _ (cleared o x) _ o.count (λ i l t. sym (division-share o x p i (eqb-true (o.price i) p t)))
      ∙ parts.shares-add-up (level_division o x p) (ahead o x) (rw division-whole any) (division-first o x p proper)

  -- the shares of a level add up to its amount
  pub shares-add-up : (p : ℕ) → sum_where (λ i. eqb (o.price i) p) (cleared o x) o.count ≡ level_amount o x p
  shares-add-up p = by_order (level_sum o p) 0 (shares-none p) (shares-some p)
