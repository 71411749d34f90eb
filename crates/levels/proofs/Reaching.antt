-- The quantity at which a demand reaches a price, and the level there.
--
-- In order: a quantity at which the demand asks less than the price, and where both ends meet; there is one such quantity where
-- the demand never rises, and so one level; where a total stops at a level, and where it goes past.
-- Assumes nothing.
use mathlib.Core.Path.{◌≡◌, sym, ap, subst, ◌∙◌}
use mathlib.Core.Bool.{true, false, true≢false}
use Prim.Native.Nat.{ℕ, suc, ◌-◌, ◌≤◌, ◌<◌, min}
use native.Mathlib.Nat.{le_antisymm}
use native.Mathlib.Omega.{arith}
use lib.Dec.{eqb}
use borrow.Author.Tests.{ne_eqb, eqb-false, ltb-true, ltb-false}
use Rattle.laws.proofs.Cases.{by-test}
use Rattle.laws.proofs.Compare.{le-unless}
use Rattle.auction.specs.Offers.{Demand, Falling}
use Rattle.levels.specs.inner.Reach.{Reaches, LevelBetween, stops_there}
use Rattle.levels.specs.declared.level.Level.{Level}

module _ (d : Demand) (price below top low high : ℕ) (r : Reaches d price below top low high) where
  pub reaches-under : (k : ℕ) → low < k → k ≤ high → d.price k < price → Reaches d price below top low (k - 1)
  reaches-under k l m h =
      let e : k ≡ suc (k - 1) = omega arith in
      record {
        start = r.start;
        ordered = omega arith;
        end = omega (arith, r.end);
        met = r.met;
        past = λ p. subst (λ (q : ℕ). d.price q < price) e h;
      }

  pub reaches-met : high ≤ low → Reaches d price below top low low
  reaches-met l = subst (Reaches d price below top low) (le_antisymm l r.ordered) r

-- nothing past a quantity that is reached is reached
reaches-least : (d : Demand) → Falling d → (price below top x y : ℕ) → top ≤ d.last
    → Reaches d price below top x x → Reaches d price below top y y → y ≤ x
unfolding Falling
reaches-least d falling price below top x y l r s =
    le-unless y x
    (λ h. omega (arith, r.past (omega (arith, s.end)), s.met (omega (arith, r.start)), falling (suc x) y h (omega (arith, s.end))))

pub level-alone : (d : Demand) → Falling d → (p below up_to : ℕ) (l m : Level)
    → LevelBetween d p below up_to l → LevelBetween d p below up_to m → l ≡ m
level-alone d falling p below up_to l m s t = λ i.
    record {
      total = total i;
      price = (s.price ∙ sym t.price) i;
      amount = (s.amount ∙ ap (λ (x : ℕ). min (x - below) (up_to - below)) total ∙ sym t.amount) i;
      sum = (s.sum ∙ sym t.sum) i;
      reach = (s.reach ∙ sym t.reach) i;
    }
  where
    total : l.total ≡ m.total
    total =
        le_antisymm
        (reaches-least d falling p below _ _ _ (omega arith) t.total s.total)
        (reaches-least d falling p below _ _ _ (omega arith) s.total t.total)

-- below the highest price a total stops at a level only where it leaves something of it
pub stops-more : (l : Level) → stops_there l ≡ true → l.price < 1000000 → l.total < l.reach
unfolding stops_there
stops-more l e h = ltb-true _ _ (rw (ne_eqb l.price 1000000 (omega arith)) at e)

-- it goes past a level that it takes whole, if that is not the highest
pub goes-past : (l : Level) → stops_there l ≡ false → (l.reach ≤ l.total) × (l.price ≡ 1000000 → ⊥)
unfolding stops_there
goes-past l e =
    by-test (eqb l.price 1000000)
    (λ t. absurd (true≢false (rw t at e)))
    (λ t. (ltb-false _ _ (rw t at e), eqb-false _ _ t))
