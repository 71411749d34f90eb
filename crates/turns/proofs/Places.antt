-- Every place of a level is one row's, among offers that each have something to sell and of which no two have one resource number and
-- one step.
--
-- In order: who stands at a place; fewer tenths are spare than rows contend; no place under the contenders is left out.
-- Assumes nothing.
use mathlib.Core.Path.{◌≡◌, refl, sym, ap, subst, ◌∙◌}
use mathlib.Core.Bool.{Bool, true, false, ◌&&◌, true≢false}
use Prim.Native.Nat.{ℕ, suc, ◌+◌, ◌*◌, ◌≤◌, ◌<◌}
use native.Mathlib.Nat.{mul-le-mul_right}
use native.Mathlib.Omega.{arith}
use lib.Dec.{ltb, eqb}
use borrow.Author.Tests.{eqb-true, eq-eqb, lt-ltb, ltb-true}
use Rattle.laws.specs.Sum.{sum_where, count_where}
use Rattle.laws.proofs.Cases.{by_order, and-true, and_left, and_right}
use Rattle.laws.proofs.Counts.{count_where-mono}
use Rattle.laws.proofs.Where.{sum_where-place}
use Rattle.laws.proofs.Summands.{sum_where-mono, sum_where-add, sum_where-mul}
use Rattle.laws.proofs.Ranks.{rank_among, ranks-fill}
use Rattle.auction.specs.Offers.{Offers, Proper, level_sum}
use Rattle.auction.specs.Shares.{remainder, spare_tenths, ahead, rank}
use Rattle.auction.proofs.Ahead.{ahead-order, ahead-untied}
use Rattle.auction.proofs.LevelDivision.{division-rank, level_sum-positive}
use Rattle.auction.proofs.Spares.{remainder-less, spares-exact}
use Rattle.std.specs.Prelude.{Some, None}
use Rattle.std.specs.declared.option.Option.{Option}
use Rattle.turns.specs.Order.{contenders, placed}
use Rattle.turns.proofs.Firsts.{first-place, first-fails}
use Rattle.turns.proofs.Turning.{stands_at}

-- row j stands at place k of the level at p
pub record StandsAt (o : Offers) (x p k j : ℕ) : Type 0 where
  pub found : placed o x p k ≡ Some j
  pub within : j < o.count
  pub level : o.price j ≡ p
  pub place : rank o x j ≡ k

-- a place that is there, or none
by_place : {X : Type 0} (v : Option ℕ) → (v ≡ None → X) → ((i : ℕ) → v ≡ Some i → X) → X
by_place None f g = f refl
by_place (Some i) f g = g i refl

module _ (o : Offers) (x : ℕ) (proper : Proper o) where
  module _ (p : ℕ) where
    abbrev at : ℕ → Bool
    at j = eqb (o.price j) p

    abbrev many : ℕ
    many = sum_where at (λ j. 1) o.count

    -- each remainder is one less than the level's sum, or still less
    remainders-less : 0 < level_sum o p → sum_where at (remainder o x) o.count + many ≤ many * level_sum o p
    remainders-less positive =
        omega (
          arith,
          sum_where-add at (remainder o x) (λ j. 1) o.count,
          sum_where-mul at (λ j. 1) (level_sum o p) o.count,
          sum_where-mono at (λ j. remainder o x j + 1) (λ j. 1 * level_sum o p) o.count (λ j l t. each j (eqb-true (o.price j) p t)),
        )
      where
        each : (j : ℕ) → o.price j ≡ p → remainder o x j + 1 ≤ 1 * level_sum o p
        each j e = omega (arith, ap (level_sum o) e, remainder-less o x j (rw e positive))

    -- fewer tenths are spare than rows contend
    pub spares-fewer : (i : ℕ) → i < o.count → o.price i ≡ p → spare_tenths o x p < contenders o p
    unfolding contenders count_where
    spares-fewer i l e =
        by_order many (spare_tenths o x p)
        (λ h.
        let positive = subst (λ (q : ℕ). 0 < level_sum o q) e (level_sum-positive o i proper l) in
        absurd
        (omega (
          arith,
          remainders-less positive,
          spares-exact o x p positive,
          mul-le-mul_right (level_sum o p) h,
          sum_where-place at (λ j. 1) o.count i l (eq-eqb (o.price i) p e),
        )))
        (λ h. h)

    abbrev ranked : ℕ → ℕ
    ranked = rank_among at (ahead o x) o.count

    -- where no row stands at place k, who has a rank up to k has one under it
    skips : (k : ℕ) → ((j : ℕ) → j < o.count → stands_at o x p k j ≡ false) → (j : ℕ) → j < o.count
        → at j && ltb (ranked j) (suc k) ≡ true → at j && ltb (ranked j) k ≡ true
    skips k empty j l t =
        let w = and_left (at j) (ltb (ranked j) (suc k)) t in
        let same = division-rank o x p j (eqb-true (o.price j) p w) in
        let under = ltb-true (ranked j) (suc k) (and_right (at j) (ltb (ranked j) (suc k)) t) in
        let other : (rank o x j ≡ k → ⊥) = λ e. true≢false (sym (and-true (at j) (eqb (rank o x j) k) w (eq-eqb _ _ e)) ∙ empty j l) in
        and-true (at j) (ltb (ranked j) k) w
        (lt-ltb (ranked j) k (by_order k (ranked j) (λ h. absurd (other (omega arith))) (λ h. h)))

    -- so some row does
    pub places-taken : (k : ℕ) → k < contenders o p → placed o x p k ≡ None → ⊥
    unfolding contenders placed
    places-taken k l e =
        let untied = ahead-untied o x at proper in
        let fill = ranks-fill at (ahead o x) (ahead-order o x) o.count in
        omega (
          arith,
          fill (suc k) untied l,
          fill k untied (omega arith),
          count_where-mono _ _ o.count (skips k (first-fails (stands_at o x p k) o.count e)),
        )

    placed-stands : (k j : ℕ) → placed o x p k ≡ Some j → StandsAt o x p k j
    unfolding placed
    placed-stands k j e =
        let f = first-place (stands_at o x p k) o.count j e in
        record {
          found = e;
          within = f.within;
          level = eqb-true _ _ (and_left (at j) (eqb (rank o x j) k) f.passes);
          place = eqb-true _ _ (and_right (at j) (eqb (rank o x j) k) f.passes);
        }

    -- every place under the contenders is one row's
    pub placed-there : (k : ℕ) → k < contenders o p → (j : ℕ) × StandsAt o x p k j
    placed-there k l =
        by_place (placed o x p k) (λ e. absurd (places-taken k l e)) (λ j e. (j, placed-stands k j e))
