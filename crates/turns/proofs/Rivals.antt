-- Where a tenth is spare every row of the level has a rival at the other side of the cut, and who gets a spare tenth is ahead of who
-- gets none.
-- Assumes nothing.
use mathlib.Core.Path.{◌≡◌, refl, sym, ap, ◌∙◌}
use mathlib.Core.Bool.{Bool, true}
use Prim.Native.Nat.{ℕ, ◌≤◌, ◌<◌}
use native.Mathlib.Omega.{arith}
use lib.Dec.{eqb}
use borrow.Author.Tests.{eq-eqb, ne_eqb, lt-ltb, le-ltb}
use Rattle.laws.proofs.Cases.{by_order, by-test, cond-true, cond-false}
use Rattle.laws.proofs.Ranks.{rank_less}
use Rattle.auction.specs.Offers.{Offers, Proper}
use Rattle.auction.specs.Shares.{spare_tenths, ahead, rank}
use Rattle.auction.proofs.Ahead.{ahead-order, ahead-untied}
use Rattle.auction.proofs.LevelDivision.{division-rank}
use Rattle.std.specs.Prelude.{Some}
use Rattle.turns.specs.Order.{contenders}
use Rattle.turns.specs.Turn.{rival_place, rival_row}
use Rattle.turns.proofs.Places.{StandsAt, spares-fewer, placed-there}

-- row j is at the other side of the cut from row i, and who gets a spare tenth is ahead of who gets none
pub record IsRival (o : Offers) (x i j : ℕ) : Type 0 where
  pub found : rival_row o x i ≡ Some j
  pub within : j < o.count
  pub level : o.price j ≡ o.price i
  pub gets : rank o x i < spare_tenths o x (o.price i) → (spare_tenths o x (o.price i) ≤ rank o x j) × (ahead o x i j ≡ true)
  pub lacks : spare_tenths o x (o.price i) ≤ rank o x i → (rank o x j < spare_tenths o x (o.price i)) × (ahead o x j i ≡ true)

module _ (o : Offers) (x : ℕ) (proper : Proper o) where
  -- the rows at a price
  abbrev at : ℕ → ℕ → Bool
  at p j = eqb (o.price j) p

  -- of two rows of a level the one at the lower place is ahead
  lower-ahead : (i j : ℕ) → i < o.count → j < o.count → o.price j ≡ o.price i → rank o x i < rank o x j → ahead o x i j ≡ true
  lower-ahead i j l m same h =
      let p = o.price i in
      let at_i = eq-eqb (o.price i) p refl in
      let at_j = eq-eqb (o.price j) p same in
      by-test (ahead o x i j)
      (λ t. t)
      (λ t.
      by-test (ahead o x j i)
      (λ b.
      absurd
      (omega (arith, rank_less (at p) (ahead o x) (ahead-order o x) o.count j i m at_j b, division-rank o x p i refl, division-rank o x p j same)))
      (λ b. absurd (omega (arith, ap (rank o x) (ahead-untied o x (at p) proper i j l m at_i at_j (t, b))))))

  module _ (i : ℕ) (l : i < o.count) where
    abbrev spares : ℕ
    spares = spare_tenths o x (o.price i)

    -- the place at the other side of the cut is one of the level's
    side-within : 0 < spares → rival_place (rank o x i) spares < contenders o (o.price i)
    unfolding rival_place
    side-within h =
        let fewer = spares-fewer o x proper (o.price i) i l refl in
        by_order spares (rank o x i)
        (λ g. rw (le-ltb (rank o x i) spares g) (omega arith))
        (λ g. rw (lt-ltb (rank o x i) spares g) fewer)

    stands-rival : 0 < spares → (j : ℕ) → StandsAt o x (o.price i) (rival_place (rank o x i) spares) j → IsRival o x i j
    unfolding rival_row rival_place
    stands-rival h j s =
        record {
          found = cond-false (eqb spares 0) _ _ (ne_eqb spares 0 (omega arith)) ∙ s.found;
          within = s.within;
          level = s.level;
          gets = λ g.
              let e = s.place ∙ cond-true _ _ _ (lt-ltb (rank o x i) spares g) in
              (omega (arith, e), lower-ahead i j l s.within s.level (omega (arith, e)));
          lacks = λ g.
              let e = s.place ∙ cond-false _ _ _ (le-ltb (rank o x i) spares g) in
              (omega (arith, e), lower-ahead j i s.within l (sym s.level) (omega (arith, e)));
        }

    -- where a tenth is spare a row has a rival, at the other side of the cut
    pub rival-there : 0 < spares → (j : ℕ) × IsRival o x i j
    rival-there h =
        let s = placed-there o x proper (o.price i) (rival_place (rank o x i) spares) (side-within h) in
        (s.0, stands-rival h s.0 s.1)
