-- What rounding down leaves of a price level, its spare tenths: how many there are, and who gets one.
--
-- In order: an offer's exact part; the parts rounded down and the spare tenths make up the level's amount; no more are
-- spare than offers have a remainder; who gets a spare tenth, and that they go in order.
-- Assumes nothing.
use mathlib.Core.Path.{◌≡◌, refl, ap}
use mathlib.Core.Bool.{true, ◌&&◌}
use mathlib.Core.Logic.{◌↔◌}
use Prim.Native.Nat.{ℕ, suc, ◌+◌, ◌*◌, ◌≤◌, ◌<◌}
use native.Mathlib.Nat.{div-add-mod', mod-lt}
use native.Mathlib.Omega.{arith}
use lib.Dec.{ltb, eqb}
use borrow.Author.Tests.{eqb-true, eq-eqb, lt-ltb, ltb-true}
use Rattle.laws.specs.Sum.{sum_where, count_where}
use Rattle.laws.proofs.Cases.{by-test, cond-false}
use Rattle.laws.proofs.Counts.{count_where-within}
use Rattle.laws.proofs.Summands.{sum_where-ext}
use Rattle.laws.proofs.Ranks.{rank_less}
use Rattle.laws.proofs.Division.{Division, sum_over, whole, part_left}
use Rattle.laws.proofs.Division.{part_down-most, spare-rest, spare-exact, spare-most}
use Rattle.auction.specs.Offers.{Offers, level_sum}
use Rattle.auction.specs.Shares.{level_amount, weighted, share_down, remainder, spare_tenths, ahead, rank, cleared}
use Rattle.auction.proofs.Ahead.{ahead-order}
use Rattle.auction.proofs.LevelDivision.{level_division, division-whole, division-down, division-downs}
use Rattle.auction.proofs.LevelDivision.{division-left, division-rank, division-spare, level_amount-most}

module _ (o : Offers) (x : ℕ) where
  -- the part rounded down, times the level's sum, and the remainder are the quantity times the level's amount
  pub share_down-exact : (i : ℕ)
      → share_down o x i * level_sum o (o.price i) + remainder o x i ≡ o.quantity i * level_amount o x (o.price i)
  unfolding share_down remainder weighted
  share_down-exact i = div-add-mod' _ _

  -- a remainder is less than the level's sum
  pub remainder-less : (i : ℕ) → 0 < level_sum o (o.price i) → remainder o x i < level_sum o (o.price i)
  unfolding remainder
  remainder-less i some = mod-lt _ some

  -- a part rounded down is at most the quantity
  pub share_down-most : (i : ℕ) → 0 < level_sum o (o.price i) → share_down o x i ≤ o.quantity i
  share_down-most i some =
      let d = level_division o x (o.price i) in
      let most = level_amount-most o x (o.price i) in
      rw (← division-down o x _ i refl) (part_down-most d (rw division-whole some) (rw division-whole most) i)

  module _ (p : ℕ) (some : 0 < level_sum o p) where
    abbrev division : Division
    division = level_division o x p

    positive : 0 < whole division
    positive = rw division-whole some

    same_left : (i : ℕ) → eqb (o.price i) p ≡ true → part_left division i ≡ remainder o x i
    same_left i t = division-left o x p i (eqb-true (o.price i) p t)

    lefts : sum_over division (part_left division) ≡ sum_over division (remainder o x)
    lefts = sum_where-ext _ _ _ o.count (λ i l t. same_left i t)

    counts : count_where (λ i. eqb (o.price i) p && ltb 0 (part_left division i)) o.count
        ≡ count_where (λ i. eqb (o.price i) p && ltb 0 (remainder o x i)) o.count
    counts = count_where-within _ _ _ o.count (λ i l t. ap (ltb 0) (same_left i t))

    -- the parts rounded down and the spare tenths make up the level's amount
    pub spares-rest :
        sum_where (λ i. eqb (o.price i) p) (share_down o x) o.count + spare_tenths o x p ≡ level_amount o x p
    spares-rest = rw (← division-downs o x p, ← division-spare o x p) (spare-rest division positive)

    -- the spare tenths are what the remainders come to
    pub spares-exact :
        spare_tenths o x p * level_sum o p ≡ sum_where (λ i. eqb (o.price i) p) (remainder o x) o.count
    spares-exact = rw (← lefts, ← division-spare o x p, ← division-whole o x p) (spare-exact division positive)

    -- no more tenths are spare than offers of the level have a remainder
    pub spares-most : spare_tenths o x p ≤ count_where (λ i. eqb (o.price i) p && ltb 0 (remainder o x i)) o.count
    spares-most = rw (← counts, ← division-spare o x p) (spare-most division positive)

  spare-got : (i : ℕ) → cleared o x i ≡ suc (share_down o x i) → rank o x i < spare_tenths o x (o.price i)
  unfolding cleared
  spare-got i e =
      by-test (ltb (rank o x i) (spare_tenths o x (o.price i)))
      (ltb-true _ _)
      (λ t. absurd (omega (arith, cond-false {X = ℕ} _ 1 0 t)))

  spare-given : (i : ℕ) → rank o x i < spare_tenths o x (o.price i) → cleared o x i ≡ suc (share_down o x i)
  unfolding cleared
  spare-given i l = rw (lt-ltb (rank o x i) _ l) (omega arith)

  -- an offer gets a spare tenth exactly when fewer of its level stand before it than are spare
  pub spare-tenth : (i : ℕ) → (cleared o x i ≡ suc (share_down o x i)) ↔ (rank o x i < spare_tenths o x (o.price i))
  spare-tenth i = (spare-got i, spare-given i)

  -- of two offers of a level, the one that is ahead gets a spare tenth if the other does
  pub spares-in-order : (i j : ℕ) → j < o.count → o.price j ≡ o.price i → ahead o x j i ≡ true
      → cleared o x i ≡ suc (share_down o x i) → cleared o x j ≡ suc (share_down o x j)
  spares-in-order i j l same b e =
      let p = o.price i in
      let within = eq-eqb (o.price j) p same in
      let before = rank_less (level_division o x p).within (ahead o x) (ahead-order o x) o.count j i l within b in
      spare-given j
      (omega (arith, spare-got i e, division-rank o x p i refl, division-rank o x p j same, ap (spare_tenths o x) same))
