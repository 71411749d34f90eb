-- Shares rounded down, and spare tenths, by where a row's price lies to the stop.
--
-- In order: a whole level and one that receives nothing, what an offer has there and that nothing is spare; a row's part is
-- its share rounded down; away from the stop nothing is spare; where nothing is spare at the stop, a row clears its part.
-- Assumes nothing.
use mathlib.Core.Path.{◌≡◌, refl, sym, ap, ◌∙◌}
use Prim.Native.Nat.{ℕ, ◌*◌, ◌/◌, ◌≤◌, ◌<◌}
use native.Mathlib.Nat.{add-zero, mul-zero, zero-div, mul-div_cancel, le_trans}
use native.Mathlib.Omega.{arith}
use lib.Dec.{eqb}
use borrow.Author.Tests.{eqb-true, eq-eqb, le-ltb}
use Rattle.laws.specs.Sum.{sum_where}
use Rattle.laws.proofs.Cases.{by-equality}
use Rattle.laws.proofs.Compare.{by-comparison}
use Rattle.laws.proofs.Where.{sum_where-place}
use Rattle.laws.proofs.Summands.{sum_where-ext}
use Rattle.auction.specs.Offers.{Offers, level_sum}
use Rattle.auction.specs.Shares.{level_amount, weighted, share_down, spare_tenths, rank, cleared}
use Rattle.levels.specs.declared.level.Level.{Level}
use Rattle.parts.specs.inner.Parts.{part_of}
use Rattle.shares.specs.inner.Stages.{Stopped}
use Rattle.parts.proofs.RowParts.{part-under, part-over, part_at}
use Rattle.shares.proofs.Stopping.{level-under-stop, level-over-stop}

module _ (o : Offers) (x p : ℕ) where
  -- in a whole level an offer has its quantity
  down-whole : (i : ℕ) → o.price i ≡ p → 0 < level_sum o p → level_amount o x p ≡ level_sum o p
      → share_down o x i ≡ o.quantity i
  unfolding share_down weighted
  down-whole i at some e = rw (at, e) (mul-div_cancel (o.quantity i) some)

  -- in a level that receives nothing an offer has nothing
  down-empty : (i : ℕ) → o.price i ≡ p → level_amount o x p ≡ 0 → share_down o x i ≡ 0
  unfolding share_down weighted
  down-empty i at e = rw (at, e, mul-zero) (zero-div (level_sum o p))

  -- the shares of a level rounded down
  abbrev pub downs : ℕ
  downs = sum_where (λ i. eqb (o.price i) p) (share_down o x) o.count

  downs-whole : 0 < level_sum o p → level_amount o x p ≡ level_sum o p → downs ≡ level_sum o p
  unfolding level_sum
  downs-whole some e = sum_where-ext _ _ _ o.count (λ i l t. down-whole i (eqb-true (o.price i) p t) some e)

  -- nothing is spare in either
  spares_whole : 0 < level_sum o p → level_amount o x p ≡ level_sum o p → spare_tenths o x p ≡ 0
  unfolding spare_tenths
  spares_whole some e = omega (arith, downs-whole some e)

  spares-empty : level_amount o x p ≡ 0 → spare_tenths o x p ≡ 0
  unfolding spare_tenths
  spares-empty e = omega arith

-- an offer is part of its level
level-place : (o : Offers) (i : ℕ) → i < o.count → o.quantity i ≤ level_sum o (o.price i)
unfolding level_sum
level-place o i l =
    sum_where-place (λ j. eqb (o.price j) (o.price i)) o.quantity o.count i l (eq-eqb (o.price i) (o.price i) refl)

-- where nothing is spare an offer clears its share rounded down
pub cleared-down : (o : Offers) (x i : ℕ) → spare_tenths o x (o.price i) ≡ 0 → cleared o x i ≡ share_down o x i
unfolding cleared
cleared-down o x i e = rw (e, le-ltb (rank o x i) 0 (omega arith)) (add-zero (share_down o x i))

module _ (o : Offers) (l : Level) (s : Stopped o l) (i : ℕ) (within : i < o.count) where
  -- its level has something to sell
  level-some : 0 < level_sum o (o.price i)
  level-some = le_trans (s.positive i within) (level-place o i within)

  -- so the level at the stop has, if the row is at it
  pub stop-some : o.price i ≡ l.price → 0 < l.sum
  stop-some at = omega (arith, level-some, s.stops.sum, ap (level_sum o) at)

  whole-under : o.price i < l.price → level_amount o l.total (o.price i) ≡ level_sum o (o.price i)
  whole-under h = level-under-stop o l.total (o.price i) (omega (arith, s.stops.price))

  empty-over : l.price < o.price i → level_amount o l.total (o.price i) ≡ 0
  empty-over h = level-over-stop o l.total (o.price i) (omega (arith, s.stops.price)) (s.cheap i within)

  at-stop : o.price i ≡ l.price → o.quantity i * l.amount / l.sum ≡ share_down o l.total i
  unfolding share_down weighted
  at-stop e = rw (s.stops.amount, s.stops.sum, e)

  -- a row's part is its share rounded down
  pub part-share : part_of l (o.price i) (o.quantity i) ≡ share_down o l.total i
  part-share =
      by-comparison (o.price i) l.price
      (λ h. part-under l _ _ h ∙ sym (down-whole o l.total (o.price i) i refl level-some (whole-under h)))
      (λ e. part_at l _ _ e ∙ at-stop e)
      (λ h. part-over l _ _ h ∙ sym (down-empty o l.total (o.price i) i refl (empty-over h)))

  -- away from the stop nothing is spare
  pub spares-away : (o.price i ≡ l.price → ⊥) → spare_tenths o l.total (o.price i) ≡ 0
  spares-away away =
      by-comparison (o.price i) l.price
      (λ h. spares_whole o l.total (o.price i) level-some (whole-under h))
      (λ e. absurd (away e))
      (λ h. spares-empty o l.total (o.price i) (empty-over h))

  -- where nothing is spare at the stop either, a row clears its part
  pub part-cleared : spare_tenths o l.total l.price ≡ 0 → part_of l (o.price i) (o.quantity i) ≡ cleared o l.total i
  part-cleared none =
      part-share
      ∙ sym (cleared-down o l.total i
      (by-equality (o.price i) l.price (λ e. ap (spare_tenths o l.total) e ∙ none) spares-away))
