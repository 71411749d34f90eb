-- The contest for the spare tenths of the level at which a total stops, as lists of keys hold it.
--
-- In order: a row's key is what its remainder leaves of the level's sum; the keys' order is the order of spare tenths; who
-- wins the contest; what a row clears.
-- Assumes nothing.
use mathlib.Core.Path.{◌≡◌, refl, sym, ap, ap₂, ◌∙◌}
use mathlib.Core.Bool.{Bool, true, false, cond, ◌&&◌, ◌||◌}
use mathlib.Core.List.{List}
use Prim.Native.Nat.{ℕ, ◌+◌, ◌*◌, ◌%◌, ◌<◌}
use native.Mathlib.Nat.{add-zero, mod-lt}
use native.Mathlib.Omega.{arith}
use lib.ListN.{get_or}
use lib.Dec.{ltb, eqb}
use borrow.Author.Tests.{eqb-true, eqb-false}
use Rattle.laws.specs.Sum.{count_where}
use Rattle.laws.specs.Orders.{by_key, then_by}
use Rattle.laws.proofs.Cases.{by-test}
use Rattle.laws.proofs.Counts.{count_where-within}
use Rattle.laws.proofs.Keys.{then_by-rest, then_by-halves}
use Rattle.auction.specs.Offers.{Offers}
use Rattle.auction.specs.Shares.{weighted, share_down, remainder, spare_tenths, ahead, rank, cleared}
use Rattle.columns.specs.inner.Column.{rows_of}
use Rattle.levels.specs.declared.level.Level.{Level}
use Rattle.contest.specs.inner.Contest.{wins, contenders, in_order}
use Rattle.contest.proofs.Winning.{wins-contenders}
use Rattle.parts.specs.inner.Parts.{key_of, row_key}
use Rattle.shares.specs.inner.Halves.{high_half, low_half}
use Rattle.shares.specs.inner.Stages.{Stopped}
use Rattle.parts.proofs.RowParts.{key-at}
use Rattle.shares.proofs.Sharing.{stop-some, spares-away, cleared-down}

module _ (o : Offers) (l : Level) (s : Stopped o l) (i : ℕ) (within : i < o.count) (at : o.price i ≡ l.price) where
  remainder-at : remainder o l.total i ≡ o.quantity i * l.amount % l.sum
  unfolding remainder weighted
  remainder-at = rw (s.stops.amount, s.stops.sum, at)

  -- at the level a row's key and its remainder are the level's sum
  key-remainder : key_of l (o.price i) (o.quantity i) + remainder o l.total i ≡ l.sum
  key-remainder =
      omega (
        arith,
        key-at l (o.price i) (o.quantity i) at,
        remainder-at,
        mod-lt (o.quantity i * l.amount) (stop-some o l s i within at),
      )

-- standings that are 1 where a test holds, and else 0, say where it holds
standing-test : (t : Bool) → eqb (cond t 1 0) 1 ≡ t
standing-test true = refl
standing-test false = refl

module _ (prices quantities stamps resources steps : List ℕ) (n : ℕ) (l : Level) where
  abbrev rows : Offers
  rows = rows_of prices quantities stamps resources steps n

  abbrev at_stop : ℕ → Bool
  at_stop i = eqb (get_or prices i 0) l.price

  module _ (s : Stopped rows l) (highs lows : List ℕ)
      (halves : (i : ℕ) → i < n → (get_or highs i 0 ≡ high_half stamps i) × (get_or lows i 0 ≡ low_half stamps i))
      (keys : List ℕ) (keyed : (i : ℕ) → i < n → get_or keys i 0 ≡ row_key l prices quantities i) where
    abbrev key_order : ℕ → ℕ → Bool
    key_order = in_order keys highs lows resources steps

    abbrev key : ℕ → ℕ
    key i = get_or keys i 0

    abbrev by_resource : ℕ → ℕ → Bool
    by_resource = then_by rows.resource (by_key rows.step)

    key_left : (i : ℕ) → i < n → at_stop i ≡ true → key i + remainder rows l.total i ≡ l.sum
    key_left i k at = rw (keyed i k) (key-remainder rows l s i k (eqb-true _ _ at))

    low_small : (i : ℕ) → i < n → get_or lows i 0 < 4294967296
    low_small i k = omega (arith, (halves i k).1)

    -- two halves make the stamp
    whole : (i : ℕ) → i < n → get_or highs i 0 * 4294967296 + get_or lows i 0 ≡ get_or stamps i 0
    whole i k = omega (arith, (halves i k).0, (halves i k).1)

    -- so their order is that of the stamps
    order-halves : (j i : ℕ) → j < n → i < n
        → then_by (λ q. get_or highs q 0) (then_by (λ q. get_or lows q 0) by_resource) j i ≡ then_by rows.stamp by_resource j i
    order-halves j i h k =
        sym (then_by-halves (λ q. get_or highs q 0) (λ q. get_or lows q 0) by_resource j i (low_small j h) (low_small i k))
        ∙ ap₂ (λ (a b : ℕ). ltb a b || (eqb a b && by_resource j i)) (whole j h) (whole i k)

    -- among the rows of the level the keys' order is the order of spare tenths
    order-ahead : (j i : ℕ) → j < n → i < n → at_stop j ≡ true → at_stop i ≡ true
        → key_order j i ≡ ahead rows l.total j i
    unfolding ahead
    order-ahead j i h k at_j at_i =
        ap (λ (r : Bool). ltb (key j) (key i) || (eqb (key j) (key i) && r)) (order-halves j i h k)
        ∙ then_by-rest key (remainder rows l.total) (then_by rows.stamp by_resource) l.sum j i
        (key_left j h at_j)
        (key_left i k at_i)

    -- as many stand before a row of the level as its rank says
    rank-keys : (i : ℕ) → i < n → at_stop i ≡ true
        → count_where (λ j. at_stop j && key_order j i) n ≡ rank rows l.total i
    unfolding rank
    rank-keys i k at =
        count_where-within at_stop _ _ n (λ j h at_j. order-ahead j i h k at_j at)
        ∙ ap (λ (p : ℕ). count_where (λ j. eqb (get_or prices j 0) p && ahead rows l.total j i) n) (sym (eqb-true _ _ at))

    -- row i clears its share rounded down, and one more where it wins
    abbrev Clears : ℕ → Type 0
    Clears i =
        share_down rows l.total i + cond (wins at_stop key_order n (spare_tenths rows l.total l.price) i) 1 0
        ≡ cleared rows l.total i

    clears-at : (i : ℕ) → i < n → at_stop i ≡ true → Clears i
    unfolding wins cleared
    clears-at i k at = rw (at, rank-keys i k at, eqb-true (get_or prices i 0) l.price at)

    clears-away : (i : ℕ) → i < n → at_stop i ≡ false → Clears i
    unfolding wins
    clears-away i k at =
        let none = spares-away rows l s i k (eqb-false _ _ at) in
        rw at (add-zero (share_down rows l.total i) ∙ sym (cleared-down rows l.total i none))

    clears : (i : ℕ) → i < n → Clears i
    clears i k = by-test (at_stop i) (clears-at i k) (clears-away i k)

    contends : (standings : List ℕ) → ((i : ℕ) → i < n → get_or standings i 0 ≡ cond (at_stop i) 1 0)
        → (j : ℕ) → j < n → contenders standings j ≡ at_stop j
    contends standings standing j h = ap (λ (v : ℕ). eqb v 1) (standing j h) ∙ standing-test (at_stop j)

    -- what a row's share rounded down and its win in the contest come to
    pub cleared-won : (standings : List ℕ) (spare : ℕ) → ((i : ℕ) → i < n → get_or standings i 0 ≡ cond (at_stop i) 1 0)
        → spare ≡ spare_tenths rows l.total l.price → (i : ℕ) → i < n
        → share_down rows l.total i + cond (wins (contenders standings) key_order n spare i) 1 0 ≡ cleared rows l.total i
    cleared-won standings spare standing e i k =
        rw (wins-contenders (contenders standings) at_stop key_order n spare i (contends standings standing) k, e) (clears i k)
