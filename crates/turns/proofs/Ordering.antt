-- The order of spare tenths, as contenders have it.
--
-- In order: contenders told apart by the key that decides between them; a row's contender is what the level makes of it, and contenders are in the order of the rows; how many stand before a row's contender is the row's rank; what decides between
-- two contenders decides between their rows.
-- Assumes nothing.
use mathlib.Core.Path.{◌≡◌, refl, sym, ap, subst, ◌∙◌}
use mathlib.Core.Bool.{Bool, true, false, cond, ◌&&◌, ◌||◌}
use Prim.Native.Nat.{ℕ}
use native.Mathlib.Omega.{arith}
use lib.Dec.{ltb, eqb}
use borrow.Author.Tests.{eqb-true, eq-eqb, ne_eqb, le-ltb}
use Rattle.laws.proofs.Cases.{by-equality}
use Rattle.laws.proofs.Counts.{count_where-within}
use Rattle.auction.specs.Offers.{Offers}
use Rattle.auction.specs.Shares.{weighted, remainder, ahead, rank}
use Rattle.reasons.specs.inner.Share.{LevelAt}
use Rattle.reasons.specs.declared.share.Received.{Received}
use Rattle.turns.specs.Order.{contender_at}
use Rattle.turns.specs.declared.order.Contender.{Contender}
use Rattle.turns.specs.declared.order.Key.{Key}
use Rattle.turns.specs.declared.order.Key.TheVariants.{Remainder, Stamp, Resource, Step}
use Rattle.turns.specs.Turn.{decided_by}
use Rattle.turns.specs.inner.Contending.{contender_of, ahead_of, decided_of, before_in}

or-none : (t : Bool) → t ≡ (t || false)
or-none true = refl
or-none false = refl

either-way : (m n : ℕ) → eqb m n ≡ eqb n m
either-way m n =
    by-equality m n
    (λ e. rw (eq-eqb m n e, eq-eqb n m (sym e)))
    (λ ne. rw (ne_eqb m n ne, ne_eqb n m (λ e. ne (sym e))))

-- one key of two contenders: where it differs it decides, and where it is the same the other keys do
key-told : (told : Key → Bool) (m n : ℕ) (same other : Key) (rest : Bool)
    → told other ≡ ltb m n → told same ≡ rest → told (cond (eqb m n) same other) ≡ (ltb m n || (eqb m n && rest))
key-told told m n same other rest d e =
    by-equality m n
    (λ h. rw (eq-eqb m n h, le-ltb m n (omega arith)) e)
    (λ h. rw (ne_eqb m n h) (d ∙ or-none (ltb m n)))

-- the first stands before the second by one key: the larger remainder, of all others the lower
abbrev pub before-by : Contender → Contender → Key → Bool
before-by a b Remainder = ltb b.remainder a.remainder
before-by a b Stamp = ltb a.stamp b.stamp
before-by a b Resource = ltb a.resource b.resource
before-by a b Step = ltb a.step b.step

-- the first stands before the second if it does by the key that decides between them
before-by-decided : (a b : Contender) → before-by a b (decided_of a b) ≡ ahead_of a b
unfolding decided_of ahead_of
before-by-decided a b =
    rw (either-way a.remainder b.remainder)
    (key-told (before-by a b) b.remainder a.remainder _ Remainder _ refl
    (key-told (before-by a b) a.stamp b.stamp _ Stamp _ refl
    (key-told (before-by a b) a.resource b.resource Step Resource _ refl refl)))

pub ahead-decided : (a b : Contender) (key : Key) → key ≡ decided_of a b → before-by a b key ≡ ahead_of a b
ahead-decided a b key e = ap (before-by a b) e ∙ before-by-decided a b

module _ (o : Offers) (x : ℕ) where
  -- a row's contender is what its level makes of it
  contender-is : (i : ℕ) (l : Received) → LevelAt o x (o.price i) l
      → contender_of (o.quantity i) (o.stamp i) (o.resource i) (o.step i) l ≡ contender_at o x i
  unfolding contender_at remainder weighted
  contender-is i l f = rw (f.amount, f.sum)

  pub contender-found : (i : ℕ) (c : Contender) (l : Received) → LevelAt o x (o.price i) l
      → c ≡ contender_of (o.quantity i) (o.stamp i) (o.resource i) (o.step i) l → c ≡ contender_at o x i
  contender-found i c l f e = e ∙ contender-is i l f

  -- contenders are in the order of their rows
  ahead-is : (j i : ℕ) → ahead_of (contender_at o x j) (contender_at o x i) ≡ ahead o x j i
  unfolding ahead_of contender_at ahead
  ahead-is j i = refl

  -- how many stand before a row's contender is the row's rank
  rank_is : (i : ℕ) (l : Received) → LevelAt o x (o.price i) l
      → before_in o (o.price i) l (contender_at o x i) ≡ rank o x i
  unfolding before_in rank
  rank_is i l f =
      count_where-within (λ j. eqb (o.price j) (o.price i)) _ _ o.count
      (λ j h t.
      let own = subst (λ (p : ℕ). LevelAt o x p l) (sym (eqb-true (o.price j) (o.price i) t)) f in
      ap (λ c. ahead_of c (contender_at o x i)) (contender-is j l own) ∙ ahead-is j i)

  pub rank-found : (i r : ℕ) (l : Received) (own : Contender) → LevelAt o x (o.price i) l → own ≡ contender_at o x i
      → r ≡ before_in o (o.price i) l own → r ≡ rank o x i
  rank-found i r l own f e h = h ∙ ap (before_in o (o.price i) l) e ∙ rank_is i l f

  -- what decides between two contenders decides between their rows
  pub decided-is : (i j : ℕ) → decided_of (contender_at o x i) (contender_at o x j) ≡ decided_by o x i j
  unfolding decided_of contender_at decided_by
  decided-is i j = refl
