-- Who stands at a place, a row's rival and its turn, put together from what the code finds.
--
-- In order: how many contend looks at prices alone; a row found at a place; who stands there; no rival where nothing is spare; the row
-- at the other side of the cut; the rival; the turn.
-- Assumes nothing.
use mathlib.Core.Path.{◌≡◌, refl, sym, ap, ap₂, ◌∙◌}
use mathlib.Core.Bool.{Bool, true, false, cond, ◌&&◌}
use mathlib.Core.List.{[]}
use Prim.Native.Nat.{ℕ, ◌+◌, ◌≤◌, ◌<◌}
use lib.Dec.{ltb, eqb}
use borrow.Author.Tests.{eq-eqb, ne_eqb}
use Rattle.std.specs.Prelude.{Some, None, MatchOption}
use Rattle.std.specs.declared.option.Option.{Option}
use Rattle.laws.proofs.Cases.{cond-true, cond-false}
use Rattle.auction.specs.Offers.{Offers}
use Rattle.auction.specs.Shares.{share_down, spare_tenths, rank, cleared}
use Rattle.columns.specs.inner.Sides.{rows_in, offers_in}
use Rattle.columns.specs.declared.rows.Rows.{Rows}
use Rattle.levels.specs.inner.Rows.{listed}
use Rattle.turns.specs.Order.{contenders, placed, contender_at, held_by, placed_at}
use Rattle.turns.specs.Turn.{rival_place, rival_row, rival_by, turn_at}
use Rattle.turns.specs.inner.Contending.{decided_of}
use Rattle.turns.specs.declared.order.Contender.{Contender}
use Rattle.turns.specs.declared.turn.Rival.{Rival}
use Rattle.turns.specs.declared.order.Key.{Key}
use Rattle.turns.proofs.Firsts.{first-answer, first-place}
use Rattle.turns.proofs.Ordering.{decided-is}

-- how many contend looks at prices alone
pub contenders-rows : (rows : Rows) (p : ℕ) → contenders (listed rows.asks.prices.now [] (rows_in rows)) p ≡ contenders (offers_in rows) p
unfolding contenders
contenders-rows rows p = refl

module _ (o : Offers) (x p k : ℕ) where
  -- row i stands at place k of the level at p
  abbrev pub stands_at : ℕ → Bool
  stands_at i = eqb (o.price i) p && eqb (rank o x i) k

  pub row-placed : (r : Option ℕ)
      → MatchOption r ((j : ℕ) → 0 ≤ j → j < o.count → stands_at j ≡ false)
      (λ i. (0 ≤ i) × (i < o.count) × (stands_at i ≡ true) × ((j : ℕ) → 0 ≤ j → j < i → stands_at j ≡ false))
      → r ≡ placed o x p k
  unfolding placed
  row-placed = first-answer stands_at o.count

  -- a row that is found is one of the rows
  pub placed-within : (i : ℕ) → Some i ≡ placed o x p k → i < o.count
  unfolding placed
  placed-within i e = (first-place stands_at o.count i (sym e)).within

  -- who stands there
  pub placed-held : (i : ℕ) (c : Contender) → Some i ≡ placed o x p k → c ≡ contender_at o x i → Some c ≡ placed_at o x p k
  unfolding placed_at
  placed-held i c e f = ap Some f ∙ ap (held_by o x) e

  pub placed-no-one : None ≡ placed o x p k → None ≡ placed_at o x p k
  unfolding placed_at
  placed-no-one e = ap (held_by o x) e

module _ (o : Offers) (x i : ℕ) where
  abbrev spares : ℕ
  spares = spare_tenths o x (o.price i)

  -- no rival where nothing is spare
  pub rival-no-spare : spares ≡ 0 → None ≡ rival_by o x i (rival_row o x i)
  unfolding rival_row
  rival-no-spare e = sym (ap (rival_by o x i) (cond-true (eqb spares 0) _ _ (eq-eqb spares 0 e)))

  -- where any is, the row at the other side of the cut
  module _ (place spare side : ℕ) (e : place ≡ rank o x i) (f : spare ≡ spares) (g : side ≡ rival_place place spare)
      (some : spare ≡ 0 → ⊥) where
    rival-row : rival_row o x i ≡ placed o x (o.price i) side
    unfolding rival_row
    rival-row =
        cond-false (eqb spares 0) _ _ (ne_eqb spares 0 (λ z. some (f ∙ z)))
        ∙ ap (placed o x (o.price i)) (sym (g ∙ ap₂ rival_place e f))

    pub rival-none : None ≡ placed o x (o.price i) side → None ≡ rival_by o x i (rival_row o x i)
    rival-none h = ap (rival_by o x i) (h ∙ sym rival-row)

    pub rival-against : (j : ℕ) (own rival : Contender) (key : Key) → Some j ≡ placed o x (o.price i) side
        → own ≡ contender_at o x i → rival ≡ contender_at o x j → key ≡ decided_of own rival
        → Some (record { contender = rival; decided = key }) ≡ rival_by o x i (rival_row o x i)
    rival-against j own rival key l c d h =
        (λ z. Some (record { contender = d z; decided = (h ∙ ap₂ decided_of c d ∙ decided-is o x i j) z }))
        ∙ ap (rival_by o x i) (l ∙ sym rival-row)

  -- the turn
  pub turn_is : (place many spare down tenth : ℕ) (rival : Option Rival) → place ≡ rank o x i → many ≡ contenders o (o.price i)
      → spare ≡ spares → down ≡ share_down o x i → tenth ≡ cond (ltb place spare) 1 0 → rival ≡ rival_by o x i (rival_row o x i)
      → record { place = place; contenders = many; spares = spare; cleared = down + tenth; rival = rival } ≡ turn_at o x i
  unfolding turn_at cleared
  turn_is place many spare down tenth rival e f g h t r =
      λ z.
      record {
        place = e z;
        contenders = f z;
        spares = g z;
        cleared = ap₂ ◌+◌ h (t ∙ ap₂ (λ (a b : ℕ). cond (ltb a b) 1 0) e g) z;
        rival = r z;
      }
