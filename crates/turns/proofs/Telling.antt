-- What decides between two rows tells why the one is ahead of the other.
-- Assumes nothing.
use mathlib.Core.Path.{◌≡◌, sym, ◌∙◌}
use mathlib.Core.Bool.{Bool, true, false, true≢false}
use Prim.Native.Nat.{ℕ, ◌<◌}
use native.Mathlib.Omega.{arith}
use borrow.Author.Tests.{eq-eqb, ne_eqb, ltb-true}
use Rattle.laws.specs.Orders.{by_key, then_by}
use Rattle.laws.proofs.Orders.{by-comparison, then_by-equal, then_by-higher, highest_by-equal, highest_by-lower}
use Rattle.auction.specs.Offers.{Offers}
use Rattle.auction.specs.Shares.{remainder, ahead}
use Rattle.turns.specs.declared.order.Key.{Key}
use Rattle.turns.specs.declared.order.Key.TheVariants.{Remainder, Stamp, Resource, Step}
use Rattle.turns.specs.Turn.{decided_by}

-- why row i is ahead of row j, by what decides between them
abbrev pub Why : Offers → ℕ → ℕ → ℕ → Key → Type 0
Why o x i j Remainder = remainder o x j < remainder o x i
Why o x i j Stamp = (remainder o x i ≡ remainder o x j) × (o.stamp i < o.stamp j)
Why o x i j Resource = (remainder o x i ≡ remainder o x j) × (o.stamp i ≡ o.stamp j) × (o.resource i < o.resource j)
Why o x i j Step =
    (remainder o x i ≡ remainder o x j) × (o.stamp i ≡ o.stamp j) × (o.resource i ≡ o.resource j) × (o.step i < o.step j)

module _ (o : Offers) (x i j : ℕ) where
  abbrev by_resource : ℕ → ℕ → Bool
  by_resource = then_by o.resource (by_key o.step)

  abbrev by_stamp : ℕ → ℕ → Bool
  by_stamp = then_by o.stamp by_resource

  -- a row that is said to be ahead, and is not
  refuted : {X : Type 0} (t : Bool) → t ≡ true → t ≡ false → X
  refuted t a b = absurd (true≢false (sym a ∙ b))

  told-step : remainder o x i ≡ remainder o x j → o.stamp i ≡ o.stamp j → o.resource i ≡ o.resource j
      → by_key o.step i j ≡ true → Why o x i j (decided_by o x i j)
  unfolding decided_by
  told-step e f g t =
      rw (eq-eqb (remainder o x i) (remainder o x j) e, eq-eqb (o.stamp i) (o.stamp j) f, eq-eqb (o.resource i) (o.resource j) g)
      (e, f, g, ltb-true (o.step i) (o.step j) t)

  told-resource : remainder o x i ≡ remainder o x j → o.stamp i ≡ o.stamp j → by_resource i j ≡ true
      → Why o x i j (decided_by o x i j)
  unfolding decided_by
  told-resource e f t =
      by-comparison (o.resource i) (o.resource j)
      (λ l.
      rw (eq-eqb (remainder o x i) (remainder o x j) e, eq-eqb (o.stamp i) (o.stamp j) f, ne_eqb (o.resource i) (o.resource j) (omega arith))
      (e, f, l))
      (λ g. told-step e f g (sym (then_by-equal o.resource (by_key o.step) i j g) ∙ t))
      (λ l. refuted (by_resource i j) t (then_by-higher o.resource (by_key o.step) i j l))

  told-stamp : remainder o x i ≡ remainder o x j → by_stamp i j ≡ true → Why o x i j (decided_by o x i j)
  unfolding decided_by
  told-stamp e t =
      by-comparison (o.stamp i) (o.stamp j)
      (λ l. rw (eq-eqb (remainder o x i) (remainder o x j) e, ne_eqb (o.stamp i) (o.stamp j) (omega arith)) (e, l))
      (λ f. told-resource e f (sym (then_by-equal o.stamp by_resource i j f) ∙ t))
      (λ l. refuted (by_stamp i j) t (then_by-higher o.stamp by_resource i j l))

  -- what decides between a row and one that it is ahead of is why it is
  pub ahead-why : ahead o x i j ≡ true → Why o x i j (decided_by o x i j)
  unfolding ahead decided_by
  ahead-why t =
      by-comparison (remainder o x i) (remainder o x j)
      (λ l. refuted (ahead o x i j) t (highest_by-lower (remainder o x) by_stamp i j l))
      (λ e. told-stamp e (sym (highest_by-equal (remainder o x) by_stamp i j (sym e)) ∙ t))
      (λ l. rw (ne_eqb (remainder o x i) (remainder o x j) (omega arith)) l)
