-- Strict orders of places, given by Boolean tests, and orders by one key after another.
--
-- In order: what a strict order is, and who stands level in it; the order by a key; the order by a key first and then by
-- another order; the same with the higher key first, which is that order from its end.
-- Assumes nothing.
use mathlib.Core.Path.{◌≡◌, refl, sym, ◌∙◌}
use mathlib.Core.Bool.{Bool, true, false, true≢false}
use Prim.Native.Nat.{ℕ, ◌<◌}
use native.Mathlib.Omega.{arith}
use borrow.Author.Tests.{ltb-true, ltb-false, lt-ltb, le-ltb, eq-eqb, ne_eqb}
use Rattle.laws.specs.Orders.{by_key, then_by, highest_by}
pub use Rattle.laws.proofs.Compare.{by-comparison}

-- a test of two places that orders them strictly
pub record StrictOrder (before : ℕ → ℕ → Bool) : Type 0 where
  -- nothing stands before itself
  pub irreflexive : (i : ℕ) → before i i ≡ false
  -- what stands before a second that stands before a third stands before the third
  pub transitive : (i j k : ℕ) → before i j ≡ true → before j k ≡ true → before i k ≡ true

-- neither stands before the other
abbrev pub Tied : (ℕ → ℕ → Bool) → ℕ → ℕ → Type 0
Tied before i j = (before i j ≡ false) × (before j i ≡ false)

-- the order by a key is strict
pub by_key-order : (key : ℕ → ℕ) → StrictOrder (by_key key)
by_key-order key =
    record {
      irreflexive = λ i. le-ltb (key i) (key i) (omega arith);
      transitive = λ i j k a b.
          lt-ltb (key i) (key k) (omega (arith, ltb-true (key i) (key j) a, ltb-true (key j) (key k) b));
    }

-- those that stand level in it have equal keys
pub by_key-tied : (key : ℕ → ℕ) (i j : ℕ) → Tied (by_key key) i j → key i ≡ key j
by_key-tied key i j t = omega (arith, ltb-false (key i) (key j) t.0, ltb-false (key j) (key i) t.1)

module _ (key : ℕ → ℕ) (rest : ℕ → ℕ → Bool) where
  -- the lower key stands first
  pub then_by-lower : (i j : ℕ) → key i < key j → then_by key rest i j ≡ true
  then_by-lower i j l = rw (lt-ltb (key i) (key j) l)

  -- the higher key does not
  pub then_by-higher : (i j : ℕ) → key j < key i → then_by key rest i j ≡ false
  then_by-higher i j l = rw (le-ltb (key i) (key j) (omega arith), ne_eqb (key i) (key j) (omega arith))

  -- among equal keys the rest decides
  pub then_by-equal : (i j : ℕ) → key i ≡ key j → then_by key rest i j ≡ rest i j
  then_by-equal i j e = rw (le-ltb (key i) (key j) (omega arith), eq-eqb (key i) (key j) e)

  -- what stands before another has the lower key, or an equal key and comes first in the rest
  by-keys : {X : Type 0} (i j : ℕ) → then_by key rest i j ≡ true
      → (key i < key j → X) → (key i ≡ key j → rest i j ≡ true → X) → X
  by-keys i j t f g =
      by-comparison (key i) (key j)
      f
      (λ e. g e (sym (then_by-equal i j e) ∙ t))
      (λ l. absurd (true≢false (sym t ∙ then_by-higher i j l)))

  then_by-transitive : StrictOrder rest → (i j k : ℕ)
      → then_by key rest i j ≡ true → then_by key rest j k ≡ true → then_by key rest i k ≡ true
  then_by-transitive order i j k a b =
      by-keys i j a
      (λ l. by-keys j k b (λ m. then_by-lower i k (omega arith)) (λ e r. then_by-lower i k (omega arith)))
      (λ d q. by-keys j k b (λ m. then_by-lower i k (omega arith)) (λ e r. both (d ∙ e) q r))
    where
      both : key i ≡ key k → rest i j ≡ true → rest j k ≡ true → then_by key rest i k ≡ true
      both e q r = then_by-equal i k e ∙ order.transitive i j k q r

  -- the order by a key first and then by a strict order is strict
  pub then_by-order : StrictOrder rest → StrictOrder (then_by key rest)
  then_by-order order =
      record {
        irreflexive = λ i. then_by-equal i i refl ∙ order.irreflexive i;
        transitive = then_by-transitive order;
      }

  -- those that stand level have equal keys and stand level in the rest
  pub then_by-tied : (i j : ℕ) → Tied (then_by key rest) i j → (key i ≡ key j) × Tied rest i j
  then_by-tied i j t =
      by-comparison (key i) (key j)
      (λ l. absurd (true≢false (sym (then_by-lower i j l) ∙ t.0)))
      (λ e. (e, (sym (then_by-equal i j e) ∙ t.0, sym (then_by-equal j i (sym e)) ∙ t.1)))
      (λ l. absurd (true≢false (sym (then_by-lower j i l) ∙ t.1)))

-- the order from its end
abbrev reversed : (ℕ → ℕ → Bool) → ℕ → ℕ → Bool
reversed before i j = before j i

-- a strict order from its end is strict
reversed-order : (before : ℕ → ℕ → Bool) → StrictOrder before → StrictOrder (reversed before)
reversed-order before order =
    record { irreflexive = order.irreflexive; transitive = λ i j k a b. order.transitive k j i b a }

module _ (key : ℕ → ℕ) (rest : ℕ → ℕ → Bool) where
  -- the higher key stands first
  pub highest_by-higher : (i j : ℕ) → key j < key i → highest_by key rest i j ≡ true
  highest_by-higher i j l = then_by-lower key (reversed rest) j i l

  -- among equal keys the rest decides
  pub highest_by-equal : (i j : ℕ) → key j ≡ key i → highest_by key rest i j ≡ rest i j
  highest_by-equal i j e = then_by-equal key (reversed rest) j i e

  -- the lower key does not stand first
  pub highest_by-lower : (i j : ℕ) → key i < key j → highest_by key rest i j ≡ false
  highest_by-lower i j l = then_by-higher key (reversed rest) j i l

  -- the order by the highest key first and then by a strict order is strict
  pub highest_by-order : StrictOrder rest → StrictOrder (highest_by key rest)
  highest_by-order order = reversed-order _ (then_by-order key (reversed rest) (reversed-order rest order))

  -- those that stand level in it have equal keys and stand level in the rest
  pub highest_by-tied : (i j : ℕ) → Tied (highest_by key rest) i j → (key i ≡ key j) × Tied rest i j
  highest_by-tied i j t = let e = then_by-tied key (reversed rest) i j (t.1, t.0) in (e.0, (e.1.1, e.1.0))
