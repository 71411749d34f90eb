-- Laws of `those`, the items of a list that pass a test.
--
-- In order: an item that passes and one that does not; tests that agree on a list; two lists one behind the other; items that are
-- made of others, and ways to make them that agree where the test passes; sums whose summands count only where the test passes.
-- Assumes nothing.
use mathlib.Core.Path.{◌≡◌, refl, sym, ap, ap₂, ◌∙◌}
use mathlib.Core.Bool.{Bool, true, false, cond}
use mathlib.Core.List.{List, [], ◌∷◌, ◌++◌, map}
use Prim.Native.Nat.{ℕ, zero, suc, ◌+◌, ◌<◌}
use native.Mathlib.Omega.{arith}
use lib.ListN.{length, get_or}
use Rattle.laws.specs.Sum.{sum_to}
use Rattle.laws.specs.Lists.{list_of, those}
use Rattle.laws.proofs.Cases.{by-test, cond-true, cond-false}
use Rattle.laws.proofs.Sums.{sum_to-zero, sum_to-suc}

module _ {ℓ} {A : Type ℓ} (test : A → Bool) where
  pub those-none : those test [] ≡ []
  unfolding those
  those-none = refl

  -- an item that passes stands first
  pub those-passed : (x : A) (xs : List A) → test x ≡ true → those test (x ∷ xs) ≡ x ∷ those test xs
  unfolding those
  those-passed x xs e = cond-true (test x) _ _ e

  -- one that does not is left out
  pub those-left : (x : A) (xs : List A) → test x ≡ false → those test (x ∷ xs) ≡ those test xs
  unfolding those
  those-left x xs e = cond-false (test x) _ _ e

  -- two tests that agree at each place of a list pass the same items of it
  pub those-same : (other : A → Bool) (xs : List A) (d : A)
      → ((i : ℕ) → i < length xs → test (get_or xs i d) ≡ other (get_or xs i d)) → those test xs ≡ those other xs
  unfolding those
  those-same other [] d h = refl
  those-same other (x ∷ xs) d h =
      ap₂ (λ (t : Bool) (r : List A). cond t (x ∷ r) r) (h 0 (omega arith)) (those-same other xs d (λ i l. h (suc i) (omega arith)))

  cond-append : (t : Bool) (x : A) (r s : List A) → cond t (x ∷ (r ++ s)) (r ++ s) ≡ cond t (x ∷ r) r ++ s
  cond-append true x r s = refl
  cond-append false x r s = refl

  -- of two lists one behind the other, those of the first and then those of the second
  pub those-append : (xs ys : List A) → those test (xs ++ ys) ≡ those test xs ++ those test ys
  unfolding those
  those-append [] ys = refl
  those-append (x ∷ xs) ys =
      ap (λ (r : List A). cond (test x) (x ∷ r) r) (those-append xs ys) ∙ cond-append (test x) x (those test xs) (those test ys)

  -- an item that does not pass can be put anywhere
  pub those-inserted : (xs : List A) (x : A) (ys : List A) → test x ≡ false → those test (xs ++ (x ∷ ys)) ≡ those test (xs ++ ys)
  those-inserted xs x ys e =
      those-append xs (x ∷ ys) ∙ ap (λ (r : List A). those test xs ++ r) (those-left x ys e) ∙ sym (those-append xs ys)

-- ---- items that are made of others

module _ {ℓ κ} {A : Type ℓ} {B : Type κ} where
  cond_map : (t : Bool) (f : A → B) (x : A) (r : List A) → cond t (f x ∷ map f r) (map f r) ≡ map f (cond t (x ∷ r) r)
  cond_map true f x r = refl
  cond_map false f x r = refl

  -- those among items that are made of others are made of those that make such
  pub those-map : (test : B → Bool) (f : A → B) (xs : List A) → those test (map f xs) ≡ map f (those (λ x. test (f x)) xs)
  unfolding those
  those-map test f [] = refl
  those-map test f (x ∷ xs) =
      ap (λ (r : List B). cond (test (f x)) (f x ∷ r) r) (those-map test f xs) ∙ cond_map (test (f x)) f x (those (λ y. test (f y)) xs)

  -- ways to make them that agree where the test passes make the same
  pub those-agree : (test : A → Bool) (f g : A → B) → ((x : A) → test x ≡ true → f x ≡ g x)
      → (xs : List A) → map f (those test xs) ≡ map g (those test xs)
  those-agree test f g h [] = rw (those-none test)
  those-agree test f g h (x ∷ xs) =
      by-test (test x)
      (λ e. rw (those-passed test x xs e) (ap₂ (λ (y : B) (ys : List B). y ∷ ys) (h x e) (those-agree test f g h xs)))
      (λ e. rw (those-left test x xs e) (those-agree test f g h xs))

-- ---- sums

-- the first place, and those behind it
sum_to-front : (f : ℕ → ℕ) (n : ℕ) → sum_to f (suc n) ≡ f 0 + sum_to (λ i. f (suc i)) n
sum_to-front f zero = omega (arith, sum_to-suc f 0, sum_to-zero f, sum_to-zero (λ i. f (suc i)))
sum_to-front f (suc n) = omega (arith, sum_to-suc f (suc n), sum_to-front f n, sum_to-suc (λ i. f (suc i)) n)

-- what the items of a list come to
unfoldable sum_of {ℓ} : {A : Type ℓ} → (A → ℕ) → List A → ℕ
sum_of value [] = 0
sum_of value (x ∷ xs) = value x + sum_of value xs

module _ {ℓ} {A : Type ℓ} (test : A → Bool) where
  -- summands that count only where the test passes: the sum over all places is that of the items that pass
  sum_to-those : (value : A → ℕ) → ((x : A) → test x ≡ false → value x ≡ 0)
      → (f : ℕ → A) (n : ℕ) → sum_to (λ i. value (f i)) n ≡ sum_of value (those test (list_of f n))
  unfolding sum_of list_of
  sum_to-those value apart f zero = rw (those-none test) (sum_to-zero (λ i. value (f i)))
  sum_to-those value apart f (suc n) =
      let front = sum_to-front (λ i. value (f i)) n in
      let rest = sum_to-those value apart (λ i. f (suc i)) n in
      by-test (test (f 0))
      (λ e. rw (those-passed test (f 0) (list_of (λ i. f (suc i)) n) e) (omega (arith, front, rest)))
      (λ e. rw (those-left test (f 0) (list_of (λ i. f (suc i)) n) e) (omega (arith, front, rest, apart (f 0) e)))

  sum_of-agree : (value other : A → ℕ) → ((x : A) → test x ≡ true → value x ≡ other x)
      → (xs : List A) → sum_of value (those test xs) ≡ sum_of other (those test xs)
  unfolding sum_of
  sum_of-agree value other h [] = rw (those-none test)
  sum_of-agree value other h (x ∷ xs) =
      by-test (test x)
      (λ e. rw (those-passed test x xs e) (ap₂ ◌+◌ (h x e) (sum_of-agree value other h xs)))
      (λ e. rw (those-left test x xs e) (sum_of-agree value other h xs))

  -- THE LAW OF SUMS. Where two rows of items have the same items that pass, and the summands count only at such and agree there,
  -- both sums are the same, wherever the items stand.
  pub sums-agree : (value other : A → ℕ) → ((x : A) → test x ≡ false → value x ≡ 0) → ((x : A) → test x ≡ false → other x ≡ 0)
      → ((x : A) → test x ≡ true → value x ≡ other x)
      → (f g : ℕ → A) (n m : ℕ) → those test (list_of f n) ≡ those test (list_of g m)
      → sum_to (λ i. value (f i)) n ≡ sum_to (λ i. other (g i)) m
  sums-agree value other apart apart' h f g n m same =
      sum_to-those value apart f n
      ∙ ap (sum_of value) same
      ∙ sum_of-agree value other h (list_of g m)
      ∙ sym (sum_to-those other apart' g m)
