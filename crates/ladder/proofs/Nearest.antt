-- The nearest price by the least difference, where the difference to a price on the wrong side wraps round.
--
-- In order: the least of a list with one more value; what the least difference tells is what is picked place after place; the price
-- that the least difference up tells, and the one that the least difference down tells; no price is under 0.
-- Assumes nothing.
use mathlib.Core.Path.{◌≡◌, refl, sym, ap, ◌∙◌}
use mathlib.Core.Bool.{Bool, cond}
use mathlib.Core.List.{List, [], ◌∷◌, ◌++◌, map}
use Prim.Native.Nat.{ℕ, zero, suc, ◌+◌, ◌-◌, ◌%◌, ◌≤◌, ◌<◌, min, max}
use native.Mathlib.Nat.{le_refl}
use native.Mathlib.Omega.{arith}
use lib.Dec.{leb, ltb}
use lib.ListN.{length, take, get_or}
use Rattle.std.proofs.Math.Nat.{min_comm}
use Rattle.std.proofs.Math.Seq.{take-length}
use Rattle.std.proofs.lemmas.Bool.Decides.{nat_tests}
use Rattle.std.proofs.lemmas.List.{map_more}
use Rattle.std.proofs.lemmas.List.Sums.{fold_push}
use Rattle.std.specs.List.{fold, reduce}
use Rattle.std.specs.Option.{SomeIff}
use Rattle.std.specs.Prelude.{Some, None}
use Rattle.std.specs.declared.option.Option.{Option}
use Rattle.ladder.specs.Prices.{of_both, pick_where, lowest_from, highest_under, onward}

-- ---- the least of a list with one more value

least-more : (ys : List ℕ) (x : ℕ) → reduce min (ys ++ x ∷ []) ≡ Some (of_both min x (reduce min ys))
least-more [] x = refl
least-more (y ∷ ys) x = ap Some (fold_push min y ys x ∙ min_comm (fold min y ys) x)

-- ---- what the least difference tells, where a difference alone, and the lesser of it and any other, tell what is to be picked

module _ (pick : ℕ → ℕ → ℕ) (test : ℕ → Bool) (apart : ℕ → ℕ) (back : ℕ → Option ℕ)
    (alone : (v : ℕ) → v < 4294967296 → back (apart v) ≡ cond (test v) (Some v) None)
    (beside : (v d : ℕ) → v < 4294967296 → back (min (apart v) d) ≡ cond (test v) (Some (of_both pick v (back d))) (back d)) where
  abbrev told : Option ℕ → Option ℕ
  told least = onward None back least

  told-more : (v : ℕ) (least : Option ℕ) → v < 4294967296
      → told (Some (of_both min (apart v) least)) ≡ cond (test v) (Some (of_both pick v (told least))) (told least)
  told-more v None l = alone v l
  told-more v (Some d) l = beside v d l

  module _ (xs : List ℕ) (fits : (i : ℕ) → get_or xs i 0 < 4294967296) where
    abbrev value : ℕ → ℕ
    value i = get_or xs i 0

    first-told : (n : ℕ) → n ≤ length xs → told (reduce min (map apart (take n xs))) ≡ pick_where pick (λ i. test (value i)) value n
    unfolding pick_where
    first-told zero l = refl
    first-told (suc n) l =
        ap (λ (k : ℕ). told (reduce min (map apart (take k xs)))) {x = suc n} {y = n + 1} (omega arith)
        ∙ ap (λ (ys : List ℕ). told (reduce min ys)) (map_more apart xs n 0 l)
        ∙ ap told (least-more (map apart (take n xs)) (apart (value n)))
        ∙ told-more (value n) _ (fits n)
        ∙ ap (λ (r : Option ℕ). cond (test (value n)) (Some (of_both pick (value n) r)) r) (first-told n (omega arith))

    all-told : told (reduce min (map apart xs)) ≡ pick_where pick (λ i. test (value i)) value (length xs)
    all-told =
        ap (λ (ys : List ℕ). told (reduce min (map apart ys))) (sym (take-length xs)) ∙ first-told (length xs) (le_refl (length xs))

-- ---- the price that the least difference up tells

abbrev pub up_to : ℕ → ℕ → ℕ
up_to from v = (v + (4294967296 - from)) % 4294967296

module _ (from : ℕ) (small : from < 4294967296) where
  abbrev over : ℕ → Option ℕ
  over d = cond (ltb (from + d) 4294967296) (Some (from + d)) None

  over-alone : (v : ℕ) → v < 4294967296 → over (up_to from v) ≡ cond (leb from v) (Some v) None
  over-alone v l = grind (arith, nat_tests)

  over-beside : (v d : ℕ) → v < 4294967296 → over (min (up_to from v) d) ≡ cond (leb from v) (Some (of_both min v (over d))) (over d)
  over-beside v d l = grind (arith, nat_tests)

  over-is : (d : ℕ) (r : Option ℕ) → SomeIff r (from + d < 4294967296) (from + d) → r ≡ over d
  over-is d None h = grind (arith, nat_tests, h)
  over-is d (Some p) h = grind (arith, nat_tests, h)

  module _ (xs : List ℕ) (fits : (i : ℕ) → get_or xs i 0 < 4294967296) where
    pub over-found : (d : ℕ) (r : Option ℕ) → Some d ≡ reduce min (map (up_to from) xs) → SomeIff r (from + d < 4294967296) (from + d)
        → r ≡ lowest_from (λ i. get_or xs i 0) (length xs) from
    unfolding lowest_from
    over-found d r e h =
        over-is d r h ∙ ap (onward None over) e ∙ all-told min (leb from) (up_to from) over over-alone over-beside xs fits

    pub over-none : None ≡ reduce min (map (up_to from) xs) → None ≡ lowest_from (λ i. get_or xs i 0) (length xs) from
    unfolding lowest_from
    over-none e = ap (onward None over) e ∙ all-told min (leb from) (up_to from) over over-alone over-beside xs fits

-- ---- the price that the least difference down from the number before a limit tells

abbrev pub down_to : ℕ → ℕ → ℕ
down_to last v = (last + (4294967296 - v)) % 4294967296

module _ (limit last : ℕ) (next : limit ≡ last + 1) (small : last < 4294967296) where
  abbrev under : ℕ → Option ℕ
  under d = cond (leb d last) (Some (last - d)) None

  under-alone : (v : ℕ) → v < 4294967296 → under (down_to last v) ≡ cond (ltb v limit) (Some v) None
  under-alone v l = grind (arith, nat_tests)

  under-beside : (v d : ℕ) → v < 4294967296 → under (min (down_to last v) d) ≡ cond (ltb v limit) (Some (of_both max v (under d))) (under d)
  under-beside v d l = grind (arith, nat_tests)

  under-is : (d : ℕ) (r : Option ℕ) → SomeIff r (d ≤ last) (last - d) → r ≡ under d
  under-is d None h = grind (arith, nat_tests, h)
  under-is d (Some p) h = grind (arith, nat_tests, h)

  module _ (xs : List ℕ) (fits : (i : ℕ) → get_or xs i 0 < 4294967296) where
    pub under-found : (d : ℕ) (r : Option ℕ) → Some d ≡ reduce min (map (down_to last) xs) → SomeIff r (d ≤ last) (last - d)
        → r ≡ highest_under (λ i. get_or xs i 0) (length xs) limit
    unfolding highest_under
    under-found d r e h =
        under-is d r h
        ∙ ap (onward None under) e
        ∙ all-told max (λ v. ltb v limit) (down_to last) under under-alone under-beside xs fits

    pub under-none : None ≡ reduce min (map (down_to last) xs) → None ≡ highest_under (λ i. get_or xs i 0) (length xs) limit
    unfolding highest_under
    under-none e = ap (onward None under) e ∙ all-told max (λ v. ltb v limit) (down_to last) under under-alone under-beside xs fits

-- ---- no price is under 0

module _ (price : ℕ → ℕ) (limit : ℕ) (least : limit ≡ 0) where
  none-picked : (n : ℕ) → None ≡ pick_where max (λ i. ltb (price i) limit) price n
  unfolding pick_where
  none-picked zero = refl
  none-picked (suc n) = none-picked n ∙ grind (arith, nat_tests)

  pub under-zero : (n : ℕ) → None ≡ highest_under price n limit
  unfolding highest_under
  under-zero n = none-picked n
