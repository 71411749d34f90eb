-- Laws of a part of a list: so many elements from a place on.
--
-- In order: a part, its length and its elements; parts that are joined, and the whole; parts of two lists put together; an
-- element of two lists put together.
-- Assumes nothing.
use mathlib.Core.Path.{◌≡◌, ap₂, ◌∙◌}
use mathlib.Core.List.{List, ◌++◌}
use Prim.Native.Nat.{ℕ, ◌+◌, ◌≤◌, ◌<◌}
use native.Mathlib.Omega.{arith}
use lib.ListN.{length, get_or, take, drop, length-take, length-drop}
use lib.Seq.{get_or-take, get_or-drop, take-add, drop-drop, take-length, take_at, drop-append-add, get_or-append-add}

-- n elements from the place `at` on
abbrev pub part {ℓ} : {A : Type ℓ} → List A → ℕ → ℕ → List A
part s at n = take n (drop at s)

module _ {ℓ} {A : Type ℓ} where
  pub length_part : (s : List A) (at n : ℕ) → at + n ≤ length s → length (part s at n) ≡ n
  length_part s at n h = simp (length-take, length-drop) (omega arith)

  pub get_d_part : (s : List A) (at n i : ℕ) (d : A) → i < n → get_or (part s at n) i d ≡ get_or s (at + i) d
  get_d_part s at n i d h = rw (get_or-take, get_or-drop)

  -- a part and the part behind it
  pub part_join : (s : List A) (at n m : ℕ) → part s at n ++ part s (at + n) m ≡ part s at (n + m)
  part_join s at n m = rw (take-add, drop-drop)

  -- what stands in a part, put before what stands in the part behind it
  pub part-onto : (s : List A) (at n m : ℕ) {xs ys : List A} → xs ≡ part s at n → ys ≡ part s (at + n) m
      → xs ++ ys ≡ part s at (n + m)
  part-onto s at n m e f = ap₂ ◌++◌ e f ∙ part_join s at n m

  -- the whole list
  pub part-whole : (s : List A) → part s 0 (length s) ≡ s
  part-whole s = take-length s

  -- the first of two lists put together, and a part of the second
  pub part-here : (p q : List A) (n : ℕ) → length p ≡ n → part (p ++ q) 0 n ≡ p
  part-here p q n e = take_at p q n e

  pub part-past : (p q : List A) (k at n : ℕ) → length p ≡ k → part (p ++ q) (k + at) n ≡ part q at n
  part-past p q k at n e = rw (← e, drop-append-add)

  -- an element of the second
  pub get_d_past : (p q : List A) (k i : ℕ) (d : A) → length p ≡ k → get_or (p ++ q) (k + i) d ≡ get_or q i d
  get_d_past p q k i d e = rw (← e) (get_or-append-add p q i d)
