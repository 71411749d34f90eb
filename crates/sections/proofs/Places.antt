-- The fifteen places of a block hold where the used ones are laid out as such and the bytes from the first unused place on
-- are zero.
--
-- In order: bytes that are zero, one by one; a place that is all zero; no byte past the last place; the places of a block.
-- Assumes nothing.
use mathlib.Core.Path.{◌≡◌, sym, ap, ◌∙◌}
use mathlib.Core.Bool.{Bool, true, ◌&&◌}
use mathlib.Core.List.{List}
use Prim.Native.Nat.{ℕ, ◌+◌, ◌-◌, ◌*◌, ◌/◌, ◌%◌, ◌≤◌, ◌<◌, min}
use native.Mathlib.Nat.{zero-add, le_refl, le_of_lt, min-eq_left, min-eq_right}
use native.Mathlib.Omega.{arith}
use lib.Dec.{ltb}
use lib.Seq.{get_or-take, get_or-drop}
use borrow.Author.Tests.{lt-ltb, le-ltb, eq-eqb, eqb-true}
use Rattle.laws.specs.Sum.{every}
use Rattle.laws.proofs.Cases.{by_order, and-true, and_left, and_right}
use Rattle.laws.proofs.Everys.{every-at, every-all}
use Rattle.block.specs.Bytes.{byte, blank}
use Rattle.sections.specs.Blocks.{place_of}
use Rattle.sections.specs.Section.{place_holds, places_hold}
use Rattle.sections.specs.inner.Section.{used_only}
use Rattle.sections.specs.declared.section.LastBytes.{LastBytes}
use Rattle.sections.proofs.Last.{same_test}

-- zero bytes, one by one
pub blank-at : (s : List ℕ) (from n i : ℕ) → blank s from n ≡ true → i < n → byte s (from + i) ≡ 0
unfolding blank
blank-at s from n i e l = eqb-true _ _ (every-at _ n i e l)

pub blank-all : (s : List ℕ) (from n : ℕ) → ((i : ℕ) → i < n → byte s (from + i) ≡ 0) → blank s from n ≡ true
unfolding blank
blank-all s from n h = every-all _ n (λ i l. eq-eqb _ _ (h i l))

-- a byte of a place
pub place_byte : (s : List ℕ) (i j : ℕ) → j < 32 → byte (place_of s i) j ≡ byte s (28 + i * 32 + j)
unfolding place_of
place_byte s i j l = rw (get_or-take, get_or-drop)

-- a place that is all zero
zero-byte : (p : List ℕ) (i : ℕ) → blank p 0 32 ≡ true → i < 32 → byte p i ≡ 0
zero-byte p i e l = rw zero-add at (blank-at p 0 32 i e l)

-- past the last of fifteen used places there is no byte to test
rest-none : (s : List ℕ) (here : ℕ) → 15 ≤ here → blank s (28 + here * 32) ((15 - here) * 32) ≡ true
rest-none s here l = blank-all s (28 + here * 32) ((15 - here) * 32) (λ i k. omega arith)

-- so where more places than there are would be used, the bytes after the last are tested, which are none
pub rest-least : (s : List ℕ) (here : ℕ)
    → blank s (28 + min here 15 * 32) ((15 - min here 15) * 32) ≡ blank s (28 + here * 32) ((15 - here) * 32)
rest-least s here =
    by_order here 15
    (λ l. rw (min-eq_left l))
    (λ l. rw (min-eq_right (le_of_lt l)) (rest-none s 15 (le_refl 15) ∙ sym (rest-none s here (le_of_lt l))))

module _ (last : LastBytes) (s : List ℕ) (here : ℕ) where
  -- place i holds; it is laid out as a used one, if it is used; the bytes from the first unused place on are zero
  abbrev holds : ℕ → Bool
  holds i = place_holds last (ltb i here) (place_of s i)

  abbrev used : ℕ → Bool
  used i = used_only last (ltb i here) (place_of s i)

  abbrev rest : Bool
  rest = blank s (28 + here * 32) ((15 - here) * 32)

  -- for a place that is used, to hold is to be laid out as such; for one that is not, to be all zero
  holds-used : (i : ℕ) → i < here → holds i ≡ used i
  unfolding place_holds used_only
  holds-used i l = rw (lt-ltb i here l)

  holds-blank : (i : ℕ) → here ≤ i → holds i ≡ blank (place_of s i) 0 32
  unfolding place_holds
  holds-blank i l = rw (le-ltb i here l)

  used-past : (i : ℕ) → here ≤ i → used i ≡ true
  unfolding used_only
  used-past i l = rw (le-ltb i here l)

  -- a place that holds is laid out as a used one, if it is used
  used-of-holds : (i : ℕ) → holds i ≡ true → used i ≡ true
  used-of-holds i e = by_order here i (λ h. used-past i h) (λ h. sym (holds-used i h) ∙ e)

  -- where all hold, the bytes from the first unused place on are zero
  rest-of-holds : every holds 15 ≡ true → rest ≡ true
  rest-of-holds e =
      blank-all s (28 + here * 32) ((15 - here) * 32)
      (λ k l.
      let i : ℕ = here + k / 32 in
      let j : ℕ = k % 32 in
      let there : blank (place_of s i) 0 32 ≡ true = sym (holds-blank i (omega arith)) ∙ every-at holds 15 i e (omega arith) in
      let same : 28 + here * 32 + k ≡ 28 + i * 32 + j = omega arith in
      ap (byte s) same ∙ sym (place_byte s i j (omega arith)) ∙ zero-byte (place_of s i) j there (omega arith))

  -- where those are, an unused place is all zero
  blank-of-rest : rest ≡ true → (i : ℕ) → here ≤ i → i < 15 → blank (place_of s i) 0 32 ≡ true
  blank-of-rest e i h l =
      blank-all (place_of s i) 0 32
      (λ j k.
      let at : ℕ = (i - here) * 32 + j in
      let same : 28 + i * 32 + j ≡ 28 + here * 32 + at = omega arith in
      rw zero-add
      (place_byte s i j k ∙ ap (byte s) same ∙ blank-at s (28 + here * 32) ((15 - here) * 32) at e (omega arith)))

  -- so a place holds where it is laid out as a used one, if it is used, and those are zero
  holds-of-both : every used 15 ≡ true → rest ≡ true → (i : ℕ) → i < 15 → holds i ≡ true
  holds-of-both u e i l =
      by_order here i
      (λ h. holds-blank i h ∙ blank-of-rest e i h l)
      (λ h. holds-used i h ∙ every-at used 15 i u l)

  pub places-rest : places_hold last s here ≡ every used 15 && rest
  unfolding places_hold
  places-rest =
      same_test (every holds 15) (every used 15 && rest)
      (λ e. and-true _ _ (every-all used 15 (λ i l. used-of-holds i (every-at holds 15 i e l))) (rest-of-holds e))
      (λ e. every-all holds 15 (holds-of-both (and_left _ _ e) (and_right (every used 15) _ e)))
