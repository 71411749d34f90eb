-- What is told of a book is the cause of its refusal 3: there is one exactly where the layout is wrong, and it lies in the block that
-- the refusal names.
--
-- In order: the earliest of a row of tests that fails, told another way; a book of a right length: whether there is a cause, and in
-- which block; a book of a wrong length.
-- Assumes nothing.
use mathlib.Core.Path.{◌≡◌, refl, sym, ap, ap₂, ◌∙◌}
use mathlib.Core.Bool.{Bool, true, false, ◌&&◌, false≢true}
use mathlib.Core.List.{List}
use Prim.Native.Nat.{ℕ, zero, suc, ◌+◌, ◌≤◌}
use native.Mathlib.Omega.{arith}
use Rattle.std.specs.Prelude.{Err, Ok, None}
use Rattle.laws.proofs.Cases.{by-test}
use Rattle.values.specs.Refusals.{place_of, unless, and_then, first, wrong_layout, Verdict, no_fault}
use Rattle.values.proofs.Firsts.{and_then-next, first-zero, first-suc}
use Rattle.sections.specs.Blocks.{block_count, block_of}
use Rattle.sections.specs.Section.{blocks_for, rows_here, rows_hold, block_fault, section_fault}
use Rattle.sections.specs.declared.section.Section.{Section}
use Rattle.layout.specs.Layout.{head_holds}
use Rattle.layout.specs.Form.{length_fault, offers_section, layout_fault}
use Rattle.causes.specs.Cause.{Told, failing, head_cause, block_cause, section_cause, blocks_cause, cause_of}
use Rattle.causes.proofs.Passes.{passes, passed-of, passes-unless, passes-and_then, and_then-stops, passes-first}
use Rattle.causes.proofs.Agreeing.{head-agree, block-agree, section-agree}
use Rattle.values.specs.declared.refusal.Refusal.{Refusal}
use Rattle.values.specs.declared.refusal.Refusal.TheVariants.{WrongLayout}

-- two rows of tests that pass alike; where the second names the place of the test that fails, the first fails there too
module _ (test : ℕ → Told) (other : ℕ → Verdict) (start : ℕ)
    (alike : (i : ℕ) → passes (test i) ≡ passes (other i))
    (named : (i : ℕ) (refusal : Refusal) → other i ≡ Err refusal → place_of refusal ≡ start + i) where
  firsts-alike : (n : ℕ) → passes (first test n) ≡ passes (first other n)
  firsts-alike n =
      passes-first test (λ i. passes (other i)) n (λ i l. alike i)
      ∙ sym (passes-first other (λ i. passes (other i)) n (λ i l. refl))

  -- the refusal among n tests and one more is the last's where the others passed, and else theirs
  last_of : (n : ℕ) (refusal : Refusal) → passes (first other n) ≡ true → first other (suc n) ≡ Err refusal
      → other n ≡ Err refusal
  last_of n refusal h e = sym (and_then-next (first other n) (other n) (passed-of _ h)) ∙ sym (first-suc other n) ∙ e

  before_of : (n : ℕ) (refusal : Refusal) → passes (first other n) ≡ false → first other (suc n) ≡ Err refusal
      → first other n ≡ Err refusal
  before_of n refusal h e = sym (and_then-stops (first other n) (other n) h) ∙ sym (first-suc other n) ∙ e

  first-there : (n j : ℕ) (refusal : Refusal) → place_of refusal ≡ start + j → first other n ≡ Err refusal → first test n ≡ test j
  first-there zero j refusal at e = absurd (false≢true (ap passes (sym e ∙ first-zero other)))
  first-there (suc n) j refusal at e =
      by-test (passes (first other n))
      (λ h.
      let here : n ≡ j = omega (arith, at, named n refusal (last_of n refusal h e)) in
      first-suc test n ∙ and_then-next (first test n) (test n) (passed-of _ (firsts-alike n ∙ h)) ∙ ap test here)
      (λ h.
      first-suc test n
      ∙ and_then-stops (first test n) (test n) (firsts-alike n ∙ h)
      ∙ first-there n j refusal at (before_of n refusal h e))

  -- no place before the first is named
  first-from : (n : ℕ) (refusal : Refusal) → first other n ≡ Err refusal → start ≤ place_of refusal
  first-from zero refusal e = absurd (false≢true (ap passes (sym e ∙ first-zero other)))
  first-from (suc n) refusal e =
      by-test (passes (first other n))
      (λ h. omega (arith, named n refusal (last_of n refusal h e)))
      (λ h. first-from n refusal (before_of n refusal h e))

-- a test that refuses at a place names it
unless-named : (t : Bool) (fault refusal : Refusal) → unless t (Err fault) ≡ Err refusal → place_of refusal ≡ place_of fault
unless-named true fault refusal e = cc
unless-named false fault refusal e = let same : refusal ≡ fault = cc in ap place_of same

-- so does a block of a section, by its number
block-named : (b : List ℕ) (t : Section) (j : ℕ) (refusal : Refusal) → block_fault b t j ≡ Err refusal → place_of refusal ≡ t.number + j
unfolding block_fault
block-named b t j =
    unless-named (rows_hold t (block_of b (t.first + j)) (t.number + j) (rows_here t.rows j)) (WrongLayout (t.number + j))

-- a section that is refused at a block has its cause there
section-there : (b : List ℕ) (t : Section) (j : ℕ) → section_fault b t ≡ wrong_layout (t.number + j) → section_cause b t ≡ block_cause b t j
unfolding section_cause section_fault
section-there b t j =
    first-there (block_cause b t) (block_fault b t) t.number (block-agree b t) (block-named b t) (blocks_for t.rows) j
    (WrongLayout (t.number + j)) refl

section-from : (b : List ℕ) (t : Section) (refusal : Refusal) → section_fault b t ≡ Err refusal → t.number ≤ place_of refusal
unfolding section_fault
section-from b t =
    first-from (block_cause b t) (block_fault b t) t.number (block-agree b t) (block-named b t) (blocks_for t.rows)

place_same : {n p : ℕ} → wrong_layout n ≡ wrong_layout p → n ≡ p
place_same e = cc

-- nothing failed exactly where it passed
none-passes : (v : Told) → failing v ≡ None → passes v ≡ true
none-passes (Ok u) e = refl
none-passes (Err cause) e = cc

-- a book of a right length
module _ (b : List ℕ) (long : length_fault b ≡ no_fault) where
  abbrev s : List ℕ
  s = block_of b 0

  abbrev t : Section
  t = offers_section b

  blocks-both : blocks_cause b ≡ and_then (head_cause s (block_count b)) (section_cause b t)
  unfolding blocks_cause
  blocks-both = refl

  cause-both : cause_of b ≡ failing (blocks_cause b)
  unfolding cause_of
  cause-both = rw long

  -- block 0 passes alike
  head-alike : passes (head_cause s (block_count b)) ≡ passes (unless (head_holds s (block_count b)) (wrong_layout 0))
  head-alike = head-agree s (block_count b) ∙ sym (passes-unless (head_holds s (block_count b)) _)

  cause-agree : passes (blocks_cause b) ≡ passes (layout_fault b)
  unfolding layout_fault
  cause-agree =
      ap passes blocks-both
      ∙ passes-and_then (head_cause s (block_count b)) (section_cause b t)
      ∙ ap₂ ◌&&◌ head-alike (section-agree b t)
      ∙ sym (passes-and_then (unless (head_holds s (block_count b)) (wrong_layout 0)) (section_fault b t))

  -- there is no cause exactly where the layout is right
  pub cause-found : cause_of b ≡ None → layout_fault b ≡ no_fault
  cause-found e = passed-of (layout_fault b) (sym cause-agree ∙ none-passes (blocks_cause b) (sym cause-both ∙ e))

  pub cause-none : layout_fault b ≡ no_fault → cause_of b ≡ None
  cause-none e = cause-both ∙ ap failing (passed-of (blocks_cause b) (cause-agree ∙ ap passes e))

  -- where block 0 is right the section decides, and else block 0 is named
  fault-held : head_holds s (block_count b) ≡ true → layout_fault b ≡ section_fault b t
  unfolding layout_fault
  fault-held h = rw h

  fault-failed : head_holds s (block_count b) ≡ false → layout_fault b ≡ wrong_layout 0
  unfolding layout_fault
  fault-failed h = rw h

  -- where the refusal names block 0, the cause is that of block 0
  pub cause-head : layout_fault b ≡ wrong_layout 0 → cause_of b ≡ failing (head_cause s (block_count b))
  cause-head e =
      by-test (head_holds s (block_count b))
      (λ h. absurd (omega (arith, section-from b t (WrongLayout 0) (sym (fault-held h) ∙ e))))
      (λ h.
      cause-both
      ∙ ap failing
      (blocks-both ∙ and_then-stops (head_cause s (block_count b)) (section_cause b t) (head-agree s (block_count b) ∙ h)))

  -- and where it names another, that of the block of the offers
  pub cause-block : (j : ℕ) → layout_fault b ≡ wrong_layout (1 + j) → cause_of b ≡ failing (block_cause b t j)
  cause-block j e =
      by-test (head_holds s (block_count b))
      (λ h.
      cause-both
      ∙ ap failing
      (blocks-both
      ∙ and_then-next (head_cause s (block_count b)) (section_cause b t) (passed-of _ (head-agree s (block_count b) ∙ h))
      ∙ section-there b t j (sym (fault-held h) ∙ e)))
      (λ h. let place : 1 + j ≡ 0 = place_same (sym e ∙ fault-failed h) in absurd (omega arith))

-- of a wrong length nothing is told here
pub cause-length : (b : List ℕ) (refusal : Refusal) → length_fault b ≡ Err refusal → cause_of b ≡ None
unfolding cause_of
cause-length b refusal e = rw e
