-- When converting is refused, and by which number.
--
-- In order: tests that never refuse by 11; a book that is not sound is never refused by it; 11 is given exactly when a sound book
-- of edition 2 has a step of 2 or more, at the first such row.
-- Assumes nothing.
use mathlib.Core.Path.{◌≡◌, refl, sym, ap, ◌∙◌}
use mathlib.Core.Bool.{Bool, true, false, ◌&&◌}
use mathlib.Core.List.{List}
use Prim.Native.Nat.{ℕ, zero, suc, ◌+◌, ◌-◌, ◌%◌, ◌≤◌, ◌<◌}
use native.Mathlib.Omega.{arith}
use lib.Dec.{eqb, leb}
use lib.ListN.{length}
use borrow.Author.Tests.{leb-true}
use Rattle.std.specs.Prelude.{Err, Ok}
use Rattle.laws.proofs.Cases.{by_order}
use Rattle.values.specs.Contents.{Contents, offer_at}
use Rattle.values.specs.declared.refusal.Refusal.TheVariants.{WrongLength, WrongCheck, WrongLayout, ParameterOutOfRange, OfferOutOfRange, RepeatedResource, BrokenSteps, SeveralSteps, ShortRoom}
use Rattle.values.specs.Refusals.{number_of, several_steps, parameter_out_of_range, wrong_layout, unless, and_then, first, Verdict, no_fault}
use Rattle.values.specs.declared.head.Parameters.{Parameters}
use Rattle.values.specs.declared.place.Offer.{Offer}
use Rattle.values.proofs.Firsts.{unless-passed, and_then-next, and_then-refused, first-zero, first-suc, first-at, first-all, first-refused}
use Rattle.block.specs.Check.{check_holds}
use Rattle.sections.specs.Blocks.{block_count, block_of}
use Rattle.layout.specs.Form.{length_fault, check_fault, offers_section, layout_fault, form_fault}
use Rattle.layout.specs.Layout.{edition_known, head_holds}
use Rattle.layout.specs.Read.{contents_of}
use Rattle.sections.specs.Section.{blocks_for, rows_here, rows_hold, block_fault, section_fault}
use Rattle.sections.specs.declared.section.Section.{Section}
use Rattle.layout.proofs.Contained.{contents-edition}
use Rattle.layout.proofs.Passing.{form-passed-edition}
use Rattle.limits.specs.Parameters.{within, given_within, offset_most, margin_within, range_fault}
use Rattle.limits.specs.Offers.{offer_in_range, offer_fault, repeat_fault, step_fault, rows_fault}
use Rattle.repeats.specs.Repeats.{no_repeat}
use Rattle.steps.specs.Steps.{step_holds}
use Rattle.limits.proofs.Lowest.{by_first}
use Rattle.book.specs.Faults.{given_fault, sound_fault}
use Rattle.book.proofs.Accepted.{sound-form}
use Rattle.convert.specs.Convert.{down_fault, converted, convert_fault, FirstOfSeveral}
use Rattle.convert.proofs.Converted.{one_step, row-passed, row-refused, down-one, down-two}
use Rattle.convert.proofs.Other.{by-edition}
use Rattle.values.specs.declared.refusal.Refusal.{Refusal}

-- ---- tests that never refuse by 11

-- a number for each verdict: 0 for one that passed, and the number of a refusal
abbrev numbered : Verdict → ℕ
numbered (Ok u) = 0
numbered (Err refusal) = number_of refusal

abbrev NotEleven : Verdict → Type 0
NotEleven v = (row : ℕ) → v ≡ several_steps row → ⊥

passes : NotEleven no_fault
passes row e = omega (arith, ap numbered e)

refuses : (refusal : Refusal) → (number_of refusal ≡ 11 → ⊥) → NotEleven (Err refusal)
refuses refusal other at e = other (ap numbered e)

unless_not : (t : Bool) (refusal : Refusal) → (number_of refusal ≡ 11 → ⊥) → NotEleven (unless t (Err refusal))
unless_not true refusal other = passes
unless_not false refusal other = refuses refusal other

then-not : (v w : Verdict) → NotEleven v → NotEleven w → NotEleven (and_then v w)
then-not (Ok u) w f g = g
then-not (Err refusal) w f g = f

first-not : (test : ℕ → Verdict) (n : ℕ) → ((i : ℕ) → NotEleven (test i)) → NotEleven (first test n)
first-not test zero each = rw (first-zero test) passes
first-not test (suc n) each = rw (first-suc test n) (then-not (first test n) (test n) (first-not test n each) (each n))

other-than : (number : ℕ) → number < 11 → number ≡ 11 → ⊥
other-than number l e = omega (arith, l, e)

-- ---- a book that is not sound

length-not : (b : List ℕ) → NotEleven (length_fault b)
unfolding length_fault
length-not b = unless_not (eqb (length b % 512) 0 && (leb 512 (length b) && leb (length b) 20992)) WrongLength (other-than 1 (omega arith))

check-not : (b : List ℕ) → NotEleven (check_fault b)
unfolding check_fault
check-not b =
    first-not _ (block_count b) (λ k. unless_not (check_holds (block_of b k)) (WrongCheck k) (other-than 2 (omega arith)))

block-not : (b : List ℕ) (t : Section) (j : ℕ) → NotEleven (block_fault b t j)
unfolding block_fault
block-not b t j =
    unless_not (rows_hold t (block_of b (t.first + j)) (t.number + j) (rows_here t.rows j)) (WrongLayout (t.number + j))
    (other-than 3 (omega arith))

layout-not : (b : List ℕ) → NotEleven (layout_fault b)
unfolding layout_fault section_fault
layout-not b =
    let t = offers_section b in
    then-not (unless (head_holds (block_of b 0) (block_count b)) (wrong_layout 0)) _
    (unless_not (head_holds (block_of b 0) (block_count b)) (WrongLayout 0) (other-than 3 (omega arith)))
    (first-not (block_fault b t) (blocks_for t.rows) (block-not b t))

form-not : (b : List ℕ) → NotEleven (form_fault b)
unfolding form_fault
form-not b = then-not (length_fault b) _ (length-not b) (then-not (check_fault b) _ (check-not b) (layout-not b))

range-not : (p : Parameters) → NotEleven (range_fault p)
unfolding range_fault
range-not p =
    let five : (t : Bool) (field : ℕ) → NotEleven (unless t (parameter_out_of_range field)) =
    λ t field. unless_not t (ParameterOutOfRange field) (other-than 5 (omega arith)) in
    then-not _ _ (five (within 2022 2099 p.year) 1)
    (then-not _ _ (five (given_within 1 1000000 p.cost) 2)
    (then-not _ _ (five (given_within 0 (offset_most p.cost) p.offset) 3)
    (then-not _ _ (five (given_within 0 5000 p.outage) 4)
    (then-not _ _ (five (given_within 1000 2000000 p.requirement) 5)
    (five (margin_within p.year p.margin) 6)))))

rows-not : (edition : ℕ) (offers : ℕ → Offer) (n : ℕ) → NotEleven (rows_fault false edition offers n)
unfolding rows_fault offer_fault repeat_fault step_fault
rows-not edition offers n =
    first-not _ n
    (λ row.
    then-not _ _ (unless_not (offer_in_range edition (offers row)) (OfferOutOfRange row) (other-than 7 (omega arith)))
    (then-not _ _
    (unless_not (no_repeat (λ r. (offers r).resource) (λ r. (offers r).step) row) (RepeatedResource row) (other-than 8 (omega arith)))
    (unless_not (step_holds (offers (row - 1)) (offers row) row) (BrokenSteps row) (other-than 10 (omega arith)))))

-- A book that is not sound is never refused by 11.
pub sound-not-eleven : (b : List ℕ) (place : ℕ) → sound_fault b ≡ several_steps place → ⊥
unfolding sound_fault given_fault
sound-not-eleven b =
    then-not (form_fault b) _ (form-not b)
    (then-not (range_fault (contents_of b).parameters) _ (range-not (contents_of b).parameters)
    (rows-not (contents_of b).edition (offer_at (contents_of b).offers) (length (contents_of b).offers)))

-- ---- 11

then_at : (v w : Verdict) (place : ℕ) → NotEleven v → and_then v w ≡ several_steps place → (v ≡ no_fault) × (w ≡ several_steps place)
then_at (Ok u) w place f e = (refl, e)
then_at (Err refusal) w place f e = absurd (f place e)

-- the second of two tests, where the third does not refuse by 11
then-first : (v w : Verdict) (place : ℕ) → NotEleven w → and_then v w ≡ several_steps place → v ≡ several_steps place
then-first (Ok u) w place f e = absurd (f place e)
then-first (Err refusal) w place f e = e

-- the row that `first` refused at is the first with a step of 2 or more
found : (c : Contents) → c.edition ≡ 2 → (i : ℕ) (refusal : Refusal) (row : ℕ) → i < length c.offers → first (one_step c.offers) i ≡ no_fault
    → one_step c.offers i ≡ Err refusal → first (one_step c.offers) (length c.offers) ≡ several_steps row → FirstOfSeveral c row
found c two i refusal row l before at down =
    let over : 2 ≤ (offer_at c.offers i).step =
    by_order (offer_at c.offers i).step 1
    (λ low. cc (sym at ∙ row-passed c.offers i low))
    (λ high. omega (arith, high)) in
    let same : i ≡ row =
    cc (sym (first-refused (one_step c.offers) (length c.offers) i (SeveralSteps i) l before (row-refused c.offers i over)) ∙ down) in
    rw (← same)
    record {
      edition = two;
      there = l;
      several = over;
      before = λ earlier k. leb-true _ 1 (unless-passed _ (SeveralSteps earlier) (first-at (one_step c.offers) i earlier before k));
    }

module _ (b : List ℕ) (row : ℕ) where
  -- A sound book that goes down is refused by 11 at its first row with a step of 2 or more,
  pub several-refused : sound_fault b ≡ no_fault → FirstOfSeveral (contents_of b) row → (room : ℕ) → convert_fault b room ≡ several_steps row
  unfolding convert_fault
  several-refused sound f room =
      let c = contents_of b in
      let down : down_fault c ≡ several_steps row =
      down-two c f.edition
      ∙ first-refused (one_step c.offers) (length c.offers) row (SeveralSteps row) f.there
      (first-all (one_step c.offers) row (λ earlier l. row-passed c.offers earlier (f.before earlier l)))
      (row-refused c.offers row f.several) in
      and_then-next (sound_fault b) _ sound ∙ and_then-refused (down_fault c) _ (SeveralSteps row) down

  -- and where converting is refused by 11, the book is sound and the row is that one.
  pub several-only : (room : ℕ) → convert_fault b room ≡ several_steps row → (sound_fault b ≡ no_fault) × FirstOfSeveral (contents_of b) row
  unfolding convert_fault
  several-only room e =
      let c = contents_of b in
      let parts = then_at (sound_fault b) _ row (sound-not-eleven b) e in
      let down = then-first (down_fault c) _ row (unless_not (leb (length (converted b)) room) ShortRoom (λ (f : 20 ≡ 11). omega (arith, f))) parts.1 in
      (parts.0, told c (rw (contents-edition b) at (form-passed-edition b (sound-form b parts.0))) down)
    where
      told : (c : Contents) → edition_known c.edition ≡ true → down_fault c ≡ several_steps row → FirstOfSeveral c row
      told c known down =
          by-edition c.edition known
          (λ one. absurd (passes row (sym (down-one c one) ∙ down)))
          (λ two.
          by_first (one_step c.offers) (length c.offers)
          (λ all. absurd (passes row (sym all ∙ sym (down-two c two) ∙ down)))
          (λ i refusal l before at. found c two i refusal row l before at (sym (down-two c two) ∙ down)))
