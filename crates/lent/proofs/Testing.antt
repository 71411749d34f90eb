-- The rows of a draft, tested one after another.
--
-- In order: the draft and what is kept after the first i rows; before the first row; one row more; the end.
-- Assumes nothing.
use mathlib.Core.Path.{◌≡◌, refl, sym, ap, ap₂, ◌∙◌}
use mathlib.Core.Bool.{false}
use mathlib.Core.List.{List}
use Prim.Native.Nat.{ℕ, zero, suc, ◌+◌, ◌-◌, ◌/◌, ◌≤◌, ◌<◌}
use native.Mathlib.Omega.{arith}
use lib.ListN.{length, get_or, set, length-set}
use lib.Seq.{get_or-set_same, get_or-set_other}
use Rattle.std.specs.Prelude.{Err, Ok}
use Rattle.laws.proofs.Cases.{by-equality}
use Rattle.values.specs.Contents.{offer_at}
use Rattle.values.specs.Refusals.{and_then, first, Verdict, no_fault}
use Rattle.values.specs.declared.place.Offer.{Offer}
use Rattle.values.proofs.Firsts.{and_then-next, first-zero, first-suc}
use Rattle.steps.specs.Steps.{step_follows, step_holds}
use Rattle.limits.specs.Offers.{step_fault}
use Rattle.limits.specs.inner.Rows.{row_fault, values_fault, rows_before}
use Rattle.limits.proofs.Tested.{fault-alone}
use Rattle.lent.specs.inner.Drafts.{before_of, offer_before, tested_row, kept_row, RowsTested}
use Rattle.lent.specs.declared.tested.Before.{Before}
use Rattle.lent.specs.declared.tested.Draft.{Draft}
use Rattle.lent.proofs.Drafts.{refused-within, passed-before, refused-stays}

-- a row is tested against the number, the price and the step of the row before it
row_step : (edition : ℕ) (before o : Offer) (row : ℕ) → row_fault false edition (offer_before (before_of before)) o row ≡ row_fault false edition before o row
unfolding row_fault step_fault step_holds step_follows
row_step edition before o row = refl

-- row 0 has none before it
row_zero : (edition : ℕ) (before other o : Offer) → row_fault false edition before o 0 ≡ row_fault false edition other o 0
unfolding row_fault step_fault step_holds
row_zero edition before other o = refl

module _ (edition : ℕ) (offers : List Offer) (d : Draft) (kept : List ℕ) where
  -- the draft after the first i rows
  unfoldable pub draft_at : ℕ → Draft
  draft_at zero = d
  draft_at (suc i) = tested_row edition (draft_at i) i (offer_at offers i)

  -- and what is kept of them
  unfoldable pub kept_at : ℕ → List ℕ
  kept_at zero = kept
  kept_at (suc i) = kept_row (kept_at i) i (offer_at offers i)

  pub draft-none : d ≡ draft_at 0
  unfolding draft_at
  draft-none = refl

  pub draft-next : (i : ℕ) {o : Offer} → o ≡ offer_at offers i → tested_row edition (draft_at i) i o ≡ draft_at (suc i)
  unfolding draft_at
  draft-next i e = ap (tested_row edition (draft_at i) i) e

  pub kept-none : kept ≡ kept_at 0
  unfolding kept_at
  kept-none = refl

  pub kept_next : (i : ℕ) {o : Offer} → o ≡ offer_at offers i → kept_row (kept_at i) i o ≡ kept_at (suc i)
  unfolding kept_at
  kept_next i e = ap (kept_row (kept_at i) i) e

  pub length-kept : (i : ℕ) → length (kept_at i) ≡ length kept
  unfolding kept_at kept_row
  length-kept zero = refl
  length-kept (suc i) = length-set (set (kept_at i) i _) (length (kept_at i) / 2 + i) _ ∙ length-set (kept_at i) i _ ∙ length-kept i

  abbrev n : ℕ
  n = d.rows

  abbrev half : ℕ
  half = length kept / 2

  abbrev test : ℕ → Verdict
  test row = row_fault false edition (offer_at offers (row - 1)) (offer_at offers row) row

  abbrev values : ℕ → Verdict
  values i = values_fault false edition (offer_at offers) i

  -- what the first i rows show
  pub record Tested (i : ℕ) : Type 0 where
    pub within : i ≤ n
    pub fault : (draft_at i).fault ≡ and_then d.fault (values i)
    pub rows : (draft_at i).rows ≡ rows_before (values i) n
    pub before : (j : ℕ) → i ≡ suc j → (draft_at i).before ≡ before_of (offer_at offers j)
    pub resources : (row : ℕ) → row < i → get_or (kept_at i) row 0 ≡ (offer_at offers row).resource
    pub steps : (row : ℕ) → row < i → get_or (kept_at i) (half + row) 0 ≡ (offer_at offers row).step

  -- no more rows are left than there were
  pub tested-few : (i : ℕ) → Tested i → (draft_at i).rows ≤ n
  tested-few i t = rw t.rows (refused-within edition offers n i t.within)

  pub tested-none : Tested 0
  unfolding draft_at kept_at values_fault
  tested-none = record {
    within = omega arith;
    fault = rw (first-zero test) (sym (fault-alone d.fault));
    rows = rw (first-zero test) refl;
    before = λ j e. absurd (omega arith);
    resources = λ row l. absurd (omega arith);
    steps = λ row l. absurd (omega arith);
  }

  module _ (room : n ≤ half) (unrefused : 0 < n → d.fault ≡ no_fault) (i : ℕ) (t : Tested i) where
    -- the row before the next is the one that was tested last
    row-own : row_fault false edition (offer_before (draft_at i).before) (offer_at offers i) i ≡ test i
    row-own = own i t.before
      where
        own : (k : ℕ) → ((j : ℕ) → k ≡ suc j → (draft_at i).before ≡ before_of (offer_at offers j))
            → row_fault false edition (offer_before (draft_at i).before) (offer_at offers k) k ≡ test k
        own zero h = row_zero edition (offer_before (draft_at i).before) (offer_at offers 0) (offer_at offers 0)
        own (suc j) h =
            let last : suc j - 1 ≡ j = omega arith in
            ap (λ (b : Before). row_fault false edition (offer_before b) (offer_at offers (suc j)) (suc j)) (h j refl ∙ ap (λ (k : ℕ). before_of (offer_at offers k)) (sym last))
            ∙ row_step edition (offer_at offers (suc j - 1)) (offer_at offers (suc j)) (suc j)

    -- one row more
    pub tested-more : i < (draft_at i).rows → Tested (suc i)
    unfolding draft_at kept_at kept_row tested_row values_fault
    tested-more left =
        let passed : values i ≡ no_fault = passed-before edition offers n i (rw t.rows at left) in
        let all : (draft_at i).rows ≡ n = t.rows ∙ ap (λ (v : Verdict). rows_before v n) passed in
        let inside : i < n = omega (arith, all, left) in
        let next : values (suc i) ≡ row_fault false edition (offer_before (draft_at i).before) (offer_at offers i) i =
        first-suc test i ∙ and_then-next (first test i) (test i) passed ∙ sym row-own in
        let long = length-kept i in
        let one : List ℕ = set (kept_at i) i (offer_at offers i).resource in
        let long' = length-set (kept_at i) i (offer_at offers i).resource in
        let there : length (kept_at i) / 2 ≡ half = ap (λ (k : ℕ). k / 2) long in
        record {
          within = omega (arith, inside);
          fault = sym next ∙ sym (and_then-next d.fault (values (suc i)) (unrefused (omega (arith, inside))));
          rows = ap₂ rows_before (sym next) all;
          before = λ j e. let same : i ≡ j = omega (arith, e) in ap (λ (k : ℕ). before_of (offer_at offers k)) same;
          resources = λ row l.
              get_or-set_other one (length (kept_at i) / 2 + i) row (offer_at offers i).step 0 (λ e. omega (arith, e, long, room, inside, l))
              ∙ by-equality row i
              (λ e. rw e (get_or-set_same (kept_at i) i (offer_at offers i).resource 0 (omega (arith, long, room, inside))))
              (λ e. get_or-set_other (kept_at i) i row (offer_at offers i).resource 0 e ∙ t.resources row (omega (arith, e, l)));
          steps = λ row l.
              by-equality row i
              (λ e. rw (e, ← there) (get_or-set_same one (length (kept_at i) / 2 + i) (offer_at offers i).step 0 (omega (arith, long, long', room, inside))))
              (λ e.
              get_or-set_other one (length (kept_at i) / 2 + i) (half + row) (offer_at offers i).step 0 (λ f. omega (arith, e, f, there))
              ∙ get_or-set_other (kept_at i) i (half + row) (offer_at offers i).resource 0 (λ f. omega (arith, f, room, inside))
              ∙ t.steps row (omega (arith, e, l)));
        }

  -- the end: no row is left
  pub tested-end : (i : ℕ) → Tested i → (draft_at i).rows ≤ i → RowsTested edition offers d kept (draft_at i) (kept_at i)
  tested-end i t none =
      record {
        fault = t.fault ∙ ap (and_then d.fault) all;
        rows = t.rows ∙ ap (λ (v : Verdict). rows_before v n) all;
        resources = λ row l. t.resources row (omega (arith, none));
        steps = λ row l. t.steps row (omega (arith, none));
      }
    where
      own : (v : Verdict) → values i ≡ v → rows_before v n ≤ i → v ≡ values n
      own (Ok u) e l = let whole : i ≡ n = omega (arith, t.within, l) in sym e ∙ ap values whole
      own (Err refusal) e l = sym (refused-stays edition offers i n refusal t.within e)

      all : values i ≡ values n
      all = own (values i) refl (rw t.rows at none)
