-- A draft before its rows are tested, and what is known of a draft by its fault.
--
-- In order: tests of which some are tested together; repeats; rows by a fault; what is asked of a draft whose rows are to be tested.
-- Assumes nothing.
use mathlib.Core.Path.{◌≡◌, refl}
use mathlib.Core.Bool.{Bool, true, false, cond}
use mathlib.Core.List.{List}
use Prim.Native.Nat.{ℕ, ◌+◌, ◌/◌, ◌≤◌, ◌<◌}
use native.Mathlib.Omega.{arith}
use lib.Dec.{leb, ltb}
use lib.ListN.{length, get_or}
use borrow.Author.Tests.{leb-true}
use Rattle.std.specs.Prelude.{Err, Ok}
use Rattle.values.specs.declared.refusal.Refusal.TheVariants.{RepeatedResource, TooManyRows}
use Rattle.values.specs.Refusals.{wrong_layout, too_many_rows, unless, and_then, Verdict, no_fault}
use Rattle.values.specs.declared.head.Parameters.{Parameters}
use Rattle.values.proofs.Firsts.{unless-passed, and_then-left, and_then-right}
use Rattle.layout.specs.Layout.{edition_known}
use Rattle.repeats.specs.inner.Repeats.{first_failing, first_repeat}
use Rattle.limits.specs.Parameters.{range_fault}
use Rattle.writer.specs.inner.Opening.{opening_fault}
use Rattle.lent.specs.inner.Drafts.{rows_where, draft_of, repeated_in}
use Rattle.lent.specs.declared.tested.Draft.{Draft}
use Rattle.values.specs.declared.refusal.Refusal.{Refusal}

pub by-verdict {ℓ} : {X : Type ℓ} (v : Verdict) → (v ≡ no_fault → X) → ((refusal : Refusal) → v ≡ Err refusal → X) → X
by-verdict (Ok u) f g = f refl
by-verdict (Err refusal) f g = g refusal refl

-- five tests, of which the first three are tested together
pub five : (a b c d e : Verdict) → and_then a (and_then b (and_then (and_then c d) e)) ≡ and_then (and_then a (and_then b c)) (and_then d e)
five (Err refusal) b c d e = refl
five (Ok u) (Err refusal) c d e = refl
five (Ok u) (Ok v) (Err refusal) d e = refl
five (Ok u) (Ok v) (Ok w) d e = refl

-- where a repeat or a fault would be refused and nothing is, there is no fault
none-repeated : (t : Bool) (refusal : Refusal) (v : Verdict) → cond t (Err refusal) v ≡ no_fault → v ≡ no_fault
none-repeated true refusal v e = cc
none-repeated false refusal v e = e

pub unrepeated : (d : Draft) (kept : List ℕ) → repeated_in d kept ≡ no_fault → d.fault ≡ no_fault
unfolding repeated_in
unrepeated d kept e =
    let repeat = first_repeat (λ row. get_or kept row 0) (λ row. get_or kept (length kept / 2 + row) 0) d.rows in
    none-repeated (ltb repeat d.rows) (RepeatedResource repeat) d.fault e

-- where there are no rows there is no repeat
pub no_rows : (d : Draft) (kept : List ℕ) → d.rows ≡ 0 → repeated_in d kept ≡ d.fault
unfolding repeated_in first_repeat first_failing
no_rows d kept e = rw e refl

pub where-few : (v : Verdict) (rows : ℕ) → rows_where v rows ≤ rows
where-few (Ok u) rows = omega arith
where-few (Err refusal) rows = omega arith

pub where-some : (v : Verdict) (rows : ℕ) → 0 < rows_where v rows → v ≡ no_fault
where-some (Ok u) rows l = refl
where-some (Err refusal) rows l = absurd (omega arith)

module _ (edition : ℕ) (p : Parameters) (rows : ℕ) where
  abbrev opens : Verdict
  opens = opening_fault edition p rows

  opening-few : opens ≡ no_fault → rows ≤ 600
  unfolding opening_fault
  opening-few e =
      leb-true rows 600
      (unless-passed (leb rows 600) TooManyRows
      (and_then-left (unless (leb rows 600) too_many_rows) (range_fault p) (and_then-right (unless (edition_known edition) (wrong_layout 0)) _ e)))

  -- what is asked of a draft whose rows are to be tested
  pub record Begun (d : Draft) : Type 0 where
    pub few : d.rows ≤ rows
    pub most : d.rows ≤ 600
    pub unrefused : 0 < d.rows → d.fault ≡ no_fault

  pub draft-begun : Begun (draft_of edition p rows)
  unfolding draft_of
  draft-begun =
      record {
        few = where-few opens rows;
        most = by-verdict opens (λ e. rw e (opening-few e)) (λ refusal e. rw e (omega arith));
        unrefused = λ l. where-some opens rows l;
      }
