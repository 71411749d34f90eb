-- A contest told one key at a time.
--
-- In order: who contends and who has won after a key is stands_after to a limit; a key that parts the contenders, told; nothing left
-- to win; keys that are alike; one part told after another.
-- Assumes nothing.
use mathlib.Core.Path.{◌≡◌, refl, sym, ap, ap₂, ◌∙◌}
use mathlib.Core.Bool.{Bool, ◌&&◌, ◌||◌, or_assoc, or-false}
use mathlib.Core.List.{List}
use Prim.Native.Nat.{ℕ, ◌-◌, ◌≤◌, ◌<◌}
use native.Mathlib.Omega.{arith}
use lib.ListN.{length, get_or}
use lib.Dec.{ltb, eqb}
use borrow.Author.Tests.{lt-ltb, le-ltb, eq-eqb, ne_eqb}
use Rattle.laws.specs.Filled.{filled}
use Rattle.laws.proofs.Cases.{by-equality}
use Rattle.laws.proofs.FilledRows.{filled_row, filled-past}
use Rattle.laws.proofs.Filling.{length-filling}
use Rattle.laws.proofs.Orders.{by-comparison, then_by-equal}
use Rattle.contest.specs.inner.Contest.{contenders}
use Rattle.contest.specs.inner.Sieve.{Parts, count_under, stands_after, key_at, stands, winners}
use Rattle.contest.specs.inner.Nearest.{Alike}
use Rattle.contest.specs.inner.Award.{Sifted, KeyTold}
use Rattle.contest.proofs.Steps.{level, sift-step}
use Rattle.contest.proofs.Winning.{wins-contenders, wins-order, wins-nothing}

-- who contends after a limit contended and has that key
stands-contends : (x k t : ℕ) → eqb (stands x k t) 1 ≡ eqb x 1 && eqb k t
stands-contends x k t =
    by-equality x 1
    (λ e.
    rw e
    (by-comparison k t
    (λ l. rw (lt-ltb k t l, ne_eqb k t (omega arith)))
    (λ l. rw (le-ltb k t (omega arith), eq-eqb k t l))
    (λ l. rw (le-ltb k t (omega arith), ne_eqb k t (omega arith)))))
    (λ h. rw (ne_eqb x 1 h) (ne_eqb x 1 h))

-- who has won after a limit had won, or contended under it
stands-won : (x k t : ℕ) → eqb (stands x k t) 2 ≡ eqb x 2 || (eqb x 1 && ltb k t)
stands-won x k t =
    by-equality x 1
    (λ e.
    rw e
    (by-comparison k t
    (λ l. rw (lt-ltb k t l))
    (λ l. rw (le-ltb k t (omega arith), eq-eqb k t l))
    (λ l. rw (le-ltb k t (omega arith), ne_eqb k t (omega arith)))))
    (λ h. rw (ne_eqb x 1 h) (sym (or-false (eqb x 2))))

module _ (keys entry exit : List ℕ) (n spare limit : ℕ) (long : n ≤ length entry)
    (kept : exit ≡ filled (stands_after keys entry limit) n entry) where
  -- the same of the rows of a list
  contends-after : (j : ℕ) → j < n → contenders exit j ≡ level (contenders entry) (key_at keys) limit j
  unfolding stands_after
  contends-after j l = ap (λ (x : ℕ). eqb x 1) (filled_row _ n entry kept long j l) ∙ stands-contends (get_or entry j 0) (key_at keys j) limit

  won-after : (i : ℕ) → i < n → winners exit i ≡ winners entry i || (contenders entry i && ltb (key_at keys i) limit)
  unfolding stands_after
  won-after i l = ap (λ (x : ℕ). eqb x 2) (filled_row _ n entry kept long i l) ∙ stands-won (get_or entry i 0) (key_at keys i) limit

  -- a key stands_after to a limit that parts the contenders is told
  pub told-key : (won : ℕ) → won ≡ count_under (contenders entry) (key_at keys) limit n
      → Parts (contenders entry) (key_at keys) n spare limit → Sifted keys n entry spare exit (spare - won)
  told-key won e parts rest irreflexive =
      rw e
      (record {
        rows = length-filling _ n entry kept;
        within = λ i l.
            ap₂ ◌||◌ (won-after i l) (wins-contenders _ _ rest n _ i contends-after l)
            ∙ or_assoc (winners entry i) _ _
            ∙ ap (λ (b : Bool). winners entry i || b) (sym (sift-step _ _ rest n spare limit i parts l (irreflexive i)));
        beyond = filled-past _ n entry kept;
      })

-- where nothing is left the standings tell it all
pub told-nothing : (n spare : ℕ) (whole rest : ℕ → ℕ → Bool) (entry : List ℕ)
    → spare ≡ 0 → KeyTold n whole rest entry spare entry 0
told-nothing n spare whole rest entry e =
    rw e
    (record {
      rows = refl;
      within = λ i l.
          ap (λ (b : Bool). winners entry i || b) (wins-nothing _ rest n i ∙ sym (wins-nothing _ whole n i));
      beyond = λ i l. refl;
    })

-- where all keys are alike there is nothing to tell
pub told-alike : (keys : List ℕ) (n spare : ℕ) (entry : List ℕ) → Alike (key_at keys) n → Sifted keys n entry spare entry spare
told-alike keys n spare entry alike rest irreflexive =
    record {
      rows = refl;
      within = λ i l.
          ap (λ (b : Bool). winners entry i || b)
          (sym (wins-order _ _ rest n spare i (λ j m. then_by-equal (key_at keys) rest j i (alike j m ∙ sym (alike i l)))));
      beyond = λ i l. refl;
    }

-- a part told, and then another
pub told-then : (n : ℕ) (whole part rest : ℕ → ℕ → Bool) (spare some left : ℕ) (entry between exit : List ℕ)
    → KeyTold n whole part entry spare between some → KeyTold n part rest between some exit left
    → KeyTold n whole rest entry spare exit left
told-then n whole part rest spare some left entry between exit a b =
    record {
      rows = b.rows ∙ a.rows;
      within = λ i l. b.within i l ∙ a.within i l;
      beyond = λ i l. b.beyond i l ∙ a.beyond i l;
    }
