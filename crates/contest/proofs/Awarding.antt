-- The whole contest.
--
-- In order: the last key told; five keys told one after another; what a row receives; what `award` leaves.
-- Assumes nothing.
use mathlib.Core.Path.{◌≡◌, refl, sym, ap, ◌∙◌}
use mathlib.Core.Bool.{Bool, cond, ◌||◌}
use mathlib.Core.List.{List}
use Prim.Native.Nat.{ℕ, ◌≤◌, ◌<◌}
use native.Mathlib.Omega.{arith}
use lib.ListN.{length, get_or}
use borrow.Author.Tests.{ne_eqb}
use Rattle.laws.specs.Filled.{filled}
use Rattle.laws.specs.Orders.{by_key}
use Rattle.laws.proofs.FilledRows.{filled_row, filled-past}
use Rattle.laws.proofs.Filling.{length-filling}
use Rattle.laws.proofs.Orders.{by_key-order, then_by-order}
use Rattle.contest.specs.inner.Contest.{wins, contenders, in_order}
use Rattle.contest.specs.inner.Sieve.{key_at, settled, winners}
use Rattle.contest.specs.inner.Award.{Awarded, Sifted, KeyTold}
use Rattle.contest.proofs.Telling.{told-then}
use Rattle.contest.proofs.Winning.{no_order, wins-last, wins-level}

-- a contest by its last key
told-last : (keys : List ℕ) (n spare left : ℕ) (entry exit : List ℕ)
    → Sifted keys n entry spare exit left → KeyTold n (by_key (key_at keys)) no_order entry spare exit left
told-last keys n spare left entry exit sifted =
    let told = sifted no_order (λ i. refl) in
    record {
      rows = told.rows;
      within = λ i l.
          told.within i l ∙ ap (λ (b : Bool). winners entry i || b) (sym (wins-last _ (key_at keys) n spare i));
      beyond = told.beyond;
    }

module _ (k₁ k₂ k₃ k₄ k₅ : List ℕ) (n spare : ℕ) (entry : List ℕ) where
  -- who wins the contest
  abbrev won : ℕ → Bool
  won = wins (contenders entry) (in_order k₁ k₂ k₃ k₄ k₅) n spare

  -- the five keys told one after another
  told-five : (l₁ l₂ l₃ l₄ left : ℕ) (s₁ s₂ s₃ s₄ told : List ℕ)
      → Sifted k₁ n entry spare s₁ l₁ → Sifted k₂ n s₁ l₁ s₂ l₂ → Sifted k₃ n s₂ l₂ s₃ l₃
      → Sifted k₄ n s₃ l₃ s₄ l₄ → Sifted k₅ n s₄ l₄ told left
      → KeyTold n (in_order k₁ k₂ k₃ k₄ k₅) no_order entry spare told left
  told-five l₁ l₂ l₃ l₄ left s₁ s₂ s₃ s₄ told first second third fourth fifth =
      let last = by_key-order (key_at k₅) in
      let later = then_by-order (key_at k₄) _ last in
      let after = then_by-order (key_at k₃) _ later in
      let rest = then_by-order (key_at k₂) _ after in
      told-then n _ _ _ _ _ _ _ _ _ (first _ rest.irreflexive)
      (told-then n _ _ _ _ _ _ _ _ _ (second _ after.irreflexive)
      (told-then n _ _ _ _ _ _ _ _ _ (third _ later.irreflexive)
      (told-then n _ _ _ _ _ _ _ _ _ (fourth _ last.irreflexive) (told-last k₅ n l₄ left s₄ told fifth))))

  -- where no row has won at first, and the contest is told, a row receives what it wins
  receives-won : (left i : ℕ) (told : List ℕ) → i < n → get_or entry i 0 ≤ 1
      → KeyTold n (in_order k₁ k₂ k₃ k₄ k₅) no_order entry spare told left
      → settled told left i ≡ cond (won i) 1 0
  unfolding settled
  receives-won left i told l fresh a =
      ap (λ (b : Bool). cond b 1 0)
      (ap (λ (b : Bool). winners told i || b) (sym (wins-level (contenders told) n left i))
      ∙ a.within i l
      ∙ ap (λ (b : Bool). b || won i) (ne_eqb (get_or entry i 0) 2 (omega arith)))

  -- five keys told, and what each row receives put in the place of its standing
  pub awarded : (l₁ l₂ l₃ l₄ left : ℕ) (s₁ s₂ s₃ s₄ told exit : List ℕ) → n ≤ length entry → ((i : ℕ) → i < n → get_or entry i 0 ≤ 1)
      → Sifted k₁ n entry spare s₁ l₁ → Sifted k₂ n s₁ l₁ s₂ l₂ → Sifted k₃ n s₂ l₂ s₃ l₃
      → Sifted k₄ n s₃ l₃ s₄ l₄ → Sifted k₅ n s₄ l₄ told left
      → exit ≡ filled (settled told left) n told → Awarded k₁ k₂ k₃ k₄ k₅ entry n spare exit
  awarded l₁ l₂ l₃ l₄ left s₁ s₂ s₃ s₄ told exit long fresh first second third fourth fifth end =
      let a = told-five l₁ l₂ l₃ l₄ left s₁ s₂ s₃ s₄ told first second third fourth fifth in
      record {
        rows = length-filling _ n told end ∙ a.rows;
        within = λ i l. filled_row _ n told end (rw a.rows long) i l ∙ receives-won left i told l (fresh i l) a;
        beyond = λ i l. filled-past _ n told end i l ∙ a.beyond i l;
      }
