-- The contract of the contest leaves one content of the standings: any two that it allows for the same arguments coincide.
--
-- In order: two lists that the contest leaves; the standings, for any number of rows, and by the contract of `award`.
-- Assumes nothing.
use mathlib.Core.Path.{◌≡◌, sym, ◌∙◌}
use mathlib.Core.List.{List}
use Prim.Native.Nat.{ℕ}
use contract.Lifetimes.{Lfts}
use denote.Ref.{Bor, MutBor}
use lib.Seq.{ext_get_or}
use Rattle.laws.proofs.Cases.{by_order}
use Rattle.contest.specs.inner.Award.{Awarded}
use Rattle.contest.proofs.award.Reads as award

-- what the contest leaves of a list is one list
awarded-alone : (k₁ k₂ k₃ k₄ k₅ entry : List ℕ) (n spare : ℕ) (exit other : List ℕ)
    → Awarded k₁ k₂ k₃ k₄ k₅ entry n spare exit → Awarded k₁ k₂ k₃ k₄ k₅ entry n spare other → exit ≡ other
awarded-alone k₁ k₂ k₃ k₄ k₅ entry n spare exit other a b =
    ext_get_or 0 exit other (a.rows ∙ sym b.rows)
    (λ i h.
    by_order n i
    (λ l. a.beyond i l ∙ sym (b.beyond i l))
    (λ l. a.within i l ∙ sym (b.within i l)))

-- the standings: by what the contract of `award` promises, of the first n rows for any n, and by that contract itself, whose rows are
-- all that stand
pub award-decided : (κs : Lfts 6) (k₁ k₂ k₃ k₄ k₅ : Bor (List ℕ)) (standings after other : MutBor (List ℕ)) (spare : ℕ)
    → ((n : ℕ)
    → Awarded k₁.now k₂.now k₃.now k₄.now k₅.now standings.now n spare after.now
    → Awarded k₁.now k₂.now k₃.now k₄.now k₅.now standings.now n spare other.now
    → after.now ≡ other.now)
    × (award.Post κs (k₁, (k₂, (k₃, (k₄, (k₅, (standings, (spare, tt))))))) tt (k₁, (k₂, (k₃, (k₄, (k₅, (after, (spare, tt)))))))
    → award.Post κs (k₁, (k₂, (k₃, (k₄, (k₅, (standings, (spare, tt))))))) tt (k₁, (k₂, (k₃, (k₄, (k₅, (other, (spare, tt)))))))
    → after.now ≡ other.now)
award-decided κs k₁ k₂ k₃ k₄ k₅ standings after other spare = (
  λ n. awarded-alone k₁.now k₂.now k₃.now k₄.now k₅.now standings.now n spare after.now other.now,
  awarded-alone k₁.now k₂.now k₃.now k₄.now k₅.now standings.now _ spare after.now other.now,
)
