-- What a table of flags shows of the rows passed, where each resource number has a flag.
--
-- In order: no row; a flag more; one row more, with its flag or with the number of the row before it; a row whose flag is not set; of a
-- row's step and two flags that do not all ask for a test, which does not.
-- Assumes nothing.
use mathlib.Core.Path.{◌≡◌, refl, sym, ◌∙◌}
use mathlib.Core.Bool.{Bool, true, false, ◌&&◌, true≢false}
use mathlib.Core.List.{List}
use Prim.Native.Nat.{ℕ, ◌+◌, ◌-◌, ◌<◌}
use native.Mathlib.Numerals.{add-one}
use native.Mathlib.Nat.{not-suc-le-zero}
use native.Mathlib.Omega.{arith}
use lib.ListN.{length, get_or, set}
use lib.Seq.{get_or-set_same, get_or-set_other}
use borrow.Author.Tests.{eqb-true, not-false}
use Rattle.laws.proofs.Cases.{by-equality}
use Rattle.laws.proofs.Compare.{up-to-last}
use Rattle.repeats.specs.Repeats.{fresh}
use Rattle.repeats.proofs.Failing.{by-failing}

-- For each of the first n rows the flag of its resource number is set.
pub record Flagged (flag_of resources : ℕ → ℕ) (met : List Bool) (n : ℕ) : Type 0 where
  pub flag : (row : ℕ) → row < n → get_or met (flag_of (resources row)) false ≡ true

-- one more flag that is set leaves those that are
set-kept : (met : List Bool) (p q : ℕ) → p < length met → get_or met q false ≡ true → get_or (set met p true) q false ≡ true
set-kept met p q fits e =
    by-equality q p
    (λ same. rw same (get_or-set_same met p true false fits))
    (λ apart. get_or-set_other met p q true false apart ∙ e)

module _ (flag_of resources : ℕ → ℕ) (met : List Bool) where
  -- no row passed, no flag to set
  pub flagged-none : Flagged flag_of resources met 0
  flagged-none = record { flag = λ row l. absurd (not-suc-le-zero l) }

  -- one more flag that is set
  pub flagged-kept : (n p : ℕ) → p < length met
      → Flagged flag_of resources met n → Flagged flag_of resources (set met p true) n
  flagged-kept n p fits h =
      record { flag = λ row l. set-kept met p (flag_of (resources row)) fits (h.flag row l) }

  -- one row more, with its flag set
  pub flagged-more : (n p : ℕ) → p < length met → p ≡ flag_of (resources n)
      → Flagged flag_of resources met n → Flagged flag_of resources (set met p true) (n + 1)
  flagged-more n p fits e h =
      record {
        flag =
            rw add-one
            (up-to-last _ n
            (flagged-kept n p fits h).flag
            (rw (← e) (get_or-set_same met p true false fits)));
      }

  -- one row more, whose resource number the row before it has
  pub flagged-same : (n : ℕ) → 0 < n → resources n ≡ resources (n - 1)
      → Flagged flag_of resources met n → Flagged flag_of resources met (n + 1)
  flagged-same n later same h =
      record { flag = rw add-one (up-to-last _ n h.flag (rw same (h.flag (n - 1) (omega arith)))) }

  -- a row whose flag is not set: its resource number stands in none of the rows passed
  pub unmet-fresh : (n p : ℕ) → p ≡ flag_of (resources n)
      → Flagged flag_of resources met n → get_or met p false ≡ false → fresh resources n ≡ true
  unmet-fresh n p e h unset =
      by-failing _ n
      (λ f. f)
      (λ row l before f.
      let same : resources row ≡ resources n = eqb-true _ _ (not-false _ f) in
      let flag : get_or met (flag_of (resources n)) false ≡ true = rw same at (h.flag row l) in
      absurd (true≢false (sym flag ∙ rw e at unset)))

-- of a step and two flags that do not all ask for a test, which does not
pub by-unset {ℓ} : {X : Type ℓ} (first s t : Bool) → (first && s) && t ≡ false
    → (first ≡ false → X) → (s ≡ false → X) → (t ≡ false → X) → X
by-unset true true t e f g h = h e
by-unset true false t e f g h = g refl
by-unset false s t e f g h = f refl
