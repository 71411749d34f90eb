-- The contract of each public function of this crate leaves one answer: any two that it allows for the same bytes coincide,
-- wherever the parts lie.
--
-- In order: numbers and zero bytes of a part; the letters that open it; its sums and its check.
-- Assumes nothing.
use mathlib.Core.Path.{◌≡◌, sym, ap₂, ◌∙◌}
use mathlib.Core.Bool.{Bool}
use mathlib.Core.List.{List}
use Prim.Native.Nat.{ℕ, ◌%◌}
use contract.Lifetimes.{Lfts}
use denote.Ref.{Bor}
use Rattle.laws.proofs.Answers.{same_answer}
use Rattle.block.specs.Bytes.{u16_at, u32_at, u64_at, opens_with, blank}
use Rattle.block.specs.Check.{check_holds}
use Rattle.block.specs.Running.{block_sum, block_total}
use Rattle.block.specs.declared.running.Running.{Running}
use Rattle.block.proofs.bytes.u16_at.Reads as u16-at
use Rattle.block.proofs.bytes.u32_at.Reads as u32-at
use Rattle.block.proofs.bytes.u64_at.Reads as u64-at
use Rattle.block.proofs.bytes.opens_with.Reads as opens-with
use Rattle.block.proofs.bytes.is_blank.Reads as is-blank
use Rattle.block.proofs.check.check_holds.Reads as check-holds
use Rattle.block.proofs.check.check_sums.Reads as check-sums

module _ (κs : Lfts 1) (part other : Bor (List ℕ)) (same : part.now ≡ other.now) where
  -- the 16-bit number, by the contract of `u16_at`
  pub u16-at-decided : (at r s : ℕ)
      → u16-at.Post κs (part, (at, tt)) r (part, (at, tt)) → u16-at.Post κs (other, (at, tt)) s (other, (at, tt)) → r ≡ s
  u16-at-decided at r s e f = same_answer (λ p. u16_at p at) same e.0 f.0

  -- the 32-bit number, by the contract of `u32_at`
  pub u32-at-decided : (at r s : ℕ)
      → u32-at.Post κs (part, (at, tt)) r (part, (at, tt)) → u32-at.Post κs (other, (at, tt)) s (other, (at, tt)) → r ≡ s
  u32-at-decided at r s e f = same_answer (λ p. u32_at p at) same e.0 f.0

  -- the 64-bit number, by the contract of `u64_at`
  pub u64-at-decided : (at r s : ℕ)
      → u64-at.Post κs (part, (at, tt)) r (part, (at, tt)) → u64-at.Post κs (other, (at, tt)) s (other, (at, tt)) → r ≡ s
  u64-at-decided at r s = same_answer (λ p. u64_at p at) same

  -- whether bytes are zero, by the contract of `is_blank`
  pub is-blank-decided : (from n : ℕ) (r s : Bool)
      → is-blank.Post κs (part, (from, (n, tt))) r (part, (from, (n, tt)))
      → is-blank.Post κs (other, (from, (n, tt))) s (other, (from, (n, tt)))
      → r ≡ s
  is-blank-decided from n r s = same_answer (λ p. blank p from n) same

  -- both sums, by the contract of `check_sums`
  pub check-sums-decided : (r s : Running)
      → check-sums.Post κs (part, tt) r (part, tt) → check-sums.Post κs (other, tt) s (other, tt) → r ≡ s
  check-sums-decided r s e f = λ i.
      record {
        sum = same_answer (λ p. block_sum p % 65536) same e.0 f.0 i;
        total = same_answer (λ p. block_total p % 65536) same e.1 f.1 i;
      }

  -- whether the check holds, by the contract of `check_holds`
  pub check-holds-decided : (r s : Bool)
      → check-holds.Post κs (part, tt) r (part, tt) → check-holds.Post κs (other, tt) s (other, tt) → r ≡ s
  check-holds-decided r s = same_answer check_holds same

-- whether a part opens with the letters, by the contract of `opens_with`
pub opens-with-decided : (κs : Lfts 2) (part letters other others : Bor (List ℕ)) (r s : Bool)
    → part.now ≡ other.now
    → letters.now ≡ others.now
    → opens-with.Post κs (part, (letters, tt)) r (part, (letters, tt))
    → opens-with.Post κs (other, (others, tt)) s (other, (others, tt))
    → r ≡ s
opens-with-decided κs part letters other others r s same alike e f = e ∙ ap₂ opens_with same alike ∙ sym f
