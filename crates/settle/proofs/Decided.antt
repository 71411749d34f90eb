-- The contracts of settlement leave one answer and one content of the buffer: any two that a contract allows for the same
-- arguments coincide, wherever the rows lie.
-- Assumes nothing.
use mathlib.Core.Path.{◌≡◌, sym, ◌∙◌}
use mathlib.Core.List.{List}
use Prim.Native.Nat.{ℕ}
use contract.Lifetimes.{Lfts}
use denote.Ref.{Bor, MutBor, at_last}
use Rattle.settle.proofs.committed_of.Reads as committed-of
use Rattle.settle.proofs.commit.Reads as commit
use Rattle.settle.proofs.mills_of.Reads as mills-of
use Rattle.settle.proofs.make_whole.Reads as make-whole
use Rattle.pricing.specs.Price.{ClearingPrice}

-- what a row commits, by the contract of `committed_of`
pub committed-of-decided : (least cleared r s : ℕ)
    → committed-of.Post tt (least, (cleared, tt)) r (least, (cleared, tt))
    → committed-of.Post tt (least, (cleared, tt)) s (least, (cleared, tt)) → r ≡ s
committed-of-decided least cleared r s e f = e.0 ∙ sym f.0

-- the tenths committed past what cleared, and what each row commits, by the contract of `commit`
pub commit-decided : (κs : Lfts 3) (leasts cleared : Bor (List ℕ)) (out : MutBor (List ℕ)) (leasts' cleared' : Bor (List ℕ)) (out' : MutBor (List ℕ)) (r s : ℕ) (after after' : List ℕ)
    → leasts.now ≡ leasts'.now
    → cleared.now ≡ cleared'.now
    → out.now ≡ out'.now
    → commit.Post κs (leasts, (cleared, (out, tt))) r (leasts, (cleared, (at_last out after, tt)))
    → commit.Post κs (leasts', (cleared', (out', tt))) s (leasts', (cleared', (at_last out' after', tt)))
    → (r ≡ s) × (after ≡ after')
commit-decided κs leasts cleared out leasts' cleared' out' r s after after' l c o e f =
    (e.1.0 ∙ rw (l, c) (sym f.1.0), e.0 ∙ rw (l, c, o) (sym f.0))

-- a price times tenths, by the contract of `mills_of`
pub mills-of-decided : (price : ClearingPrice) (tenths r s : ℕ)
    → mills-of.Post tt (price, (tenths, tt)) r (price, (tenths, tt))
    → mills-of.Post tt (price, (tenths, tt)) s (price, (tenths, tt)) → r ≡ s
mills-of-decided price tenths r s e f = e ∙ sym f

-- make-whole, by the contract of `make_whole`
pub make-whole-decided : (price : ClearingPrice) (cleared committed r s : ℕ)
    → make-whole.Post tt (price, (cleared, (committed, tt))) r (price, (cleared, (committed, tt)))
    → make-whole.Post tt (price, (cleared, (committed, tt))) s (price, (cleared, (committed, tt))) → r ≡ s
make-whole-decided price cleared committed r s e f = e ∙ sym f
