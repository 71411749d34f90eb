-- What rows commit, by the least that each commits.
--
-- In order: nothing where nothing cleared, the larger of both elsewhere; what an offer commits by its minimum block is what it
-- commits by its least; mills of a sum are the sum of mills.
-- Assumes nothing.
use mathlib.Core.Path.{◌≡◌, refl, ◌∙◌}
use mathlib.Core.Option.{Option, none, some}
use Prim.Native.Nat.{ℕ, max}
use native.Mathlib.Omega.{arith}
use borrow.Author.Tests.{eq-eqb, ne_eqb}
use Rattle.laws.specs.Sum.{sum_to}
use Rattle.laws.proofs.Cases.{by-equality}
use Rattle.laws.proofs.Sums.{sum_to-mul, sum_to-none}
use Rattle.auction.specs.Settlement.{committed, mills}
use Rattle.values.specs.inner.Values.{least_of}
use Rattle.values.specs.declared.Value.{Value}
use Rattle.values.specs.declared.Value.TheVariants.{Given, Missing}
use Rattle.settle.specs.Read.{optional}
use Rattle.settle.specs.inner.Rows.{committed_from}

pub from_nothing : (least c : ℕ) → c ≡ 0 → 0 ≡ committed_from least c
unfolding committed_from
from_nothing least c e = rw (eq-eqb c 0 e)

pub from_some : (least c : ℕ) → (c ≡ 0 → ⊥) → max c least ≡ committed_from least c
unfolding committed_from
from_some least c n = rw (ne_eqb c 0 n)

-- what an offer commits, by the least that it commits
pub committed-from : (block : Value) (c : ℕ) → committed (optional block) c ≡ committed_from (least_of block) c
unfolding committed_from
committed-from (Given tenths) c = refl
committed-from Missing c =
    by-equality c 0 (λ e. e ∙ from_nothing 1 c e) (λ n. omega arith ∙ from_some 1 c n)

-- mills of a sum, each summand by itself
pub mills-sum : (price : Option ℕ) (tenths : ℕ → ℕ) (n : ℕ) → sum_to (λ i. mills price (tenths i)) n ≡ mills price (sum_to tenths n)
mills-sum none tenths n = sum_to-none _ n (λ i l. refl)
mills-sum (some price) tenths n = sum_to-mul price tenths n
