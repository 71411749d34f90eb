-- Who gets the spare tenths, told by one key after another.
--
-- A row stands at 1 where it contends and at 0 where it does not. Lower keys come first.
-- Assumes nothing.
use Rattle.std.specs.Prelude.{ℕ, Bool, ◌&&◌, List, get_or, ltb, eqb}
use Rattle.laws.specs.Sum.{count_where}
use Rattle.laws.specs.Orders.{by_key, then_by}

-- i contends, and fewer than `spare` of the n rows that contend stand before it
unfoldable pub wins : (ℕ → Bool) → (ℕ → ℕ → Bool) → ℕ → ℕ → ℕ → Bool
wins contends before n spare i = contends i && ltb (count_where (λ j. contends j && before j i) n) spare

-- the rows that contend, as a list of standings says
abbrev pub contenders : List ℕ → ℕ → Bool
contenders standings i = eqb (get_or standings i 0) 1

-- the order by five lists of keys, one after another
abbrev pub in_order : List ℕ → List ℕ → List ℕ → List ℕ → List ℕ → ℕ → ℕ → Bool
in_order k₁ k₂ k₃ k₄ k₅ =
    then_by (λ i. get_or k₁ i 0)
    (then_by (λ i. get_or k₂ i 0)
    (then_by (λ i. get_or k₃ i 0)
    (then_by (λ i. get_or k₄ i 0)
    (by_key (λ i. get_or k₅ i 0)))))
