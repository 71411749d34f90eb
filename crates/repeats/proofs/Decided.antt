-- The contract of the search for a repeat leaves one answer: any two that it allows for the same columns coincide, wherever
-- they lie. `unrepeated_rows` has no such law, and no caller outside: its answer only says where the search may start.
-- Assumes nothing.
use mathlib.Core.Path.{◌≡◌, sym, ap₂, ◌∙◌}
use mathlib.Core.List.{List}
use Prim.Native.Nat.{ℕ}
use lib.ListN.{get_or}
use contract.Lifetimes.{Lfts}
use denote.Ref.{Bor}
use Rattle.repeats.specs.inner.Repeats.{first_repeat}
use Rattle.repeats.proofs.first_repeat.Reads as first-repeat

-- the first row that repeats a resource number, by the contract of `first_repeat`
pub first-repeat-decided : (κs : Lfts 2) (resources others steps counts : Bor (List ℕ)) (n r s : ℕ)
    → resources.now ≡ others.now
    → steps.now ≡ counts.now
    → first-repeat.Post κs (resources, (steps, (n, tt))) r (resources, (steps, (n, tt)))
    → first-repeat.Post κs (others, (counts, (n, tt))) s (others, (counts, (n, tt)))
    → r ≡ s
first-repeat-decided κs resources others steps counts n r s same alike e f =
    e.0
    ∙ ap₂ (λ (rows marks : List ℕ). first_repeat (λ row. get_or rows row 0) (λ row. get_or marks row 0) n) same alike
    ∙ sym f.0
