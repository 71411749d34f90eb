-- The contract of each public function of this crate leaves one answer: any two that it allows for the same arguments coincide.
-- Assumes nothing.
use mathlib.Core.Path.{◌≡◌, sym, ◌∙◌}
use mathlib.Core.List.{List}
use Prim.Native.Nat.{ℕ}
use contract.Lifetimes.{Lfts}
use denote.Ref.{Bor}
use Rattle.levels.specs.declared.asks.Asks.{Asks}
use Rattle.columns.specs.declared.rows.Rows.{Rows}
use Rattle.turns.specs.declared.turn.Turn.{Turn}
use Rattle.turns.proofs.spare.spares_at.Reads as spares-at
use Rattle.turns.proofs.spare.contenders_at.Reads as contenders-at
use Rattle.turns.proofs.place.placed_at.Reads as placed_at_lem
use Rattle.turns.proofs.turn.turn_at.Reads as turn_at
use Rattle.turns.proofs.order.Key.number.Reads as number
use Rattle.turns.specs.Order.{Placed}
use Rattle.turns.specs.declared.order.Key.{Key}

-- the number of a key, by the contract of `number`
pub key-number-decided : (key : Key) (r s : ℕ) → number.Post tt (key, tt) r (key, tt) → number.Post tt (key, tt) s (key, tt) → r ≡ s
key-number-decided key r s e f = e ∙ sym f

-- the spare tenths of a level, by the contract of `spares_at`
pub spares-at-decided : (κs : Lfts 2) (asks : Bor Asks) (x price r s : ℕ)
    → spares-at.Post κs (asks, (x, (price, tt))) r (asks, (x, (price, tt)))
    → spares-at.Post κs (asks, (x, (price, tt))) s (asks, (x, (price, tt)))
    → r ≡ s
spares-at-decided κs asks x price r s e f = e ∙ sym f

-- how many contend, by the contract of `contenders_at`
pub contenders-at-decided : (κs : Lfts 1) (prices : Bor (List ℕ)) (price r s : ℕ)
    → contenders-at.Post κs (prices, (price, tt)) r (prices, (price, tt))
    → contenders-at.Post κs (prices, (price, tt)) s (prices, (price, tt))
    → r ≡ s
contenders-at-decided κs prices price r s e f = e ∙ sym f

module _ (κs : Lfts 2) (rows : Bor Rows) (x : ℕ) where
  -- who stands at a place, by the contract of `placed_at`
  pub placed-at-decided : (price place : ℕ) (r s : Placed)
      → placed_at_lem.Post κs (rows, (x, (price, (place, tt)))) r (rows, (x, (price, (place, tt))))
      → placed_at_lem.Post κs (rows, (x, (price, (place, tt)))) s (rows, (x, (price, (place, tt))))
      → r ≡ s
  placed-at-decided price place r s e f = e ∙ sym f

  -- a row's turn, by the contract of `turn_at`
  pub turn-at-decided : (row : ℕ) (r s : Turn)
      → turn_at.Post κs (rows, (x, (row, tt))) r (rows, (x, (row, tt)))
      → turn_at.Post κs (rows, (x, (row, tt))) s (rows, (x, (row, tt)))
      → r ≡ s
  turn-at-decided row r s e f = e ∙ sym f
