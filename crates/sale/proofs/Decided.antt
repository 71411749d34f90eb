-- The contract of `clearing` leaves one clearing and one content of both lists, wherever contents stand in the columns.
-- Assumes nothing.
use mathlib.Core.Path.{◌≡◌, sym, ◌∙◌}
use mathlib.Core.List.{List}
use Prim.Native.Nat.{ℕ}
use contract.Lifetimes.{Lfts}
use denote.Ref.{Bor, MutBor}
use Rattle.values.specs.declared.head.Parameters.{Parameters}
use Rattle.columns.specs.declared.rows.Rows.{Rows}
use Rattle.columns.specs.inner.Sides.{rows_in, lists_behind}
use Rattle.sale.specs.inner.Sale.{SomeStand}
use Rattle.sale.specs.declared.Clearing.{Clearing}
use Rattle.sale.proofs.payment.clearing.Reads as clearing

pub clearing-decided : (κs : Lfts 4) (p : Parameters) (rows : Bor Rows)
    (cleared committed cleared₁ committed₁ cleared₂ committed₂ : MutBor (List ℕ)) (r s : Clearing)
    → SomeStand p (rows_in rows.now) (lists_behind rows.now)
    → clearing.Post κs (p, (rows, (cleared, (committed, tt)))) r (p, (rows, (cleared₁, (committed₁, tt))))
    → clearing.Post κs (p, (rows, (cleared, (committed, tt)))) s (p, (rows, (cleared₂, (committed₂, tt))))
    → (r ≡ s) × (cleared₁.now ≡ cleared₂.now) × (committed₁.now ≡ committed₂.now)
clearing-decided κs p rows cleared committed cleared₁ committed₁ cleared₂ committed₂ r s some e f =
    let a = e some.contents some.stands in
    let b = f some.contents some.stands in (
      a.clearing ∙ sym b.clearing,
      a.cleared-holds ∙ sym b.cleared-holds,
      a.committed-holds ∙ sym b.committed-holds,
    )
