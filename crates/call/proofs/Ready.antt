-- Rows that pass every test, ready to be cleared.
-- Assumes nothing.
use mathlib.Core.Path.{◌≡◌, sym, ◌∙◌}
use mathlib.Core.List.{List}
use Prim.Native.Nat.{ℕ, ◌≤◌}
use Rattle.values.specs.declared.head.Parameters.{Parameters}
use Rattle.values.specs.Refusals.{Verdict, no_fault}
use Rattle.columns.specs.inner.Columns.{Columns, empty}
use Rattle.layout.specs.Read.{row_offers, contents_of}
use Rattle.book.specs.inner.Opening.{Opened}
use Rattle.reading.specs.inner.Rows.{RowsRead}
use Rattle.sale.specs.inner.Sale.{Stands}
use Rattle.call.specs.Answer.{buffer_fault, call_fault}
use Rattle.call.proofs.Calls.{Callable, passed-callable, buffers-decide, opened-stands}

-- what the call may count on: it has no fault, so the buffers are long enough, and what the book says stands in the columns
pub record Ready (b : List ℕ) (p : Parameters) (n cleared committed : ℕ) (v : Columns) : Type 0 where
  pub passed : no_fault ≡ call_fault b cleared committed
  pub callable : Callable b cleared committed
  pub stands : Stands (contents_of b) p n v

pub ready : (b : List ℕ) (edition : ℕ) (p : Parameters) (n : ℕ) → Opened b edition p n → (room : ℕ) (before after : Columns) {found : Verdict}
    → n ≤ room → before ≡ empty room → RowsRead edition (row_offers b edition 1 n) found before after → (cleared committed : ℕ)
    → found ≡ no_fault → no_fault ≡ buffer_fault n cleared committed → Ready b p n cleared committed after
ready b edition p n o room before after l e read cleared committed f g =
    let own = buffers-decide b edition p n o cleared committed no_fault (sym f ∙ read.found) g in
    let ok = passed-callable b cleared committed (sym own) in
    record {
      passed = own;
      callable = ok;
      stands = opened-stands b edition p n o before after _ ok.accepted (record { room = room; enough = l; zeros = e }) read;
    }
