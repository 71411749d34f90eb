-- The contracts of reading rows leave one answer and one content of each column: any two that a contract allows for the same
-- bytes coincide.
-- Assumes nothing.
use mathlib.Core.Path.{◌≡◌, sym, ap, ◌∙◌}
use mathlib.Core.Bool.{Bool}
use mathlib.Core.List.{List}
use Prim.Native.Nat.{ℕ}
use Rattle.std.proofs.Common.{Fits, w64}
use contract.Lifetimes.{Lfts}
use denote.Ref.{Bor, MutBor}
use Rattle.values.specs.declared.place.Offer.{Offer}
use Rattle.values.specs.Contents.{offer_at}
use Rattle.layout.specs.Read.{row_offers}
use Rattle.limits.specs.Offers.{rows_fault}
use Rattle.columns.specs.inner.Columns.{Columns, columns_of}
use Rattle.columns.specs.inner.Sides.{lists_in}
use Rattle.columns.specs.declared.Columns.{Columns as ColumnsFor}
use Rattle.reading.specs.inner.Rows.{RowsRead}
use Rattle.reading.proofs.read_rows.Reads as read-rows
use Rattle.reading.proofs.read_columns.Reads as read-columns
use Rattle.reading.proofs.rows_fault.Reads as rows-fault
use Rattle.values.specs.Refusals.{Verdict}

-- what reading rows yields is one verdict and one content of the columns
rows-alone : (edition : ℕ) (offers : List Offer) (r s : Verdict) (before after other : Columns)
    → RowsRead edition offers r before after → RowsRead edition offers s before other → (r ≡ s) × (after ≡ other)
rows-alone edition offers r s before after other e f = (
  e.found ∙ sym f.found,
  λ i.
      record {
        prices = (e.read.price ∙ sym f.read.price) i;
        quantities = (e.read.quantity ∙ sym f.read.quantity) i;
        leasts = (e.read.least ∙ sym f.read.least) i;
        resources = (e.read.resource ∙ sym f.read.resource) i;
        stamps = (e.read.stamp ∙ sym f.read.stamp) i;
        steps = (e.read.step ∙ sym f.read.step) i;
      },
)

-- the first fault of rows and their columns, by the contract of `read_rows`, refused or not
pub read-rows-decided : (κs : Lfts 7) (book : Bor (List ℕ)) (edition first n : ℕ)
    (p q l m t u p₁ q₁ l₁ m₁ t₁ u₁ p₂ q₂ l₂ m₂ t₂ u₂ : MutBor (List ℕ)) (r s : Verdict)
    → read-rows.Post κs (book, (edition, (first, (n, (p, (q, (l, (m, (t, (u, tt)))))))))) r
    (book, (edition, (first, (n, (p₁, (q₁, (l₁, (m₁, (t₁, (u₁, tt))))))))))
    → read-rows.Post κs (book, (edition, (first, (n, (p, (q, (l, (m, (t, (u, tt)))))))))) s
    (book, (edition, (first, (n, (p₂, (q₂, (l₂, (m₂, (t₂, (u₂, tt))))))))))
    → (r ≡ s)
    × (columns_of p₁.now q₁.now l₁.now m₁.now t₁.now u₁.now
    ≡ columns_of p₂.now q₂.now l₂.now m₂.now t₂.now u₂.now)
read-rows-decided κs book edition first n p q l m t u p₁ q₁ l₁ m₁ t₁ u₁ p₂ q₂ l₂ m₂ t₂ u₂ r s e f =
    rows-alone edition _ r s _ _ _ e f

-- the same of columns that stand together, by the contract of `read_columns`
pub read-columns-decided : (N : ℕ) (fits : Fits w64 N) (κs : Lfts 3) (book : Bor (List ℕ)) (edition first n : ℕ) (columns after other : MutBor (ColumnsFor N)) (r s : Verdict)
    → read-columns.Post N fits κs (book, (edition, (first, (n, (columns, tt))))) r (book, (edition, (first, (n, (after, tt)))))
    → read-columns.Post N fits κs (book, (edition, (first, (n, (columns, tt))))) s (book, (edition, (first, (n, (other, tt)))))
    → (r ≡ s) × (lists_in after.now ≡ lists_in other.now)
read-columns-decided N fits κs book edition first n columns after other r s e f = rows-alone edition _ r s _ _ _ e f

-- the first fault of a book's rows alone, by the contract of `rows_fault`
pub rows-fault-decided : (κs : Lfts 1) (book other : Bor (List ℕ)) (edition n : ℕ) (needed : Bool) (r s : Verdict)
    → book.now ≡ other.now
    → rows-fault.Post κs (book, (edition, (n, (needed, tt)))) r (book, (edition, (n, (needed, tt))))
    → rows-fault.Post κs (other, (edition, (n, (needed, tt)))) s (other, (edition, (n, (needed, tt))))
    → r ≡ s
rows-fault-decided κs book other edition n needed r s same e f =
    e ∙ ap (λ (b : List ℕ). rows_fault needed edition (offer_at (row_offers b edition 1 n)) n) same ∙ sym f
