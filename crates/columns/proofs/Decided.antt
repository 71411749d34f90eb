-- The contracts of columns leave one content of each list: any two that a contract allows for the same rows coincide.
-- Assumes nothing.
use Rattle.std.proofs.Common.{◌≡◌, ℕ, sym, ◌∙◌, Fits, w64, Bor, MutBor}
use contract.Lifetimes.{Lfts}
use Rattle.values.specs.declared.place.Offer.{Offer}
use Rattle.columns.specs.declared.Columns.{Columns}
use Rattle.columns.specs.declared.rows.Rows.{Rows}
use Rattle.columns.specs.inner.Sides.{lists_in, lists_behind}
use Rattle.columns.proofs.Columns.blank.Reads as blank
use Rattle.columns.proofs.Columns.put.Reads as put
use Rattle.columns.proofs.Columns.rows.Reads as rows

-- columns of zeros, by the contract of `blank`
pub blank-decided : (N : ℕ) (fits : Fits w64 N) (κs : Lfts 1) (r s : Columns N)
    → blank.Post N fits κs tt r tt → blank.Post N fits κs tt s tt → lists_in r ≡ lists_in s
blank-decided N fits κs r s e f = e ∙ sym f

-- an offer put as a row, by the contract of `put`
pub put-decided : (N : ℕ) (fits : Fits w64 N) (κs : Lfts 2) (columns after other : MutBor (Columns N)) (row : ℕ) (o : Offer)
    → put.Post N fits κs (columns, (row, (o, tt))) tt (after, (row, (o, tt)))
    → put.Post N fits κs (columns, (row, (o, tt))) tt (other, (row, (o, tt)))
    → lists_in after.now ≡ lists_in other.now
put-decided N fits κs columns after other row o e f = e ∙ sym f

-- the first rows, by the contract of `rows`
pub rows-decided : (N : ℕ) (fits : Fits w64 N) (κs : Lfts 2) (columns : Bor (Columns N)) (n : ℕ) (r s : Rows)
    → rows.Post N fits κs (columns, (n, tt)) r (columns, (n, tt))
    → rows.Post N fits κs (columns, (n, tt)) s (columns, (n, tt))
    → lists_behind r ≡ lists_behind s
rows-decided N fits κs columns n r s e f = e ∙ sym f
