-- The contract of each public function of this crate leaves one answer: any two that it allows for the same bytes and values
-- coincide, wherever the bytes lie.
-- Assumes nothing.
use mathlib.Core.Path.{◌≡◌, sym, ap, ◌∙◌}
use mathlib.Core.List.{List}
use Prim.Native.Nat.{ℕ}
use contract.Lifetimes.{Lfts}
use denote.Ref.{Bor}
use Rattle.plain.specs.declared.structs.OzpContents.{OzpContents}
use Rattle.plain.specs.declared.structs.OzpRow.{OzpRow}
use Rattle.listing.specs.Listed.{exported_contents, row_out}
use Rattle.listing.proofs.contents.Reads as contents
use Rattle.listing.proofs.filled.Reads as filled
use Rattle.listing.proofs.row_at.Reads as row_at

-- all but its rows, by the contract of `contents`
pub contents-decided : (κs : Lfts 1) (book other : Bor (List ℕ)) (entries : ℕ) (r s : OzpContents) → book.now ≡ other.now
    → contents.Post κs (book, (entries, tt)) r (book, (entries, tt))
    → contents.Post κs (other, (entries, tt)) s (other, (entries, tt)) → r ≡ s
contents-decided κs book other entries r s same e f = e ∙ ap (λ (b : List ℕ). exported_contents b entries) same ∙ sym f

-- how many entries are filled, by the contract of `filled`
pub filled-decided : (c : OzpContents) (r s : ℕ) → filled.Post tt (c, tt) r (c, tt) → filled.Post tt (c, tt) s (c, tt) → r ≡ s
filled-decided c r s e f = e ∙ sym f

-- a row, by the contract of `row_at`
pub row-at-decided : (κs : Lfts 1) (book other : Bor (List ℕ)) (row : ℕ) (r s : OzpRow) → book.now ≡ other.now
    → row_at.Post κs (book, (row, tt)) r (book, (row, tt)) → row_at.Post κs (other, (row, tt)) s (other, (row, tt)) → r ≡ s
row-at-decided κs book other row r s same e f = e ∙ ap (λ (b : List ℕ). row_out b row) same ∙ sym f
