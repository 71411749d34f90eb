-- The contract of each public function of this crate leaves one answer, or one content of the bytes, wherever they lie.
-- Assumes nothing.
use mathlib.Core.Path.{◌≡◌, sym, ◌∙◌}
use mathlib.Core.List.{List}
use Prim.Native.Nat.{ℕ}
use contract.Lifetimes.{Lfts}
use denote.Ref.{MutBor}
use Rattle.laws.proofs.Answers.{same_answer}
use Rattle.values.specs.declared.head.Parameters.{Parameters}
use Rattle.encoding.specs.Numbers.{zeros}
use Rattle.places.specs.inner.Put.{put}
use Rattle.making.specs.inner.Made.{book_made}
use Rattle.making.proofs.bytes_for.Reads as bytes-for
use Rattle.making.proofs.put_zeros.Reads as put-zeros
use Rattle.making.proofs.put_book.Reads as put-book

-- how many bytes a book has, by the contract of `bytes_for`
pub bytes-for-decided : (rows r s : ℕ) → bytes-for.Post tt (rows, tt) r (rows, tt) → bytes-for.Post tt (rows, tt) s (rows, tt) → r ≡ s
bytes-for-decided rows r s e f = e.0 ∙ sym f.0

module _ (κs : Lfts 1) (b c b' c' : MutBor (List ℕ)) (same : b.now ≡ c.now) where
  -- zeros, by the contract of `put_zeros`
  pub put-zeros-decided : (at n : ℕ) → put-zeros.Post κs (b, (at, (n, tt))) tt (b', (at, (n, tt)))
      → put-zeros.Post κs (c, (at, (n, tt))) tt (c', (at, (n, tt))) → b'.now ≡ c'.now
  put-zeros-decided at n = same_answer (λ (l : List ℕ). put l at (zeros n)) same

  -- the book, by the contract of `put_book`
  pub put-book-decided : (edition : ℕ) (p : Parameters) (rows : ℕ)
      → put-book.Post κs (b, (edition, (p, (rows, tt)))) tt (b', (edition, (p, (rows, tt))))
      → put-book.Post κs (c, (edition, (p, (rows, tt)))) tt (c', (edition, (p, (rows, tt))))
      → b'.now ≡ c'.now
  put-book-decided edition p rows = same_answer (book_made edition p rows) same
