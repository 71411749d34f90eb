-- What is put into a buffer is one text, and the place behind it is one place: any two outcomes that a contract allows coincide.
--
-- In order: what `Written` leaves; bytes, one byte, bytes with a fill, a number, a number with a point.
-- Assumes nothing.
use mathlib.Core.Path.{◌≡◌, sym, ◌∙◌}
use mathlib.Core.List.{List}
use Prim.Native.Nat.{ℕ}
use contract.Lifetimes.{Lfts}
use denote.Ref.{Bor, MutBor}
use Rattle.text.specs.Put.{Written}
use Rattle.text.proofs.put_bytes.Reads as put-bytes
use Rattle.text.proofs.put_byte.Reads as put_byte
use Rattle.text.proofs.put_right.Reads as put_right
use Rattle.text.proofs.number.put_number.Reads as put-number
use Rattle.text.proofs.number.put_decimal.Reads as put-decimal

-- one text, and one place behind it
abbrev pub Same : (after other : MutBor (List ℕ)) (r s : ℕ) → Type 0
Same after other r s = (r ≡ s) × (after.now ≡ other.now)

written-alone : (out : List ℕ) (at : ℕ) (bytes : List ℕ) (after other : MutBor (List ℕ)) (r s : ℕ)
    → Written out at bytes after.now r → Written out at bytes other.now s → Same after other r s
written-alone out at bytes after other r s e f = (e.place ∙ sym f.place, e.buffer ∙ sym f.buffer)

module _ (out after other : MutBor (List ℕ)) (at r s : ℕ) where
  pub put-bytes-decided : (κs : Lfts 2) (bytes : Bor (List ℕ))
      → put-bytes.Post κs (out, (at, (bytes, tt))) r (after, (at, (bytes, tt)))
      → put-bytes.Post κs (out, (at, (bytes, tt))) s (other, (at, (bytes, tt))) → Same after other r s
  put-bytes-decided κs bytes e f = written-alone out.now at _ after other r s e f

  pub put-byte-decided : (κs : Lfts 1) (byte : ℕ)
      → put_byte.Post κs (out, (at, (byte, tt))) r (after, (at, (byte, tt)))
      → put_byte.Post κs (out, (at, (byte, tt))) s (other, (at, (byte, tt))) → Same after other r s
  put-byte-decided κs byte e f = written-alone out.now at _ after other r s e f

  pub put-right-decided : (κs : Lfts 2) (bytes : Bor (List ℕ)) (width fill : ℕ)
      → put_right.Post κs (out, (at, (bytes, (width, (fill, tt))))) r (after, (at, (bytes, (width, (fill, tt)))))
      → put_right.Post κs (out, (at, (bytes, (width, (fill, tt))))) s (other, (at, (bytes, (width, (fill, tt))))) → Same after other r s
  put-right-decided κs bytes width fill e f = written-alone out.now at _ after other r s e f

  pub put-number-decided : (κs : Lfts 1) (n : ℕ)
      → put-number.Post κs (out, (at, (n, tt))) r (after, (at, (n, tt)))
      → put-number.Post κs (out, (at, (n, tt))) s (other, (at, (n, tt))) → Same after other r s
  put-number-decided κs n e f = written-alone out.now at _ after other r s e f

  pub put-decimal-decided : (κs : Lfts 1) (n places : ℕ)
      → put-decimal.Post κs (out, (at, (n, (places, tt)))) r (after, (at, (n, (places, tt))))
      → put-decimal.Post κs (out, (at, (n, (places, tt)))) s (other, (at, (n, (places, tt)))) → Same after other r s
  put-decimal-decided κs n places e f = written-alone out.now at _ after other r s e f
