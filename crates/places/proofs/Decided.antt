-- The contract of each public function of this crate leaves one answer, or one content of the bytes: any two outcomes that it
-- allows for the same values and bytes coincide, wherever they lie.
-- Assumes nothing.
use mathlib.Core.Path.{◌≡◌, sym, ap₂, ◌∙◌}
use mathlib.Core.List.{List}
use Prim.Native.Nat.{ℕ}
use contract.Lifetimes.{Lfts}
use denote.Ref.{Bor, MutBor}
use Rattle.laws.proofs.Answers.{same_answer}
use Rattle.values.specs.declared.Value.{Value}
use Rattle.values.specs.declared.place.Offer.{Offer}
use Rattle.encoding.specs.Numbers.{u16_bytes, value_bytes}
use Rattle.places.specs.inner.Put.{put}
use Rattle.places.specs.inner.Rows.{put_row}
use Rattle.places.proofs.bytes.put_u16.Reads as put-u16
use Rattle.places.proofs.bytes.put_value.Reads as put-value
use Rattle.places.proofs.bytes.put_letters.Reads as put-letters
use Rattle.places.proofs.place.mark_of.Reads as mark_of
use Rattle.places.proofs.place.put_row.Reads as put-row

-- a value's bit, by the contract of `mark_of`
pub mark-of-decided : (v : Value) (weight r s : ℕ)
    → mark_of.Post tt (v, (weight, tt)) r (v, (weight, tt)) → mark_of.Post tt (v, (weight, tt)) s (v, (weight, tt)) → r ≡ s
mark-of-decided v weight r s e f = e.0 ∙ sym f.0

module _ (κs : Lfts 1) (b c b' c' : MutBor (List ℕ)) (same : b.now ≡ c.now) where
  -- a number, by the contract of `put_u16`
  pub put-u16-decided : (at n : ℕ)
      → put-u16.Post κs (b, (at, (n, tt))) tt (b', (at, (n, tt)))
      → put-u16.Post κs (c, (at, (n, tt))) tt (c', (at, (n, tt)))
      → b'.now ≡ c'.now
  put-u16-decided at n = same_answer (λ l. put l at (u16_bytes n)) same

  -- a value, by the contract of `put_value`
  pub put-value-decided : (at : ℕ) (v : Value)
      → put-value.Post κs (b, (at, (v, tt))) tt (b', (at, (v, tt)))
      → put-value.Post κs (c, (at, (v, tt))) tt (c', (at, (v, tt)))
      → b'.now ≡ c'.now
  put-value-decided at v = same_answer (λ l. put l at (value_bytes v)) same

  -- a row in its place, by the contract of `put_row`
  pub put-row-decided : (edition i : ℕ) (o : Offer)
      → put-row.Post κs (b, (edition, (i, (o, tt)))) tt (b', (edition, (i, (o, tt))))
      → put-row.Post κs (c, (edition, (i, (o, tt)))) tt (c', (edition, (i, (o, tt))))
      → b'.now ≡ c'.now
  put-row-decided edition i o = same_answer (λ l. put_row l edition i o) same

-- the letters of a block, by the contract of `put_letters`
pub put-letters-decided : (κs : Lfts 2) (b c b' c' : MutBor (List ℕ)) (letters others : Bor (List ℕ)) (at : ℕ) → b.now ≡ c.now → letters.now ≡ others.now
    → put-letters.Post κs (b, (at, (letters, tt))) tt (b', (at, (letters, tt)))
    → put-letters.Post κs (c, (at, (others, tt))) tt (c', (at, (others, tt)))
    → b'.now ≡ c'.now
put-letters-decided κs b c b' c' letters others at same alike e f = e ∙ ap₂ (λ (l s : List ℕ). put l at s) same alike ∙ sym f
