-- Texts that fit, one behind the other, and how long the lines are at most.
-- Assumes nothing.
use mathlib.Core.Path.{◌≡◌, refl, ap, ap₂, subst₂, ◌∙◌}
use mathlib.Core.List.{List, [], ◌∷◌, ◌++◌}
use Prim.Native.Nat.{ℕ, zero, suc, ◌+◌, ◌≤◌, ◌<◌, ◌^◌}
use native.Mathlib.Numerals.{add-one}
use native.Mathlib.Omega.{arith}
use lib.ListN.{length, length-append}
use Rattle.std.specs.Prelude.{Some, None}
use Rattle.text.specs.Put.{Written}
use Rattle.text.specs.Number.{number_text}
use Rattle.text.proofs.Puts.{written-append, written_none, fits-buffer, fits-place, length-put-fits}
use Rattle.text.proofs.Numbers.{length-number}
use Rattle.units.specs.declared.CentsPerMwDay.{CentsPerMwDay}
use Rattle.values.specs.Place.{offer_of}
use Rattle.values.specs.declared.place.Offer.{Offer}
use Rattle.sections.specs.Blocks.{row_bytes}
use Rattle.layout.specs.Form.{edition_of}
use Rattle.layout.specs.Read.{row_offer}
use Rattle.settle.specs.inner.Read.{quoted}
use Rattle.report.specs.Lines.{price_word, no_price_line, ended_text, line_text, price_text, row_text, rows_text, Fitted}
use Rattle.pricing.specs.Price.{ClearingPrice}

module _ {out : List ℕ} {at : ℕ} {bytes after : List ℕ} {end : ℕ} where
  pub fitted : at + length bytes ≤ length out → Written out at bytes after end → Fitted out at bytes after end
  fitted h w = record { fits = h; written = w }

  -- the place behind it
  pub fitted-place : Fitted out at bytes after end → end ≡ at + length bytes
  fitted-place f = fits-place out at bytes f.fits f.written

  pub fitted-length : Fitted out at bytes after end → length after ≡ length out
  fitted-length f = ap length (fits-buffer out at bytes f.fits f.written) ∙ length-put-fits out at bytes f.fits

-- the same text by another name
pub fitted-as : {out : List ℕ} {at : ℕ} {xs ys after : List ℕ} {end : ℕ} → xs ≡ ys → Fitted out at xs after end → Fitted out at ys after end
fitted-as e f = rw (← e) f

-- one text behind another
pub fitted-append : {out : List ℕ} {at : ℕ} {xs ys mid after : List ℕ} {place end : ℕ} → Fitted out at xs mid place
    → Fitted mid place ys after end → Fitted out at (xs ++ ys) after end
fitted-append {out} {at} {xs} {ys} f g =
    let room : at + length xs + length ys ≤ length out = omega (arith, g.fits, fitted-place f, fitted-length f) in
    fitted (omega (arith, length-append xs ys)) (written-append out at xs ys room f.written g.written)

-- ---- lengths

length-ended : (number end : ℕ) → length (ended_text number end) ≡ length (number_text number) + 1
unfolding ended_text
length-ended number end = length-append (number_text number) (end ∷ [])

-- a number of 32 bits has 10 digits at most, one of 64 bits 20
pub ended-short : (number end : ℕ) → number < 2 ^ 32 → length (ended_text number end) ≤ 11
ended-short number end h = omega (arith, length-ended number end, length-number 9 number (omega arith))

pub ended-long : (number end : ℕ) → number < 2 ^ 64 → length (ended_text number end) ≤ 21
ended-long number end h = omega (arith, length-ended number end, length-number 19 number (omega arith))

-- ---- lines

-- a number and the byte behind it
pub fitted-ended : {out : List ℕ} {at number byte : ℕ} {mid after : List ℕ} {place end : ℕ} → number < 2 ^ 64
    → at + 21 ≤ length out → Written out at (number_text number) mid place → Written mid place (byte ∷ []) after end
    → Fitted out at (ended_text number byte) after end
unfolding ended_text
fitted-ended {out} {at} {number} {byte} h room w v =
    let digits : length (number_text number) ≤ 20 = length-number 19 number (omega arith) in
    fitted (omega (arith, length-append (number_text number) (byte ∷ [])))
    (written-append out at (number_text number) (byte ∷ []) (omega arith) w v)

-- the line of a price that is there, and of none
module _ {out : List ℕ} {at : ℕ} {after : List ℕ} {end : ℕ} {quote : ClearingPrice} where
  pub price-told : {cents : CentsPerMwDay} → quote ≡ Some cents → Fitted out at (line_text price_word cents.0) after end
      → Fitted out at (price_text (quoted quote)) after end
  price-told e f = rw e f

  pub no-price-told : quote ≡ None → Fitted out at no_price_line after end → Fitted out at (price_text (quoted quote)) after end
  no-price-told e f = rw e f

-- the line of a row of a book, by what was read of the row and paid for it
pub row_told : {out : List ℕ} {at : ℕ} {after : List ℕ} {end : ℕ} (b part : List ℕ) (edition row cleared committed paid mills : ℕ)
    (o : Offer) → part ≡ row_bytes b 1 row → edition ≡ edition_of b → o ≡ offer_of edition part → paid ≡ mills
    → Fitted out at (row_text o.resource cleared committed paid) after end
    → Fitted out at (row_text (row_offer b (edition_of b) 1 row).resource cleared committed mills) after end
unfolding row_offer
row_told {out} {at} {after} {end} b part edition row cleared committed paid mills o e d f g fit =
    subst₂ (λ (r m : ℕ). Fitted out at (row_text r cleared committed m) after end)
    (ap (λ (v : Offer). v.resource) (f ∙ ap₂ offer_of d e)) g fit

-- no rows, and one more
pub rows_none : {out : List ℕ} {at : ℕ} (line : ℕ → List ℕ) → at ≤ length out → Fitted out at (rows_text line 0) out at
unfolding rows_text
rows_none {out} {at} line h = fitted (omega arith) (written_none out at h)

pub rows_more : {out : List ℕ} {at : ℕ} {mid after : List ℕ} {place end : ℕ} (line : ℕ → List ℕ) (n : ℕ)
    → Fitted out at (rows_text line n) mid place → Fitted mid place (line n) after end → Fitted out at (rows_text line (n + 1)) after end
unfolding rows_text
rows_more line n f g = rw (add-one n) (fitted-append f g)

pub rows-counted : {out : List ℕ} {at : ℕ} {after : List ℕ} {end n m : ℕ} (line : ℕ → List ℕ) → n ≡ m
    → Fitted out at (rows_text line n) after end → Fitted out at (rows_text line m) after end
rows-counted line e f = rw (← e) f

-- lines that are the same row by row
pub rows_text-ext : (f g : ℕ → List ℕ) (n : ℕ) → ((row : ℕ) → row < n → f row ≡ g row) → rows_text f n ≡ rows_text g n
unfolding rows_text
rows_text-ext f g zero e = refl
rows_text-ext f g (suc n) e = ap₂ ◌++◌ (rows_text-ext f g n (λ row l. e row (omega arith))) (e n (omega arith))
