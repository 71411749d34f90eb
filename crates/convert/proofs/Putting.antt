-- Rows of a book, put one after another into the places of another.
--
-- In order: no row; a list of one value more; the offer of a row; one row more.
-- Assumes nothing.
use mathlib.Core.Path.{◌≡◌, refl, sym, ap, ap₂, ◌∙◌}
use mathlib.Core.List.{List, [], ◌∷◌, ◌++◌}
use Prim.Native.Nat.{ℕ, zero, suc, ◌+◌}
use native.Mathlib.Numerals.{add-one}
use native.Mathlib.Omega.{arith}
use lib.ListN.{length}
use Rattle.laws.specs.Lists.{list_of}
use Rattle.values.specs.declared.place.Offer.{Offer}
use Rattle.values.specs.Place.{offer_of}
use Rattle.sections.specs.Blocks.{row_bytes}
use Rattle.layout.specs.Read.{row_offer, row_offers}
use Rattle.layout.proofs.Contained.{length-row_offers}
use Rattle.places.specs.inner.Rows.{put_row, put_rows}
use Rattle.places.proofs.Rows.{rows-one}

pub put-none : (b made : List ℕ) (edition other : ℕ) → made ≡ put_rows made other 0 (row_offers b edition 1 0)
unfolding row_offers put_rows list_of
put-none b made edition other = refl

-- a list of one value more, at the end
list_of-last {ℓ} : {A : Type ℓ} (f : ℕ → A) (n : ℕ) → list_of f n ++ f n ∷ [] ≡ list_of f (suc n)
unfolding list_of
list_of-last f zero = refl
list_of-last {A = A} f (suc n) = ap (λ (r : List A). f 0 ∷ r) (list_of-last (λ i. f (suc i)) n)

-- what a row's own bytes hold is the row's offer
pub row-own : (b : List ℕ) (edition row : ℕ) {part : List ℕ} {o : Offer} → part ≡ row_bytes b 1 row → o ≡ offer_of edition part
    → o ≡ row_offer b edition 1 row
unfolding row_offer
row-own b edition row p e = rw (e, p) refl

-- one row more
pub put-more : (b made : List ℕ) (edition other row : ℕ) {now next : List ℕ} {o : Offer}
    → now ≡ put_rows made other 0 (row_offers b edition 1 row) → o ≡ row_offer b edition 1 row → next ≡ put_row now other row o
    → next ≡ put_rows made other 0 (row_offers b edition 1 (row + 1))
unfolding row_offers
put-more b made edition other row {now} {next} {o} e f g =
    let count : row ≡ 0 + length (row_offers b edition 1 row) = omega (arith, length-row_offers b edition 1 row) in
    g
    ∙ ap₂ (λ (s : List ℕ) (p : Offer). put_row s other row p) e f
    ∙ ap (λ (i : ℕ). put_row (put_rows made other 0 (row_offers b edition 1 row)) other i (row_offer b edition 1 row)) count
    ∙ rows-one other made 0 (row_offers b edition 1 row) (row_offer b edition 1 row)
    ∙ ap (put_rows made other 0) (list_of-last (row_offer b edition 1) row ∙ ap (list_of (row_offer b edition 1)) (sym (add-one row)))
