-- One row more, put behind those that were put.
-- Assumes nothing.
use mathlib.Core.Path.{◌≡◌, sym, ap, ◌∙◌}
use mathlib.Core.List.{List, [], ◌∷◌, ◌++◌}
use Prim.Native.Nat.{ℕ, suc, ◌+◌, ◌<◌}
use native.Mathlib.Nat.{add-zero, zero-add, suc-add, add-suc}
use native.Mathlib.Omega.{arith}
use lib.ListN.{length, get_or, take}
use lib.Seq.{take-suc, length-take-le}
use Rattle.values.specs.declared.place.Offer.{Offer}
use Rattle.places.specs.inner.Rows.{put_row, put_rows}

module _ (edition : ℕ) where
  -- behind the rows of a list
  pub rows-one : (b : List ℕ) (i : ℕ) (offers : List Offer) (o : Offer)
      → put_row (put_rows b edition i offers) edition (i + length offers) o ≡ put_rows b edition i (offers ++ o ∷ [])
  unfolding put_rows
  rows-one b i [] o = ap (λ (j : ℕ). put_row b edition j o) (add-zero i)
  rows-one b i (p ∷ offers) o =
      ap (λ (j : ℕ). put_row (put_rows (put_row b edition i p) edition (suc i) offers) edition j o)
      (add-suc i (length offers) ∙ sym (suc-add i (length offers)))
      ∙ rows-one (put_row b edition i p) (suc i) offers o

  -- one more of the rows of a list
  pub rows_next : (b : List ℕ) (offers : List Offer) (i : ℕ) (d : Offer) → i < length offers
      → put_row (put_rows b edition 0 (take i offers)) edition i (get_or offers i d) ≡ put_rows b edition 0 (take (suc i) offers)
  rows_next b offers i d l =
      let count : 0 + length (take i offers) ≡ i = zero-add (length (take i offers)) ∙ length-take-le i offers (omega arith) in
      ap (λ (j : ℕ). put_row (put_rows b edition 0 (take i offers)) edition j (get_or offers i d)) (sym count)
      ∙ rows-one b 0 (take i offers) (get_or offers i d)
      ∙ ap (put_rows b edition 0) (sym (take-suc offers i d l))
