-- Rows that are put into the room one after another, as the array of a caller has them.
--
-- In order: a row's offer; before any row; one row more; the room keeps its length.
-- Assumes nothing.
use mathlib.Core.Path.{◌≡◌, refl, sym, ap, ◌∙◌}
use mathlib.Core.List.{List, [], ◌∷◌, map}
use Prim.Native.Nat.{ℕ, zero, suc, ◌+◌, ◌*◌, ◌/◌, ◌%◌, ◌≤◌, ◌<◌}
use native.Mathlib.Omega.{arith}
use lib.ListN.{length, get_or, take, length-map, get_or-map}
use Rattle.laws.proofs.Cases.{by-test}
use Rattle.values.specs.Contents.{no_offer, offer_at}
use Rattle.values.specs.declared.place.Offer.{Offer}
use Rattle.limits.specs.Offers.{step_within}
use Rattle.encoding.specs.Encode.{place_bytes}
use Rattle.encoding.proofs.Place.{length-place}
use Rattle.places.specs.inner.Rows.{put_row, put_rows}
use Rattle.places.proofs.Puts.{length-put}
use Rattle.places.proofs.Rows.{rows_next}
use Rattle.making.specs.inner.Made.{bytes_for}
use Rattle.plain.specs.Given.{offer_in}
use Rattle.plain.specs.declared.structs.OzpRow.{OzpRow}

-- what stands past the end does not matter to a row that is there
get_d_any : (l : List Offer) (i : ℕ) (d e : Offer) → i < length l → get_or l i d ≡ get_or l i e
get_d_any [] i d e h = absurd (omega arith)
get_d_any (o ∷ l) zero d e h = refl
get_d_any (o ∷ l) (suc i) d e h = get_d_any l i d e (omega arith)

pub offer-there : (rows : List OzpRow) (i : ℕ) (d : OzpRow) → i < length rows → offer_in (get_or rows i d) ≡ offer_at (map offer_in rows) i
offer-there rows i d l =
    sym (get_or-map offer_in rows i d) ∙ get_d_any (map offer_in rows) i (offer_in d) no_offer (omega (arith, length-map rows offer_in))

-- the room in which the first i rows are put
abbrev pub placed : ℕ → List ℕ → List OzpRow → ℕ → List ℕ
placed edition room rows i = put_rows room edition 0 (take i (map offer_in rows))

module _ (edition : ℕ) (room : List ℕ) (rows : List OzpRow) where
  pub placed-none : room ≡ placed edition room rows 0
  unfolding put_rows
  placed-none = refl

  -- one row more
  pub placed-next : (i : ℕ) (d : OzpRow) → i < length rows
      → put_row (placed edition room rows i) edition i (offer_in (get_or rows i d)) ≡ placed edition room rows (suc i)
  placed-next i d l =
      ap (put_row (placed edition room rows i) edition i) (sym (get_or-map offer_in rows i d))
      ∙ rows_next edition room (map offer_in rows) i (offer_in d) (omega (arith, length-map rows offer_in))

  length-row : (b : List ℕ) (i : ℕ) (o : Offer) → (1 + i / 15) * 512 + 512 ≤ length b → length (put_row b edition i o) ≡ length b
  unfolding put_row
  length-row b i o l =
      by-test (step_within edition o.step)
      (λ e. rw e (length-put b ((1 + i / 15) * 512 + (28 + i % 15 * 32)) (place_bytes edition o) (omega (arith, length-place edition o, l))))
      (λ e. rw e refl)

  -- the room keeps its length
  pub length-placed : (n : ℕ) (d : OzpRow) → n ≤ length rows → (0 < n → bytes_for n ≤ length room) → (i : ℕ) → i ≤ n
      → length (placed edition room rows i) ≡ length room
  length-placed n d few long zero l = ap length (sym placed-none)
  length-placed n d few long (suc i) l =
      let before = length-placed n d few long i (omega arith) in
      ap length (sym (placed-next i d (omega arith)))
      ∙ length-row (placed edition room rows i) i (offer_in (get_or rows i d)) (omega (arith, before, long (omega arith)))
      ∙ before
