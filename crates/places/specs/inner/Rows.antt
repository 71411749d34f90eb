-- Rows in their places of a book of an edition.
-- Assumes nothing.
use Rattle.std.specs.Prelude.{ℕ, suc, ◌+◌, ◌*◌, ◌/◌, ◌%◌, cond, List, [], ◌∷◌}
use Rattle.values.specs.declared.place.Offer.{Offer}
use Rattle.limits.specs.Offers.{step_within}
use Rattle.encoding.specs.Encode.{place_bytes}
use Rattle.places.specs.inner.Put.{put}

-- the bytes with an offer as row i: in block 1 + i / 15, at its place i % 15. An offer with a step that the edition does not have
-- leaves them as they are, for its place may have no byte that holds it
unfoldable pub put_row : List ℕ → ℕ → ℕ → Offer → List ℕ
put_row b edition i o =
    cond (step_within edition o.step) (put b ((1 + i / 15) * 512 + (28 + i % 15 * 32)) (place_bytes edition o)) b

-- the bytes with offers as rows from i on
unfoldable pub put_rows : List ℕ → ℕ → ℕ → List Offer → List ℕ
put_rows b edition i [] = b
put_rows b edition i (o ∷ offers) = put_rows (put_row b edition i o) edition (suc i) offers
