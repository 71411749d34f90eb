-- What was written is read back, and so no two contents are written alike.
--
-- In order: the edition; the parameters; the offers; the contents; two contents.
-- Assumes nothing.
use mathlib.Core.Path.{◌≡◌, sym, ap, ap₂, ◌∙◌}
use Prim.Native.Nat.{ℕ, ◌<◌}
use lib.ListN.{length}
use lib.Seq.{ext_get_or}
use Rattle.values.specs.Place.{offer_of}
use Rattle.values.specs.Head.{parameters_of}
use Rattle.values.specs.Contents.{Contents, no_offer, offer_at}
use Rattle.layout.specs.Form.{edition_of}
use Rattle.layout.specs.Read.{row_offer, contents_of}
use Rattle.layout.proofs.Contained.{contents-edition, contents-parameters, contents-count, contents-offer}
use Rattle.encoding.specs.Encode.{encode}
use Rattle.encoding.specs.inner.Fits.{Fits}
use Rattle.encoding.proofs.Place.{read-place}
use Rattle.encoding.proofs.HeadHolds.{read_head}
use Rattle.encoding.proofs.Book.{encode-first, encode-row}
use Rattle.encoding.proofs.Form.{encode-edition, encode-count}

module _ (c : Contents) (fits : Fits c) where
  edition-back : (contents_of (encode c)).edition ≡ c.edition
  edition-back = sym (contents-edition (encode c)) ∙ encode-edition c fits

  parameters-back : (contents_of (encode c)).parameters ≡ c.parameters
  parameters-back =
      sym (contents-parameters (encode c))
      ∙ ap parameters_of (encode-first c)
      ∙ read_head c.edition c.parameters (length c.offers) fits.parameters

  -- the offer of a row
  offer-back : (row : ℕ) → row < length c.offers → row_offer (encode c) (edition_of (encode c)) 1 row ≡ offer_at c.offers row
  unfolding row_offer
  offer-back row l =
      ap₂ offer_of (encode-edition c fits) (encode-row c row l)
      ∙ read-place c.edition (offer_at c.offers row) (fits.offers row l) (fits.steps row l)

  offers-back : (contents_of (encode c)).offers ≡ c.offers
  offers-back =
      let many : length (contents_of (encode c)).offers ≡ length c.offers =
      sym (contents-count (encode c)) ∙ encode-count c fits in
      ext_get_or no_offer (contents_of (encode c)).offers c.offers many
      (λ row l.
      let there : row < length c.offers = rw many at l in
      contents-offer (encode c) row (rw (encode-count c fits) there) ∙ offer-back row there)

  -- Reading back what was written gives the same contents, missing values missing.
  pub read-encoded : contents_of (encode c) ≡ c
  read-encoded = λ i. record { edition = edition-back i; parameters = parameters-back i; offers = offers-back i }

-- Two different contents never give the same bytes.
pub encode_injective : (c d : Contents) → Fits c → Fits d → encode c ≡ encode d → c ≡ d
encode_injective c d f g e = sym (read-encoded c f) ∙ ap contents_of e ∙ read-encoded d g
