-- What contents say in the other edition.
--
-- In order: the two editions; contents in the other edition, twice; where every step is 1 they fit the bytes of its book, and
-- so they are read back from it.
-- Assumes nothing.
use mathlib.Core.Path.{◌≡◌, refl}
use mathlib.Core.Bool.{true}
use Prim.Native.Nat.{ℕ, ◌<◌}
use native.Mathlib.Omega.{arith}
use lib.ListN.{length}
use lib.Dec.{leb}
use borrow.Author.Tests.{leb-true}
use Rattle.laws.proofs.Cases.{by_order, and_left, and_right}
use Rattle.values.specs.Contents.{Contents, offer_at}
use Rattle.layout.specs.Layout.{edition_known}
use Rattle.layout.specs.Read.{contents_of}
use Rattle.encoding.specs.Encode.{encode}
use Rattle.encoding.specs.inner.Fits.{Fits}
use Rattle.encoding.proofs.Encoded.{read-encoded}
use Rattle.convert.specs.Convert.{other_edition, in_other}

-- a book is of edition 1 or of edition 2
pub by-edition {ℓ} : {X : Type ℓ} (e : ℕ) → edition_known e ≡ true → (e ≡ 1 → X) → (e ≡ 2 → X) → X
unfolding edition_known
by-edition e known one two =
    let least = leb-true 1 e (and_left (leb 1 e) (leb e 2) known) in
    let most = leb-true e 2 (and_right (leb 1 e) (leb e 2) known) in
    by_order e 1 (λ l. one (omega (arith, least))) (λ l. two (omega (arith, most)))

-- the other edition is one that books have, and its other is the first
pub other-known : (e : ℕ) → edition_known e ≡ true → edition_known (other_edition e) ≡ true
unfolding edition_known
other-known e known = by-edition e known (λ is. rw is refl) (λ is. rw is refl)

other-twice : (e : ℕ) → edition_known e ≡ true → other_edition (other_edition e) ≡ e
other-twice e known = by-edition e known (λ is. rw is refl) (λ is. rw is refl)

module _ (c : Contents) (fits : Fits c) where
  -- Said in the other edition twice, contents are what they were.
  pub other-other : in_other (in_other c) ≡ c
  unfolding in_other
  other-other = λ i. record { edition = other-twice c.edition fits.edition i; parameters = c.parameters; offers = c.offers }

  module _ (ones : (row : ℕ) → row < length c.offers → (offer_at c.offers row).step ≡ 1) where
    -- where every step is 1, both editions have a byte for it
    pub other_fits : Fits (in_other c)
    unfolding in_other
    other_fits = record {
      edition = other-known c.edition fits.edition;
      few = fits.few;
      parameters = fits.parameters;
      offers = fits.offers;
      steps = λ row l. record { one = λ is. ones row l; byte = omega (arith, ones row l) };
    }

    -- what is written in the other edition says the same in it
    pub other-said : contents_of (encode (in_other c)) ≡ in_other c
    other-said = read-encoded (in_other c) other_fits
