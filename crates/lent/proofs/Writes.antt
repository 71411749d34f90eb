-- Contents of which nothing refuses the writing.
-- Assumes nothing.
use mathlib.Core.Path.{◌≡◌}
use mathlib.Core.Bool.{true}
use Prim.Native.Nat.{ℕ, ◌≤◌}
use lib.Dec.{leb}
use lib.ListN.{length}
use borrow.Author.Tests.{leb-true}
use Rattle.values.specs.Contents.{Contents}
use Rattle.values.specs.declared.refusal.Refusal.TheVariants.{WrongLayout, TooManyRows}
use Rattle.values.specs.Refusals.{unless, and_then, short_room, no_fault}
use Rattle.values.proofs.Firsts.{unless-passed, and_then-left, and_then-right}
use Rattle.layout.specs.Layout.{edition_known}
use Rattle.book.specs.Faults.{given_fault}
use Rattle.encoding.specs.Encode.{encode}
use Rattle.encoding.specs.Widths.{OffersFit}
use Rattle.encoding.specs.inner.Fits.{Fits}
use Rattle.writer.specs.Writing.{edition_fault, count_fault, write_fault}
use Rattle.writer.proofs.Ranges.{given-fits}

module _ (c : Contents) (room : ℕ) (passed : write_fault c room ≡ no_fault) where
  edition-passed : edition_fault c ≡ no_fault
  unfolding write_fault
  edition-passed = and_then-left (edition_fault c) _ passed

  from-count : and_then (count_fault c) (and_then (given_fault c) (unless (leb (length (encode c)) room) short_room)) ≡ no_fault
  unfolding write_fault
  from-count = and_then-right (edition_fault c) _ passed

  pub given-passed : given_fault c ≡ no_fault
  given-passed = and_then-left (given_fault c) _ (and_then-right (count_fault c) _ from-count)

  known : edition_known c.edition ≡ true
  unfolding edition_fault
  known = unless-passed (edition_known c.edition) (WrongLayout 0) edition-passed

  few : length c.offers ≤ 600
  unfolding count_fault
  few = leb-true (length c.offers) 600 (unless-passed (leb (length c.offers) 600) TooManyRows (and_then-left (count_fault c) _ from-count))

  pub passed-fits : OffersFit c.offers → Fits c
  passed-fits fit = given-fits c few known given-passed fit
