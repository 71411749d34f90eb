-- The book that converting makes in room whose first block is cleared is the book in the other edition.
-- Assumes nothing.
use mathlib.Core.Path.{◌≡◌, ap, ◌∙◌}
use mathlib.Core.Bool.{false}
use mathlib.Core.List.{List, ◌++◌}
use Prim.Native.Nat.{ℕ, ◌≤◌, ◌<◌}
use lib.ListN.{length, drop}
use Rattle.block.specs.Bytes.{byte}
use Rattle.values.specs.Contents.{Contents, offer_at}
use Rattle.layout.specs.Read.{contents_of}
use Rattle.layout.proofs.Contained.{contents-count}
use Rattle.layout.proofs.Passing.{form-passed-blocks}
use Rattle.limits.specs.Offers.{rows_fault}
use Rattle.book.specs.Faults.{sound_fault}
use Rattle.book.proofs.Accepted.{sound-form, sound-rows}
use Rattle.book.proofs.Editions.{rows-any-edition}
use Rattle.encoding.specs.Numbers.{zeros}
use Rattle.places.specs.inner.Put.{put}
use Rattle.making.specs.inner.Made.{bytes_for}
use Rattle.writer.proofs.Ranges.{rows-within}
use Rattle.writer.proofs.Books.{room-made}
use Rattle.convert.specs.Convert.{other_edition, in_other, down_fault, converted}
use Rattle.convert.specs.inner.Converts.{other_made}
use Rattle.convert.proofs.Converted.{ones}
use Rattle.values.specs.Refusals.{no_fault}

module _ (b : List ℕ) (bytes : (i : ℕ) → i < length b → byte b i < 256) (sound : sound_fault b ≡ no_fault)
    (down : down_fault (contents_of b) ≡ no_fault) where
  abbrev c : Contents
  c = contents_of b

  abbrev e : ℕ
  e = other_edition c.edition

  -- the offers pass the tests of rows in the other edition too
  rows_pass : rows_fault false e (offer_at c.offers) (length c.offers) ≡ no_fault
  rows_pass =
      rows-any-edition false e c.edition (offer_at c.offers) (length c.offers) (ones b bytes sound down)
      ∙ sound-rows b sound

  -- a book has as many bytes as its rows need
  pub bytes-own : length b ≡ bytes_for (length c.offers)
  bytes-own = form-passed-blocks b (sound-form b sound) ∙ ap bytes_for (contents-count b)

  pub other-made : (room : List ℕ) → length b ≤ length room
      → other_made c (put room 0 (zeros 512)) ≡ converted b ++ drop (length (converted b)) room
  unfolding other_made converted in_other
  other-made room fits = room-made (in_other c) room (rw bytes-own at fits) (rows-within e c.offers rows_pass)
