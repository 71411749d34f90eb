-- What is read from a book of bytes fits the bytes of a book.
--
-- In order: a value; a step; an offer; the parameters; the contents.
-- Assumes nothing.
use mathlib.Core.Path.{◌≡◌}
use mathlib.Core.Bool.{Bool, true, false, cond}
use mathlib.Core.List.{List}
use Prim.Native.Nat.{ℕ, ◌<◌}
use native.Mathlib.Omega.{arith}
use lib.ListN.{length}
use lib.Dec.{eqb}
use borrow.Author.Tests.{eq-eqb}
use Rattle.block.specs.Bytes.{byte, u32_at}
use Rattle.values.specs.Values.{marked, value_of}
use Rattle.values.specs.Head.{parameters_of}
use Rattle.values.specs.Place.{step_of, offer_of}
use Rattle.sections.specs.Blocks.{block_of, row_bytes}
use Rattle.layout.specs.Form.{edition_of, form_fault}
use Rattle.layout.specs.Read.{row_offer, contents_of}
use Rattle.layout.proofs.Contained.{contents-edition, contents-parameters, contents-count, contents-offer}
use Rattle.layout.proofs.Passing.{form-passed-edition, form-passed-count}
use Rattle.encoding.specs.Widths.{ValueFits, OfferFits}
use Rattle.encoding.specs.inner.Fits.{ParametersFit, StepFits, Fits}
use Rattle.encoding.proofs.Digits.{Bytes, u16_at-most, u32_at-most, u64_at-most}
use Rattle.encoding.proofs.Parts.{bytes_read, block-bytes, row-bytes}
use Rattle.values.specs.Refusals.{no_fault}

value-fits : (t : Bool) (n : ℕ) → n < 4294967296 → ValueFits (value_of t n)
value-fits true n h = h
value-fits false n h = omega arith

pub step_fits : (edition n : ℕ) → n < 256 → StepFits edition (step_of edition n)
step_fits edition n h = record { one = λ e. rw (eq-eqb edition 1 e); byte = own (eqb edition 1) }
  where
    own : (t : Bool) → cond t 1 n < 256
    own true = omega arith
    own false = h

module _ (s : List ℕ) (bytes : Bytes s) where
  -- a value that was read fits
  read-value : (marks bit at : ℕ) → ValueFits (value_of (marked marks bit) (u32_at s at))
  read-value marks bit at = value-fits (marked marks bit) (u32_at s at) (u32_at-most s bytes at)

  offer-fits : (edition : ℕ) → OfferFits (offer_of edition s)
  unfolding offer_of
  offer-fits edition = record {
    resource = u32_at-most s bytes 0;
    seller = u32_at-most s bytes 4;
    price = read-value (byte s 28) 0 8;
    quantity = u32_at-most s bytes 12;
    block = read-value (byte s 28) 1 16;
    stamp = u64_at-most s bytes 20;
  }

  place-fits : (edition : ℕ) → StepFits edition (offer_of edition s).step
  unfolding offer_of
  place-fits edition = step_fits edition (byte s 29) (bytes 29)

  parameters-fit : ParametersFit (parameters_of s)
  unfolding parameters_of
  parameters-fit = record {
    year = u16_at-most s bytes 6;
    cost = read-value (byte s 26) 0 8;
    offset = read-value (byte s 26) 1 12;
    outage = read-value (byte s 26) 2 16;
    requirement = read-value (byte s 26) 3 20;
    margin = read-value (byte s 26) 4 28;
  }

module _ (b : List ℕ) (bytes : (i : ℕ) → i < length b → byte b i < 256) where
  abbrev edition : ℕ
  edition = edition_of b

  row_fits : (row : ℕ) → OfferFits (row_offer b edition 1 row)
  unfolding row_offer
  row_fits row = offer-fits (row_bytes b 1 row) (row-bytes b (bytes_read b bytes) 1 row) edition

  row-step-fits : (row : ℕ) → StepFits edition (row_offer b edition 1 row).step
  unfolding row_offer
  row-step-fits row = place-fits (row_bytes b 1 row) (row-bytes b (bytes_read b bytes) 1 row) edition

  -- The contents of a book that passes 1, 2 and 3 fit.
  pub read_fits : form_fault b ≡ no_fault → Fits (contents_of b)
  read_fits passed = record {
    edition = rw (← contents-edition b) (form-passed-edition b passed);
    few = omega (arith, form-passed-count b passed, contents-count b);
    parameters = rw (← contents-parameters b) (parameters-fit (block_of b 0) (block-bytes b (bytes_read b bytes) 0));
    offers = λ row l. rw (contents-offer b row (rw (contents-count b) l)) (row_fits row);
    steps = λ row l. rw (← contents-edition b, contents-offer b row (rw (contents-count b) l)) (row-step-fits row);
  }
