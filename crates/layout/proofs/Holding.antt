-- What it means that one of the tests of a book's form holds.
--
-- In order: the length; the count that block 0 states, and block 0.
-- Assumes nothing.
use mathlib.Core.Path.{◌≡◌}
use mathlib.Core.Bool.{Bool, true, ◌&&◌}
use mathlib.Core.List.{List}
use Prim.Native.Nat.{ℕ, ◌+◌, ◌%◌, ◌≤◌}
use lib.ListN.{length}
use lib.Dec.{eqb, leb}
use borrow.Author.Tests.{eqb-true, leb-true}
use Rattle.laws.proofs.Cases.{and_left, and_right}
use Rattle.block.specs.Bytes.{opens_with, blank}
use Rattle.values.specs.Head.{edition_in, offers_in}
use Rattle.values.proofs.Firsts.{unless-passed}
use Rattle.sections.specs.Section.{blocks_for}
use Rattle.layout.specs.Layout.{rpmb, edition_known, count_fits, head_marks_hold, head_holds}
use Rattle.layout.specs.Form.{length_fault}
use Rattle.values.specs.Refusals.{no_fault}
use Rattle.values.specs.declared.refusal.Refusal.TheVariants.{WrongLength}

-- a length that is whole blocks, one at least, and no more than 41
pub record LengthHolds (bytes : ℕ) : Type 0 where
  pub whole : bytes % 512 ≡ 0
  pub least : 512 ≤ bytes
  pub most : bytes ≤ 20992

-- of the length
pub length-holds : (b : List ℕ) → length_fault b ≡ no_fault → LengthHolds (length b)
unfolding length_fault
length-holds b e =
    let whole : Bool = eqb (length b % 512) 0 in
    let least : Bool = leb 512 (length b) in
    let most : Bool = leb (length b) 20992 in
    let all : whole && (least && most) ≡ true = unless-passed (whole && (least && most)) WrongLength e in
    let bounds : least && most ≡ true = and_right whole (least && most) all in
    record {
      whole = eqb-true (length b % 512) 0 (and_left whole (least && most) all);
      least = leb-true 512 (length b) (and_left least most bounds);
      most = leb-true (length b) 20992 (and_right least most bounds);
    }

-- a count that fits so many blocks
pub record CountHolds (blocks offers : ℕ) : Type 0 where
  pub most : offers ≤ 600
  pub fits : blocks ≡ 1 + blocks_for offers

-- of the count, and of block 0
count-holds : (s : List ℕ) (blocks : ℕ) → count_fits s blocks ≡ true → CountHolds blocks (offers_in s)
unfolding count_fits
count-holds s blocks e =
    let most : Bool = leb (offers_in s) 600 in
    let fits : Bool = eqb blocks (1 + blocks_for (offers_in s)) in
    record {
      most = leb-true (offers_in s) 600 (and_left most fits e);
      fits = eqb-true blocks (1 + blocks_for (offers_in s)) (and_right most fits e);
    }

module _ (s : List ℕ) (blocks : ℕ) (e : head_holds s blocks ≡ true) where
  abbrev rest : Bool
  rest = count_fits s blocks && (head_marks_hold s && (blank s 27 1 && blank s 32 476))

  from-edition : edition_known (edition_in s) && rest ≡ true
  unfolding head_holds
  from-edition = and_right (opens_with s rpmb) _ e

  pub head-edition : edition_known (edition_in s) ≡ true
  head-edition = and_left _ rest from-edition

  pub head-holds : CountHolds blocks (offers_in s)
  head-holds = count-holds s blocks (and_left (count_fits s blocks) _ (and_right (edition_known (edition_in s)) rest from-edition))
