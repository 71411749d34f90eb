-- What `share_out` leaves in the list that it fills.
--
-- In order: parts alone, where nothing is spare; amounts cleared, over parts; and that what is shared out is the list filled.
-- Assumes nothing.
use mathlib.Core.Path.{◌≡◌, ◌∙◌}
use mathlib.Core.List.{List}
use Prim.Native.Nat.{ℕ, ◌≤◌}
use lib.ListN.{length}
use Rattle.laws.specs.Filled.{filled}
use Rattle.laws.proofs.Filling.{length-filling}
use Rattle.laws.proofs.FilledRows.{filled_row, filled-past, filled_is}
use Rattle.auction.specs.Offers.{Offers}
use Rattle.auction.specs.Shares.{spare_tenths, cleared}
use Rattle.levels.specs.declared.level.Level.{Level}
use Rattle.shares.specs.inner.Out.{SharedOut}
use Rattle.parts.specs.inner.Parts.{part_of}
use Rattle.shares.specs.inner.Stages.{Stopped}
use Rattle.shares.proofs.Sharing.{part-cleared}

-- where nothing is spare at the stop, parts that fill a list are shared out
pub parts_shared : (o : Offers) (l : Level) (before : List ℕ) {after : List ℕ} → Stopped o l → o.count ≤ length before
    → after ≡ filled (λ i. part_of l (o.price i) (o.quantity i)) o.count before
    → spare_tenths o l.total l.price ≡ 0 → SharedOut o l.total before after
parts_shared o l before s long parts none =
    record {
      length-kept = length-filling _ _ _ parts;
      row = λ i h. filled_row _ _ _ parts long i h ∙ part-cleared o l s i h none;
      past = filled-past _ _ _ parts;
    }

-- amounts cleared that fill a list of parts are shared out
pub given-shared : (o : Offers) (x : ℕ) (part : ℕ → ℕ) (before parted : List ℕ) {after : List ℕ} → o.count ≤ length before
    → parted ≡ filled part o.count before → after ≡ filled (cleared o x) o.count parted → SharedOut o x before after
given-shared o x part before parted long parts given =
    let same = length-filling _ _ _ parts in
    record {
      length-kept = length-filling _ _ _ given ∙ same;
      row = filled_row _ _ _ given (rw same long);
      past = λ i h. filled-past _ _ _ given i h ∙ filled-past _ _ _ parts i h;
    }

-- what is shared out fills the list
pub shared-filled : (o : Offers) (x : ℕ) (before after : List ℕ) → o.count ≤ length before
    → SharedOut o x before after → after ≡ filled (cleared o x) o.count before
shared-filled o x before after long s =
    filled_is (cleared o x) o.count before after long s.length-kept s.row s.past
