-- `read_rows` is the rows' first fault: the first by 6, 7 or 10, unless a resource number repeats before it. Where all rows hold there is
-- none by 6, 7 or 10; and where one does not, they are gone through for it.
-- Assumes nothing.
use mathlib.Core.List.{List}
use Prim.Native.Nat.{ℕ}
use Rattle.laws.proofs.Filling.{length-filling}
use Rattle.layout.specs.Read.{row_offers}
use Rattle.layout.proofs.Contained.{length-row_offers}
use Rattle.columns.specs.inner.Columns.{Columns, columns_of}
use Rattle.reading.proofs.Puts.{put-room}
use Rattle.reading.proofs.Found.{ValuesFound, found-held, found_as, found-tested, found_within, found_rows}
use Rattle.reading.proofs.read_rows.Goals as goal
use Rattle.reading.proofs.read_rows.Goals.{then-told-held, else-told-held, Joined-told-held}

-- the columns at the entry, and as they are once the resource numbers and the steps may have been stored again
abbrev before : Joined-told-held → Columns
before c =
    let a = c.args in
    columns_of a.prices.now a.quantities.now a.leasts.now a.resources.now a.stamps.now a.steps.now

abbrev after : Joined-told-held → List ℕ → List ℕ → Columns
after c resources steps =
    columns_of c.put_rows-told.new.prices c.put_rows-told.new.quantities c.put_rows-told.new.leasts resources c.put_rows-told.new.stamps steps

abbrev all_put : Joined-told-held → Columns
all_put c = after c c.put_rows-told.new.resources c.put_rows-told.new.steps

pub values_tested-found-requires : goal.values_tested-found-requires
values_tested-found-requires c = (c.requires.0, put-room _ _ c.put_rows-told.ensures c.requires.1)

-- the first fault by 6, 7 or 10
found : (c : Joined-told-held) →
    let a = c.args in
    ValuesFound a.edition (row_offers a.book.now a.edition a.first a.n) a.n c.if-told-held.found (before c)
    (after c c.if-told-held.resources c.if-told-held.steps)
found c =
    let room = c.requires.1 in
    elim c.if-told-held.branch [
      | then-told-held w ↦
          found_as (found-held _ _ _ _ {after = all_put c} c.put_rows-told.ensures room c.columns_hold-held.ensures w.if-told-held.true)
          w.resources-is
          w.steps-is
          w.found-is
      | else-told-held w ↦
          found_as (found-tested _ _ _ {mid = all_put c} c.put_rows-told.ensures room w.values_tested-found.ensures) w.resources-is w.steps-is w.found-is
    ]

pub with_repeats-requires : goal.with_repeats-requires
with_repeats-requires c = found_within _ _ _ (found (goal.at.with_repeats-requires c).Joined-told-held) c.requires.1

pub shape_of-resources : goal.shape_of-resources
shape_of-resources c = length-filling _ _ _ (found (goal.at.shape_of-resources c).Joined-told-held).read.resource

pub shape_of-steps : goal.shape_of-steps
shape_of-steps c = length-filling _ _ _ (found (goal.at.shape_of-steps c).Joined-told-held).read.step

pub returns : goal.returns
returns c =
    found_rows _ _ _ (found (goal.at.returns c).Joined-told-held) c.requires.1 (length-row_offers _ _ _ _) _ c.with_repeats.ensures
