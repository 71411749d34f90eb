-- `works_opened` reads the rows into columns of zeros, and works over them.
-- Assumes nothing.
use mathlib.Core.Path.{◌≡◌, sym, subst, ◌∙◌}
use native.Mathlib.Omega.{arith}
use Rattle.std.proofs.lemmas.Result.{err_from_is_err_and}
use Rattle.values.specs.Refusals.{no_fault}
use Rattle.limits.specs.Ranges.{Ranged}
use Rattle.layout.specs.Read.{contents_of}
use Rattle.columns.specs.inner.Columns.{Blank}
use Rattle.columns.specs.inner.Sides.{lists_in, lists_behind}
use Rattle.columns.proofs.Offers.{blank-room}
use Rattle.book.specs.Faults.{first_fault}
use Rattle.sale.specs.inner.Sale.{Stands}
use Rattle.sale.proofs.Sales.{columns-rows, columns-ordered, first-stands}
use Rattle.call.proofs.Calls.{opened_inside, opened-stands}
use Rattle.workings.proofs.Worked.{answer-refused, answer-worked, first_rows}
use Rattle.workings.proofs.Contained.{works-stand}
use Rattle.workings.proofs.works.works_opened.Goals as goal
use Rattle.workings.proofs.works.works_opened.Goals.{After-blank-columns, After-read_columns, In_ok-read_columns}

-- the columns of zeros have room for the rows
blank : (c : After-blank-columns) → Blank c.args.head.rows (lists_in c.blank-columns.result)
blank c = record { room = 600; enough = (opened_inside _ _ _ _ c.requires).few; zeros = c.blank-columns.ensures }

pub read_columns-requires : goal.read_columns-requires
read_columns-requires c =
    let inside = opened_inside _ _ _ _ c.requires in
    (omega arith, (inside, inside.few, blank-room _ _ (blank (goal.at.read_columns-requires c).After-blank-columns)))

-- the rows decide
fault : (c : After-read_columns) → first_fault c.args.book.now ≡ c.read_columns.result
fault c = first_rows _ _ _ _ _ c.requires c.read_columns.ensures.found

pub returns-in_err-read_columns : goal.returns-in_err-read_columns
returns-in_err-read_columns c =
    let failed = err_from_is_err_and c.from_residual.result c.from_residual.ensures.1 in
    rw (failed.1, failed.2)
    (answer-refused _ _ _ (fault (goal.at.returns-in_err-read_columns c).After-read_columns ∙ c.in_err-read_columns.was))

-- past the test the book is accepted
accepted : (c : In_ok-read_columns) → first_fault c.args.book.now ≡ c.read_columns.result → first_fault c.args.book.now ≡ no_fault
accepted c own = own ∙ c.in_ok-read_columns.was

-- what the book says stands in the columns
stands : (c : In_ok-read_columns)
    → first_fault c.args.book.now ≡ c.read_columns.result → Blank c.args.head.rows (lists_in c.blank-columns.result)
    → Stands (contents_of c.args.book.now) c.args.head.parameters c.args.head.rows (lists_in c.read_columns.new.columns)
stands c own room =
    opened-stands _ _ _ _ c.requires _ _ _ (accepted c own) room c.read_columns.ensures

pub rows-rows-requires : goal.rows-rows-requires
rows-rows-requires c =
    let at = goal.at.rows-rows-requires c in
    let ok = stands at.In_ok-read_columns (fault at.After-read_columns) (blank at.After-blank-columns) in
    (omega arith, (((opened_inside _ _ _ _ c.requires).few, columns-rows _ _ _ _ ok), columns-ordered _ _ _ _ ok))

pub works_at-requires : goal.works_at-requires
works_at-requires c =
    let at = goal.at.works_at-requires c in
    let ok = stands at.In_ok-read_columns (fault at.After-read_columns) (blank at.After-blank-columns) in
    subst Ranged (sym ok.own) ok.clearable.parameters

pub returns : goal.returns
returns c =
    let at = goal.at.returns c in
    let own = fault at.After-read_columns in
    answer-worked _ _ _ (accepted at.In_ok-read_columns own)
    (works-stand _ _ _ (lists_behind c.rows-rows.result) _ _ _ _
    (first-stands _ _ _ _ (stands at.In_ok-read_columns own (blank at.After-blank-columns)) _ c.rows-rows.ensures)
    c.works_at.ensures)
