-- `clear_in` reads the rows of a book whose edition, parameters and number of rows have passed into columns, and clears them.
-- Assumes nothing.
use mathlib.Core.Path.{sym, ◌∙◌}
use native.Mathlib.Omega.{arith}
use Rattle.std.proofs.lemmas.Result.{err_from_is_err_and}
use Rattle.columns.proofs.Offers.{blank-room}
use Rattle.sale.proofs.Sales.{columns-rows, columns-ordered, first-count, first-stands}
use Rattle.call.proofs.Calls.{opened_inside, rows-refused, buffers-decide, outcome-refused, outcome-cleared}
use Rattle.call.proofs.Ready.{ready}
use Rattle.call.proofs.rows.clear_in.Goals as goal

pub read_columns-requires : goal.read_columns-requires
read_columns-requires g c = (
  omega arith,
  (
    opened_inside _ _ _ _ c.requires.0,
    c.requires.1.0,
    blank-room _ _ (record { room = _; enough = c.requires.1.0; zeros = c.blank-columns.ensures }),
  ),
)

pub returns-in_err-read_columns : goal.returns-in_err-read_columns
returns-in_err-read_columns g c =
    let p = err_from_is_err_and c.from_residual.result c.from_residual.ensures.1 in
    rw (p.1, p.2)
    (outcome-refused _ _ _ _ (rows-refused _ _ _ _ c.requires.0 _ _ _ (sym c.in_err-read_columns.was ∙ c.read_columns.ensures.found)))

pub returns-in_err-buffer_fault : goal.returns-in_err-buffer_fault
returns-in_err-buffer_fault g c =
    let p = err_from_is_err_and c.from_residual-in_err-buffer_fault.result c.from_residual-in_err-buffer_fault.ensures.1 in
    rw (p.1, p.2)
    (outcome-refused _ _ _ _
    (buffers-decide _ _ _ _ c.requires.0 _ _ _ (sym c.in_ok-read_columns.was ∙ c.read_columns.ensures.found) c.in_err-buffer_fault.ensures))

pub rows-requires : goal.rows-requires
rows-requires g c =
    let r = ready _ _ _ _ c.requires.0 _ _ _ c.requires.1.0 c.blank-columns.ensures c.read_columns.ensures _ _ c.in_ok-read_columns.was c.in_ok-buffer_fault.ensures in
    (omega arith, ((c.requires.1.0, columns-rows _ _ _ _ r.stands), columns-ordered _ _ _ _ r.stands))

pub clearing-requires-clause-some_stand : goal.clearing-requires-clause-some_stand
clearing-requires-clause-some_stand g c =
    let r = ready _ _ _ _ c.requires.0 _ _ _ c.requires.1.0 c.blank-columns.ensures c.read_columns.ensures _ _ c.in_ok-read_columns.was c.in_ok-buffer_fault.ensures in
    record { contents = _; stands = first-stands _ _ _ _ r.stands _ c.rows.ensures }

pub clearing-requires-clause-rows_in_bounds : goal.clearing-requires-clause-rows_in_bounds
clearing-requires-clause-rows_in_bounds g c =
    let r = ready _ _ _ _ c.requires.0 _ _ _ c.requires.1.0 c.blank-columns.ensures c.read_columns.ensures _ _ c.in_ok-read_columns.was c.in_ok-buffer_fault.ensures in
    let count = first-count _ _ _ _ r.stands _ c.rows.ensures in
    (omega (arith, count, c.requires.0.rows, r.callable.cleared-long), omega (arith, count, c.requires.0.rows, r.callable.committed-long))

pub returns : goal.returns
returns g c =
    let r = ready _ _ _ _ c.requires.0 _ _ _ c.requires.1.0 c.blank-columns.ensures c.read_columns.ensures _ _ c.in_ok-read_columns.was c.in_ok-buffer_fault.ensures in
    outcome-cleared _ _ _ _ _ _ r.passed (c.clearing.ensures _ (first-stands _ _ _ _ r.stands _ c.rows.ensures))
