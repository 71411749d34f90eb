-- `opened` is what a book says before its rows, whatever the first fault of that is.
-- Assumes nothing.
use mathlib.Core.Path.{sym, ◌∙◌}
use Rattle.book.proofs.opened.Goals as goal

pub returns-in-Ok : goal.returns-in-Ok
returns-in-Ok c =
    let said = c.opening_in.ensures in
    record {
      passed = sym c.before_rows.ensures ∙ c.in-Ok.is;
      edition = said.edition;
      parameters = said.parameters;
      rows = said.rows;
    }

pub returns-in-Err : goal.returns-in-Err
returns-in-Err c = record { refused = sym c.before_rows.ensures ∙ c.in-Err.is; said = c.opening_in-in-Err.ensures }
