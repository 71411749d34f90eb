-- `put_table` puts lines by what a call answers: it accepts the book, so each entry is what its row clears or commits.
-- Assumes nothing.
use Rattle.forms.proofs.Shows.{shows-as}
use Rattle.rowpages.proofs.Accepted.{table-own, refused-not}
use borrow.Author.Rules.{rules}
use Rattle.rowpages.proofs.table.put_table.Goals as goal

pub returns-in_default : goal.returns-in_default
returns-in_default c =
    absurd (refused-not _ _ _ _ _ _ c.clear.ensures _ (search rules) (search rules) c.requires.0 c.in_default.is)

pub returns : goal.returns
returns c =
    shows-as _ _ _ _ (table-own _ _ _ _ _ _ c.clear.ensures _ c.in-Ok.is _ _ _ c.requires.1) c.put_lines.ensures
